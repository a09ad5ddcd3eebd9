-- What a field's description says in the words of its spans, and that this is what the walk makes of the nodes that it draws.
use Rattle.std.specs.Prelude.{ℕ, ◌+◌, ◌≡◌, List, ◌++◌, eqb, Option, None, Some}
use Rattle.std.proofs.Math.Path.{refl}
use Rattle.std.proofs.Common.{subst}
use Rattle.meaning.specs.Choice.{pick}
use Rattle.meaning.specs.Forest.{Forest, ◌⊕◌}
use Rattle.meaning.specs.Places.{place_at}
use Rattle.meaning.specs.Tables.{Item}
use Rattle.meaning.specs.Rows.{field_words}
use Rattle.meaning.specs.Walk.{place, name, optional, numbers, Desc, describe, described}
use Rattle.spans.specs.declared.Span.{Span}
use Rattle.spans.specs.declared.Operand.{Operand}
use Rattle.spans.specs.declared.Operand.TheVariants.{Identifier, Integer}
use Rattle.spans.specs.declared.ArraySize.{ArraySize}
use Rattle.spans.specs.declared.ArraySize.TheVariants.{Unknown, Modifier, Known}
use Rattle.spans.specs.declared.Target.{Target}
use Rattle.spans.specs.declared.Target.TheVariants.{OfField, OfPayload, OfBody}
use Rattle.spans.specs.declared.FieldDesc.{FieldDesc}
use Rattle.spans.specs.declared.FieldDesc.TheVariants.{Checksum, Padding, Size, Count, ElementSize, Body, Payload, FixedScalar, FixedEnum, Reserved, Array, Scalar, Typedef, Group}
use Rattle.spans.specs.Drawn.{draw_desc}
use Rattle.spans.specs.Answers.{desc_list}
use Rattle.walk.specs.declared.Described.{Described}
use Rattle.walk.specs.declared.Name.{Name}
use Rattle.walk.specs.declared.Number.{Number}
use Rattle.walk.specs.declared.kinds.FieldKind.{FieldKind}
use Rattle.walk.specs.declared.kinds.FieldKind.TheVariants as kinds
use Rattle.walk.specs.Kinds.{field_number}
use Rattle.walk.specs.Terms.{number_at, span_number, operand_number, size_number, integer_items, no_name, span_name, operand_name, size_name, part_name, target_name, Inside, InsideOperand, InsideSize, InsidePart, InsideTarget, words_of_field}
use Rattle.constraint_rows.specs.OptionalLists.{part_nodes}

-- ---- names a, b, c and numbers a, b, by the kind of a description
abbrev pub terms : FieldKind → Name → Name → Name → Option Number → Option Number → Described
terms kind a b c na nb = record { kind = kind; a = a; b = b; c = c; na = na; nb = nb }

abbrev pub described_as : List ℕ → ℕ → FieldDesc → Described
described_as src o (Checksum id) = terms kinds.Checksum (span_name o id) no_name no_name None None
described_as src o (Padding size) = terms kinds.Padding no_name no_name no_name (span_number src o size) None
described_as src o (Size id width) = terms kinds.Size (target_name o id) no_name no_name (span_number src o width) None
described_as src o (Count id width) = terms kinds.Count (span_name o id) no_name no_name (span_number src o width) None
described_as src o (ElementSize id width) = terms kinds.ElementSize (span_name o id) no_name no_name (span_number src o width) None
described_as src o Body = terms kinds.Body no_name no_name no_name None None
described_as src o (Payload modifier) = terms kinds.Payload no_name no_name (part_name o modifier) None None
described_as src o (FixedScalar value width) = terms kinds.FixedScalar no_name no_name no_name (span_number src o width) (span_number src o value)
described_as src o (FixedEnum tag type) = terms kinds.FixedEnum (span_name o type) (span_name o tag) no_name None None
described_as src o (Reserved width) = terms kinds.Reserved no_name no_name no_name (span_number src o width) None
described_as src o (Array id element size) = terms kinds.Array (span_name o id) (operand_name o element) (size_name o size) (operand_number src o element)
    (size_number src o size)
described_as src o (Scalar id width) = terms kinds.Scalar (span_name o id) no_name no_name (span_number src o width) None
described_as src o (Typedef id type) = terms kinds.Typedef (span_name o id) (span_name o type) no_name None None
described_as src o (Group id constraints) = terms kinds.Group (span_name o id) no_name no_name None None

-- the spans of a description lie in a text of n bytes
abbrev pub InsideDesc : ℕ → FieldDesc → Type 0
InsideDesc n (Checksum id) = Inside n id
InsideDesc n (Padding size) = Inside n size
InsideDesc n (Size id width) = InsideTarget n id × Inside n width
InsideDesc n (Count id width) = Inside n id × Inside n width
InsideDesc n (ElementSize id width) = Inside n id × Inside n width
InsideDesc n Body = Unit {0}
InsideDesc n (Payload modifier) = InsidePart n modifier
InsideDesc n (FixedScalar value width) = Inside n value × Inside n width
InsideDesc n (FixedEnum tag type) = Inside n tag × Inside n type
InsideDesc n (Reserved width) = Inside n width
InsideDesc n (Array id element size) = Inside n id × (InsideOperand n element × InsideSize n size)
InsideDesc n (Scalar id width) = Inside n id × Inside n width
InsideDesc n (Typedef id type) = Inside n id × Inside n type
InsideDesc n (Group id constraints) = Inside n id

pub known_inside : (n : ℕ) {f g : FieldDesc} → f ≡ g → InsideDesc n f → InsideDesc n g
known_inside n e h = subst (λ (x : FieldDesc). InsideDesc n x) e h

-- the integers in the walk's order: a fixed scalar has its value, number b, before its width
abbrev pub desc_items : Described → List Item
desc_items d = pick (eqb (field_number d.kind) 8) (integer_items d.nb ++ integer_items d.na) (integer_items d.na ++ integer_items d.nb)

abbrev pub row_of : Described → List ℕ → ℕ → ℕ → ℕ → ℕ → ℕ → List ℕ
row_of d src s l first n cond = words_of_field d.kind (place_at src s) (place_at src (s + l)) d.a d.b d.c d.na d.nb first n cond

-- the walk's description d of a field says x, and has the group's nodes g
pub record Says (src : List ℕ) (x : Described) (g : Forest) (d : Desc) : Type 0 where
  pub words : (s l first n cond : ℕ) →
      field_words d.kind (place src s l) (name d.a) (name d.b) (name d.c) (optional src d.na) (optional src d.nb) first n cond
      ≡ row_of x src s l first n cond
  pub ints : numbers src d.ints ≡ desc_items x
  pub group : d.group ≡ g

module _ (src : List ℕ) (o : ℕ) (t : List ℕ) (n : ℕ) (more : Forest) where
  abbrev DescSays : FieldDesc → Type 0
  DescSays f = Says src (described_as src o f) (part_nodes o t (desc_list f)) (described (draw_desc o t n f ⊕ more))

  size_says : (id : Target) (width : Span) → DescSays (Size id width)
  unfolding describe numbers number_at words_of_field
  size_says (OfField x) width = record { words = λ s l first n cond. refl; ints = refl; group = refl }
  size_says (OfPayload x) width = record { words = λ s l first n cond. refl; ints = refl; group = refl }
  size_says (OfBody x) width = record { words = λ s l first n cond. refl; ints = refl; group = refl }

  payload_says : (modifier : Option Span) → DescSays (Payload modifier)
  unfolding describe numbers number_at words_of_field
  payload_says None = record { words = λ s l first n cond. refl; ints = refl; group = refl }
  payload_says (Some x) = record { words = λ s l first n cond. refl; ints = refl; group = refl }

  array_says : (id : Span) (element : Operand) (size : ArraySize) → DescSays (Array id element size)
  unfolding describe numbers number_at words_of_field
  array_says id (Identifier e) Unknown = record { words = λ s l first n cond. refl; ints = refl; group = refl }
  array_says id (Identifier e) (Modifier x) = record { words = λ s l first n cond. refl; ints = refl; group = refl }
  array_says id (Identifier e) (Known x) = record { words = λ s l first n cond. refl; ints = refl; group = refl }
  array_says id (Integer e) Unknown = record { words = λ s l first n cond. refl; ints = refl; group = refl }
  array_says id (Integer e) (Modifier x) = record { words = λ s l first n cond. refl; ints = refl; group = refl }
  array_says id (Integer e) (Known x) = record { words = λ s l first n cond. refl; ints = refl; group = refl }

  group_says : (id : Span) (list : Option Span) → DescSays (Group id list)
  unfolding describe numbers number_at words_of_field
  group_says id None = record { words = λ s l first n cond. refl; ints = refl; group = refl }
  group_says id (Some x) = record { words = λ s l first n cond. refl; ints = refl; group = refl }

  pub says : (f : FieldDesc) → DescSays f
  unfolding describe numbers number_at words_of_field
  says (Checksum id) = record { words = λ s l first n cond. refl; ints = refl; group = refl }
  says (Padding size) = record { words = λ s l first n cond. refl; ints = refl; group = refl }
  says (Size id width) = size_says id width
  says (Count id width) = record { words = λ s l first n cond. refl; ints = refl; group = refl }
  says (ElementSize id width) = record { words = λ s l first n cond. refl; ints = refl; group = refl }
  says Body = record { words = λ s l first n cond. refl; ints = refl; group = refl }
  says (Payload modifier) = payload_says modifier
  says (FixedScalar value width) = record { words = λ s l first n cond. refl; ints = refl; group = refl }
  says (FixedEnum tag type) = record { words = λ s l first n cond. refl; ints = refl; group = refl }
  says (Reserved width) = record { words = λ s l first n cond. refl; ints = refl; group = refl }
  says (Array id element size) = array_says id element size
  says (Scalar id width) = record { words = λ s l first n cond. refl; ints = refl; group = refl }
  says (Typedef id type) = record { words = λ s l first n cond. refl; ints = refl; group = refl }
  says (Group id constraints) = group_says id constraints
