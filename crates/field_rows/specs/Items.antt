-- What the walk meets in one field, in the words of its spans.
use Rattle.std.specs.Prelude.{ℕ, ◌+◌, ◌≡◌, refl, List, [], ◌∷◌, ◌++◌, drop, Option, None, Some}
use Rattle.std.proofs.Math.Path.{ap}
use Rattle.std.proofs.Common.{ap₂, subst, ◌∙◌}
use Rattle.meaning.specs.Rules.{Rule}
use Rattle.meaning.specs.Peg.{taken}
use Rattle.meaning.specs.Forest.{Forest, nil, ◌⊕◌}
use Rattle.meaning.specs.Tables.{Table, Item, row, count, first_of}
use Rattle.meaning.specs.Walk.{node, part, Desc, described, parse_constraint_list, parse_field}
use Rattle.spans.specs.declared.Constraint.{Constraint}
use Rattle.spans.specs.declared.Matched.{Matched}
use Rattle.spans.specs.declared.Field.{Field}
use Rattle.spans.specs.Drawn.{draw_condition, draw_desc}
use Rattle.spans.specs.Answers.{desc_list}
use Rattle.walk.specs.declared.Number.{Number}
use Rattle.walk.specs.declared.Described.{Described}
use Rattle.walk.specs.Terms.{integer_items, operand_number}
use Rattle.walk.specs.Insides.{InsideConstraint}
use Rattle.walk.specs.DrawnItems.{constraint_items, constraint_words}
use Rattle.constraint_rows.specs.Constraints.{row_words}
use Rattle.constraint_rows.specs.OptionalLists.{part_nodes, part_items}
use Rattle.field_rows.specs.DescTerms.{described_as, desc_items, row_of, Says, says}
use Rattle.field_rows.specs.Halves.{following_desc}
use Rattle.field_rows.specs.Counts.{shape, rows, field_by, field_by_lem}

-- ---- the condition: its number, its row, the word of its row's number, and that its spans lie in a text of n bytes
abbrev pub cond_number : List ℕ → ℕ → Option Constraint → Option Number
cond_number src o None = None
cond_number src o (Some c) = operand_number src o c.value

abbrev pub cond_rows : List ℕ → ℕ → Option Constraint → List Item
cond_rows src o None = []
cond_rows src o (Some c) = row Table.constraints (row_words src o c) ∷ []

abbrev pub cond_word : Option Constraint → ℕ → ℕ
cond_word None k = 0
cond_word (Some c) k = k

abbrev pub InsideCondition : ℕ → Option Constraint → Type 0
InsideCondition n None = Unit {0}
InsideCondition n (Some c) = InsideConstraint n c

pub known_condition : (n : ℕ) {k : Option Constraint} {c : Constraint} → k ≡ Some c → InsideCondition n k → InsideConstraint n c
known_condition n e h = subst (λ (x : Option Constraint). InsideCondition n x) e h

-- ---- the whole field; k constraints stand before it
abbrev pub field_says : List ℕ → ℕ → Matched Field → Described
field_says src o f = described_as src o f.value.desc.value

abbrev pub field_group : List ℕ → ℕ → Matched Field → List Item
field_group src o f = part_items src o (desc_list f.value.desc.value)

abbrev pub field_count : List ℕ → ℕ → Matched Field → ℕ
field_count src o f = count Table.constraints (field_group src o f)

-- its row: d is what it says, n counts the group's constraints
abbrev pub field_row : List ℕ → ℕ → Matched Field → Described → ℕ → ℕ → ℕ → List ℕ
field_row src o f d k n last = row_of d src o (taken f.at) (first_of k n) n (cond_word f.value.condition last)

unfoldable pub field_items : List ℕ → ℕ → ℕ → Matched Field → List Item
field_items src k o f =
    shape (integer_items (cond_number src o f.value.condition)) (desc_items (field_says src o f)) (field_group src o f) (cond_rows src o f.value.condition)
    (field_row src o f (field_says src o f) k (field_count src o f) (k + field_count src o f + 1))

shape_same : {a a' b b' c c' e e' : List Item} {ws ws' : List ℕ} → a ≡ a' → b ≡ b' → c ≡ c' → e ≡ e' → ws ≡ ws' → shape a b c e ws ≡ shape a' b' c' e' ws'
shape_same {a} {a'} {b} {b'} {c} {c'} {e} {e'} {ws} {ws'} p q r s t =
    ap₂ ◌++◌ (ap₂ ◌++◌ (ap₂ ◌++◌ p (ap₂ ◌++◌ q r)) s) (ap (λ (x : List ℕ). row Table.fields x ∷ []) t)

-- by what its description says, and its condition
said_by : (src : List ℕ) (o k s l : ℕ) (c : Option Constraint) (d : Desc) (x : Described) (g : Forest) → Says src x g d
    → field_by src k d (part Rule.constraint (draw_condition o c)) s l
    ≡ shape (integer_items (cond_number src o c)) (desc_items x) (parse_constraint_list src g) (cond_rows src o c)
    (row_of x src s l (first_of k (count Table.constraints (parse_constraint_list src g))) (count Table.constraints (parse_constraint_list src g))
    (cond_word c (k + count Table.constraints (parse_constraint_list src g) + 1)))
unfolding field_by row_words
said_by src o k s l (Some c) d x g h =
    shape_same (constraint_items src o (o + c.span.start) c.span.len c.id nil c.value) h.ints (ap (parse_constraint_list src) h.group)
    (constraint_words src o (o + c.span.start) c.span.len c.id nil c.value)
    (h.words s l (first_of k (rows src d)) (rows src d) (k + rows src d + 1)
    ∙ ap (λ (v : Forest). row_of x src s l (first_of k (count Table.constraints (parse_constraint_list src v)))
    (count Table.constraints (parse_constraint_list src v))
    (k + count Table.constraints (parse_constraint_list src v) + 1)) h.group)
said_by src o k s l None d x g h =
    shape_same {a = []} {e = []} refl h.ints (ap (parse_constraint_list src) h.group) refl
    (h.words s l (first_of k (rows src d)) (rows src d) 0
    ∙ ap (λ (v : Forest). row_of x src s l (first_of k (count Table.constraints (parse_constraint_list src v)))
    (count Table.constraints (parse_constraint_list src v)) 0) h.group)

module _ (src : List ℕ) (o : ℕ) (f : Matched Field) where
  abbrev condition : Forest
  condition = draw_condition o f.value.condition

  abbrev kids : Forest
  kids = draw_desc o (drop o src) (taken f.value.desc.at) f.value.desc.value ⊕ condition

  pub field_items_lem : (xs : List Item) (more : Forest) → parse_field src xs (node o (taken f.at) kids more) ≡ field_items src (count Table.constraints xs) o f
  unfolding field_items
  field_items_lem xs more =
      field_by_lem src xs o (taken f.at) kids more
      ∙ ap (λ (v : Forest). field_by src (count Table.constraints xs) (described kids) (part Rule.constraint v) o (taken f.at))
      (following_desc o (drop o src) (taken f.value.desc.at) f.value.desc.value condition)
      ∙ said_by src o (count Table.constraints xs) o (taken f.at) f.value.condition (described kids) (field_says src o f)
      (part_nodes o (drop o src) (desc_list f.value.desc.value))
      (says src o (drop o src) (taken f.value.desc.at) condition f.value.desc.value)
