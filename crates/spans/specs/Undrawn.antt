-- The parts of an answer, read back from the nodes that they draw at offset 0: so no two answers draw the same nodes.
use Rattle.std.specs.Prelude.{ℕ, ◌+◌, ◌≡◌, refl, List, false, drop, Option, None, Some}
use Rattle.std.proofs.Common.{arith, ap₂, subst, sym, ◌∙◌, eq-eqb}
use Rattle.std.proofs.Math.Path.{ap}
use Rattle.meaning.specs.Choice.{pick}
use Rattle.meaning.specs.Rules.{Rule, order, is}
use Rattle.meaning.specs.Peg.{Peg, rule, run, bytewise}
use Rattle.meaning.specs.Forest.{Forest, nil, tree, ◌⊕◌, nodes}
use Rattle.meaning.specs.Pdl.{enum_value_list, constraint_list}
use Rattle.meaning.specs.Walk as W
use Rattle.meaning.specs.Walk.{following}
use Rattle.grammar.specs.Nodes.{nodes_rule}
use Rattle.grammar.specs.Order.{kids_of}
use Rattle.spans.specs.declared.Span.{Span}
use Rattle.spans.specs.declared.Operand.{Operand}
use Rattle.spans.specs.declared.Operand.TheVariants.{Identifier, Integer}
use Rattle.spans.specs.declared.ArraySize.{ArraySize}
use Rattle.spans.specs.declared.ArraySize.TheVariants.{Unknown, Modifier, Known}
use Rattle.spans.specs.declared.Target.{Target}
use Rattle.spans.specs.declared.Target.TheVariants.{OfField, OfPayload, OfBody}
use Rattle.spans.specs.declared.Constraint.{Constraint}
use Rattle.spans.specs.declared.Tag.{Tag}
use Rattle.spans.specs.declared.Tag.TheVariants.{Value, Range, Other}
use Rattle.spans.specs.declared.FieldDesc.{FieldDesc}
use Rattle.spans.specs.declared.FieldDesc.TheVariants.{Checksum, Padding, Size, Count, ElementSize, Body, Payload, FixedScalar, FixedEnum, Reserved, Array, Scalar, Typedef, Group}
use Rattle.spans.specs.declared.Header.{Header}
use Rattle.spans.specs.Drawn.{draw_part, draw_operand, draw_array_size, draw_target, list_at, draw_constraint, draw_condition, draw_tag, draw_desc, draw_header}
use Rattle.spans.specs.Optionals.{before, NotFirst, not_first, part_here, part_behind}
use Rattle.spans.specs.Answers.{MatchedList, MatchedPart, nowhere, no_tag, SoundTag, desc_list}

-- ---- spans: that of the first node
abbrev pub span_at : ℕ → ℕ → Span
span_at s l = record { start = s; len = l }

abbrev pub front : Forest → Span
front nil = nowhere
front (tree r s l k more) = span_at s l

abbrev back : Span → Span
back s = span_at (0 + s.start) s.len

pub span_back : (s : Span) → back s ≡ s
span_back s = ap (λ (n : ℕ). span_at n s.len) (omega arith)

-- ---- choices of tokens, by the node's rule
abbrev pub operand_of : Forest → Operand
operand_of nil = Identifier nowhere
operand_of (tree r s l k more) = pick (is Rule.integer r) (Integer (span_at s l)) (Identifier (span_at s l))

pub operand_back : (x : Operand) → operand_of (draw_operand 0 x) ≡ x
operand_back (Identifier s) = ap Identifier (span_back s)
operand_back (Integer s) = ap Integer (span_back s)

abbrev pub array_size_of : Forest → ArraySize
array_size_of nil = Unknown
array_size_of (tree r s l k more) = pick (is Rule.integer r) (Known (span_at s l)) (Modifier (span_at s l))

pub array_size_back : (x : ArraySize) → array_size_of (draw_array_size 0 x) ≡ x
array_size_back Unknown = refl
array_size_back (Modifier s) = ap Modifier (span_back s)
array_size_back (Known s) = ap Known (span_back s)

abbrev pub target_of : Forest → Target
target_of nil = OfField nowhere
target_of (tree r s l k more) =
    pick (is Rule.identifier r) (OfField (span_at s l)) (pick (is Rule.payload_identifier r) (OfPayload (span_at s l)) (OfBody (span_at s l)))

pub target_back : (x : Target) → target_of (draw_target 0 x) ≡ x
target_back (OfField s) = ap OfField (span_back s)
target_back (OfPayload s) = ap OfPayload (span_back s)
target_back (OfBody s) = ap OfBody (span_back s)

-- ---- a part that may be absent, as the walk takes it
abbrev pub part_of : W.Part → Option Span
part_of p = pick p.found (Some (span_at p.start p.len)) None

before_back : (w : Forest) (p : Option Span) → part_of (before 0 w p) ≡ p
before_back w None = refl
before_back w (Some s) = ap Some (span_back s)

-- a list that stands where its part says is a node of its own rule
module _ (k : Rule) (g : Peg) (plain : is Rule.COMMENT k ≡ false) (t : List ℕ) where
  list_node : (s : Span) → MatchedList (rule k g) t s → nodes (bytewise (rule k g)) (0 + s.start) (drop s.start t)
      ≡ tree k (0 + s.start) s.len (nodes (bytewise g) (0 + s.start) (drop s.start t)) nil
  unfolding run
  list_node s m =
      nodes_rule k (bytewise g) (0 + s.start) (drop s.start t) plain m.there
      ∙ ap (λ (n : ℕ). tree k (0 + s.start) n (nodes (bytewise g) (0 + s.start) (drop s.start t)) nil) m.ends

  list_back : (p : Option Span) → MatchedPart (rule k g) t p → part_of (W.part k (list_at (rule k g) 0 t p)) ≡ p
  list_back None m = refl
  list_back (Some s) m =
      ap (λ (w : Forest). part_of (W.part k w)) (list_node s m) ∙ rw (eq-eqb (order k) (order k) refl) (ap Some (span_back s))

  list_not_first : (r : Rule) → is r k ≡ false → (p : Option Span) → MatchedPart (rule k g) t p → NotFirst r (list_at (rule k g) 0 t p)
  list_not_first r e None m = tt
  list_not_first r e (Some s) m = subst (NotFirst r) (sym (list_node s m)) e

-- ---- constraints and conditions
abbrev pub constraint_of : Forest → Constraint
constraint_of w = record { span = front w; id = front (kids_of w); value = operand_of (following (kids_of w)) }

pub constraint_back : (c : Constraint) → constraint_of (draw_constraint 0 c) ≡ c
constraint_back c =
    ap₂ (λ (s i : Span). record { span = s; id = i; value = operand_of (draw_operand 0 c.value) }) (span_back c.span) (span_back c.id)
    ∙ ap (λ (v : Operand). record { span = c.span; id = c.id; value = v }) (operand_back c.value)

abbrev pub condition_of : Forest → Option Constraint
condition_of nil = None
condition_of (tree r s l k more) = Some (constraint_of (tree r s l k more))

pub condition_back : (x : Option Constraint) → condition_of (draw_condition 0 x) ≡ x
condition_back None = refl
condition_back (Some c) = ap Some (constraint_back c)

-- ---- tags
abbrev pub tag_of : Forest → Tag
tag_of nil = no_tag
tag_of (tree r s l k more) =
    pick (is Rule.enum_value r) (Value (record { id = front k; value = front (following k) }))
    (pick (is Rule.enum_other r) (Other (record { id = front k })) (Range (record {
      id = front k;
      start = front (following k);
      end = front (following (following k));
      tags = part_of (W.part Rule.enum_value_list (following (following (following k))));
    })))

pub tag_back : (t : List ℕ) (n : ℕ) (x : Tag) → SoundTag t x → tag_of (draw_tag 0 t n x) ≡ x
unfolding enum_value_list
tag_back t n (Value v) m = ap₂ (λ (i j : Span). Value (record { id = i; value = j })) (span_back v.id) (span_back v.value)
tag_back t n (Other x) m = ap (λ (i : Span). Other (record { id = i })) (span_back x.id)
tag_back t n (Range r) m =
    ap₂ (λ (j : Span) (p : Option Span). Range (record { id = back r.id; start = back r.start; end = j; tags = p })) (span_back r.end)
    (list_back Rule.enum_value_list _ refl t r.tags m)
    ∙ ap₂ (λ (i j : Span). Range (record { id = i; start = j; end = r.end; tags = r.tags })) (span_back r.id) (span_back r.start)

-- ---- descriptions
abbrev pub desc_of : Forest → FieldDesc
desc_of nil = Body
desc_of (tree r s l k more) =
    pick (is Rule.checksum_field r) (Checksum (front k))
    (pick (is Rule.padding_field r) (Padding (front k))
    (pick (is Rule.size_field r) (Size (target_of k) (front (following k)))
    (pick (is Rule.count_field r) (Count (front k) (front (following k)))
    (pick (is Rule.elementsize_field r) (ElementSize (front k) (front (following k)))
    (pick (is Rule.payload_field r) (Payload (part_of (W.part Rule.size_modifier k)))
    (pick (is Rule.fixed_field r)
    (pick (W.part Rule.integer k).found (FixedScalar (front k) (front (following k))) (FixedEnum (front k) (front (following k))))
    (pick (is Rule.reserved_field r) (Reserved (front k))
    (pick (is Rule.array_field r) (Array (front k) (operand_of (following k)) (array_size_of (following (following k))))
    (pick (is Rule.scalar_field r) (Scalar (front k) (front (following k)))
    (pick (is Rule.typedef_field r) (Typedef (front k) (front (following k)))
    (pick (is Rule.group_field r) (Group (front k) (part_of (W.part Rule.constraint_list (following k)))) Body)))))))))))

pub desc_back : (t : List ℕ) (n : ℕ) (x : FieldDesc) → MatchedPart constraint_list t (desc_list x) → desc_of (draw_desc 0 t n x) ≡ x
unfolding constraint_list
desc_back t n (Checksum id) m = ap Checksum (span_back id)
desc_back t n (Padding size) m = ap Padding (span_back size)
desc_back t n (Size (OfField s) width) m = ap₂ Size (target_back (OfField s)) (span_back width)
desc_back t n (Size (OfPayload s) width) m = ap₂ Size (target_back (OfPayload s)) (span_back width)
desc_back t n (Size (OfBody s) width) m = ap₂ Size (target_back (OfBody s)) (span_back width)
desc_back t n (Count id width) m = ap₂ Count (span_back id) (span_back width)
desc_back t n (ElementSize id width) m = ap₂ ElementSize (span_back id) (span_back width)
desc_back t n Body m = refl
desc_back t n (Payload None) m = refl
desc_back t n (Payload (Some s)) m = ap (λ (z : Span). Payload (Some z)) (span_back s)
desc_back t n (FixedScalar value width) m = ap₂ FixedScalar (span_back value) (span_back width)
desc_back t n (FixedEnum tag type) m = ap₂ FixedEnum (span_back tag) (span_back type)
desc_back t n (Reserved width) m = ap Reserved (span_back width)
desc_back t n (Array id (Identifier s) size) m =
    ap₂ (λ (i j : Span). Array i (Identifier j) (array_size_of (draw_array_size 0 size))) (span_back id) (span_back s)
    ∙ ap (λ (z : ArraySize). Array id (Identifier s) z) (array_size_back size)
desc_back t n (Array id (Integer s) size) m =
    ap₂ (λ (i j : Span). Array i (Integer j) (array_size_of (draw_array_size 0 size))) (span_back id) (span_back s)
    ∙ ap (λ (z : ArraySize). Array id (Integer s) z) (array_size_back size)
desc_back t n (Scalar id width) m = ap₂ Scalar (span_back id) (span_back width)
desc_back t n (Typedef id type) m = ap₂ Typedef (span_back id) (span_back type)
desc_back t n (Group id list) m = ap₂ Group (span_back id) (list_back Rule.constraint_list _ refl t list m)

-- a description is one node, behind which stands the condition
pub desc_following : (o : ℕ) (t : List ℕ) (n : ℕ) (x : FieldDesc) (w : Forest) → following (draw_desc o t n x ⊕ w) ≡ w
desc_following o t n (Checksum id) w = refl
desc_following o t n (Padding size) w = refl
desc_following o t n (Size id width) w = refl
desc_following o t n (Count id width) w = refl
desc_following o t n (ElementSize id width) w = refl
desc_following o t n Body w = refl
desc_following o t n (Payload modifier) w = refl
desc_following o t n (FixedScalar value width) w = refl
desc_following o t n (FixedEnum tag type) w = refl
desc_following o t n (Reserved width) w = refl
desc_following o t n (Array id element size) w = refl
desc_following o t n (Scalar id width) w = refl
desc_following o t n (Typedef id type) w = refl
desc_following o t n (Group id list) w = refl

-- ---- heads
abbrev head : Span → Span → Option Span → Option Span → Option Span → Option Span → Header
head k i p w f c = record { keyword = k; id = i; parent = p; width = w; function = f; constraints = c }

abbrev pub header_of : Forest → Header
header_of w =
    let parent = W.part Rule.identifier (following (following w)) in
    let width = W.part Rule.integer parent.next in
    let function = W.part Rule.string width.next in
    head (front w) (front (following w)) (part_of parent) (part_of width) (part_of function) (part_of (W.part Rule.constraint_list function.next))

same_head : {a b c d : Span} {p q w x f g u v : Option Span} → a ≡ b → c ≡ d → p ≡ q → w ≡ x → f ≡ g → u ≡ v → head a c p w f u ≡ head b d q x g v
same_head e1 e2 e3 e4 e5 e6 = cc

-- the parts behind the id that may be absent, before a list l, which is none of them
module _ (p w f : Option Span) (l : Forest)
    (no_name : NotFirst Rule.identifier l) (no_number : NotFirst Rule.integer l) (no_text : NotFirst Rule.string l) where
  abbrev behind_width : Forest
  behind_width = draw_part Rule.string 0 f ⊕ l

  abbrev behind_parent : Forest
  behind_parent = draw_part Rule.integer 0 w ⊕ behind_width

  abbrev parent : W.Part
  parent = W.part Rule.identifier (draw_part Rule.identifier 0 p ⊕ behind_parent)

  parent_is : parent ≡ before 0 behind_parent p
  parent_is =
      part_here Rule.identifier 0 behind_parent p refl
      (not_first Rule.identifier Rule.integer 0 behind_width w refl (not_first Rule.identifier Rule.string 0 l f refl no_name))

  abbrev width : W.Part
  width = W.part Rule.integer parent.next

  width_is : width ≡ before 0 behind_width w
  width_is =
      part_behind Rule.integer 0 behind_parent p parent _ parent_is
      (part_here Rule.integer 0 behind_width w refl (not_first Rule.integer Rule.string 0 l f refl no_number))

  abbrev function : W.Part
  function = W.part Rule.string width.next

  function_is : function ≡ before 0 l f
  function_is = part_behind Rule.string 0 behind_width w width _ width_is (part_here Rule.string 0 l f refl no_text)

  head_back : {a b c d : Span} {z : Option Span} → a ≡ b → c ≡ d → part_of (W.part Rule.constraint_list l) ≡ z
      → head a c (part_of parent) (part_of width) (part_of function) (part_of (W.part Rule.constraint_list function.next)) ≡ head b d p w f z
  head_back e1 e2 e3 =
      same_head e1 e2 (ap part_of parent_is ∙ before_back behind_parent p) (ap part_of width_is ∙ before_back behind_width w)
      (ap part_of function_is ∙ before_back l f) (ap part_of (part_behind Rule.constraint_list 0 l f function _ function_is refl) ∙ e3)

pub header_back : (k : Rule) (t : List ℕ) (h : Header) → MatchedPart constraint_list t h.constraints → header_of (draw_header k 0 t h) ≡ h
unfolding constraint_list
header_back k t h m =
    head_back h.parent h.width h.function _ (none Rule.identifier refl) (none Rule.integer refl) (none Rule.string refl)
    (span_back h.keyword) (span_back h.id) (list_back Rule.constraint_list _ refl t h.constraints m)
  where
    none : (r : Rule) → is r Rule.constraint_list ≡ false → NotFirst r (list_at constraint_list 0 t h.constraints)
    none r e = list_not_first Rule.constraint_list _ refl t r e h.constraints m
