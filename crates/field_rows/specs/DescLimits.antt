-- The spans of a description lie inside it, because the nodes that they draw do.
use Rattle.std.specs.Prelude.{ℕ, ◌+◌, ◌≤◌, List}
use Rattle.std.proofs.Common.{arith}
use Rattle.meaning.specs.Rules.{Rule}
use Rattle.meaning.specs.Forest.{◌⊕◌}
use Rattle.meaning.specs.Pdl.{constraint_list}
use Rattle.grammar.specs.Limits.{Limits, limits_left, limits_right}
use Rattle.spans.specs.declared.Span.{Span}
use Rattle.spans.specs.declared.ArraySize.{ArraySize}
use Rattle.spans.specs.declared.ArraySize.TheVariants.{Unknown, Modifier, Known}
use Rattle.spans.specs.declared.Target.TheVariants.{OfField, OfPayload, OfBody}
use Rattle.spans.specs.declared.FieldDesc.{FieldDesc}
use Rattle.spans.specs.declared.FieldDesc.TheVariants.{Checksum, Padding, Size, Count, ElementSize, Body, Payload, FixedScalar, FixedEnum, Reserved, Array, Scalar, Typedef, Group}
use Rattle.spans.specs.Drawn.{leaf_at, draw_operand, draw_array_size, list_at, draw_desc}
use Rattle.spans.specs.Answers.{desc_list}
use Rattle.walk.specs.Terms.{Inside, InsideSize}
use Rattle.walk.specs.Insides.{operand_inside, part_inside}
use Rattle.field_rows.specs.DescTerms.{InsideDesc}

module _ (o n : ℕ) where
  span_in : (s : Span) → o + s.start + s.len ≤ o + n → Inside n s
  span_in s h = omega arith

  -- the second of two nodes
  other_in : (j k : Rule) (r s : Span) → Limits o (o + n) (leaf_at j o r ⊕ leaf_at k o s) → Inside n s
  other_in j k r s h = span_in s h.1.1.1.1.0

  size_inside : (v : ArraySize) → Limits o (o + n) (draw_array_size o v) → InsideSize n v
  size_inside Unknown h = tt
  size_inside (Modifier s) h = span_in s h.1.0
  size_inside (Known s) h = span_in s h.1.0

  pub desc_inside : (t : List ℕ) (l : ℕ) (f : FieldDesc) → Limits o (o + n) (draw_desc o t l f) → InsideDesc n f
  desc_inside t l (Checksum id) h = span_in id h.1.1.0.1.0
  desc_inside t l (Padding size) h = span_in size h.1.1.0.1.0
  desc_inside t l (Size (OfField x) width) h = (span_in x h.1.1.0.1.0, other_in Rule.identifier Rule.integer x width h.1.1.0)
  desc_inside t l (Size (OfPayload x) width) h = (span_in x h.1.1.0.1.0, other_in Rule.payload_identifier Rule.integer x width h.1.1.0)
  desc_inside t l (Size (OfBody x) width) h = (span_in x h.1.1.0.1.0, other_in Rule.body_identifier Rule.integer x width h.1.1.0)
  desc_inside t l (Count id width) h = (span_in id h.1.1.0.1.0, other_in Rule.identifier Rule.integer id width h.1.1.0)
  desc_inside t l (ElementSize id width) h = (span_in id h.1.1.0.1.0, other_in Rule.identifier Rule.integer id width h.1.1.0)
  desc_inside t l Body h = tt
  desc_inside t l (Payload modifier) h = part_inside Rule.size_modifier o n modifier h.1.1.0
  desc_inside t l (FixedScalar value width) h = (span_in value h.1.1.0.1.0, other_in Rule.integer Rule.integer value width h.1.1.0)
  desc_inside t l (FixedEnum tag type) h = (span_in tag h.1.1.0.1.0, other_in Rule.identifier Rule.identifier tag type h.1.1.0)
  desc_inside t l (Reserved width) h = span_in width h.1.1.0.1.0
  desc_inside t l (Array id element size) h =
      let k : Limits o (o + n) (draw_operand o element ⊕ draw_array_size o size) = h.1.1.0.1.1.1 in (
        span_in id h.1.1.0.1.0,
        (
          operand_inside o n element (limits_left o (o + n) (draw_operand o element) (draw_array_size o size) k),
          size_inside size (limits_right o (o + n) (draw_operand o element) (draw_array_size o size) k),
        ),
      )
  desc_inside t l (Scalar id width) h = (span_in id h.1.1.0.1.0, other_in Rule.identifier Rule.integer id width h.1.1.0)
  desc_inside t l (Typedef id type) h = (span_in id h.1.1.0.1.0, other_in Rule.identifier Rule.identifier id type h.1.1.0)
  desc_inside t l (Group id constraints) h = span_in id h.1.1.0.1.0

-- a group's constraints among its nodes
pub group_limits : (lo hi o : ℕ) (t : List ℕ) (l : ℕ) (f : FieldDesc) → Limits lo hi (draw_desc o t l f)
    → Limits lo hi (list_at constraint_list o t (desc_list f))
group_limits lo hi o t l (Checksum id) h = tt
group_limits lo hi o t l (Padding size) h = tt
group_limits lo hi o t l (Size id width) h = tt
group_limits lo hi o t l (Count id width) h = tt
group_limits lo hi o t l (ElementSize id width) h = tt
group_limits lo hi o t l Body h = tt
group_limits lo hi o t l (Payload modifier) h = tt
group_limits lo hi o t l (FixedScalar value width) h = tt
group_limits lo hi o t l (FixedEnum tag type) h = tt
group_limits lo hi o t l (Reserved width) h = tt
group_limits lo hi o t l (Array id element size) h = tt
group_limits lo hi o t l (Scalar id width) h = tt
group_limits lo hi o t l (Typedef id type) h = tt
group_limits lo hi o t l (Group id constraints) h = h.1.1.0.1.1.1
