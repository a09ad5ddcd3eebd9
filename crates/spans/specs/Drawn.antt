-- The nodes that the answers of the matchers stand for. o is the offset of the text t that the matcher was given, n the
-- length of the rule's match.
use Rattle.std.specs.Prelude.{ℕ, ◌+◌, List, drop, Option, None, Some}
use Rattle.meaning.specs.Rules.{Rule}
use Rattle.meaning.specs.Peg.{Peg, bytewise, taken}
use Rattle.meaning.specs.Forest.{Forest, nil, tree, ◌⊕◌, nodes}
use Rattle.meaning.specs.Pdl.{enum_value_list, constraint_list}
use Rattle.spans.specs.declared.Span.{Span}
use Rattle.spans.specs.declared.Operand.{Operand}
use Rattle.spans.specs.declared.Operand.TheVariants.{Identifier, Integer}
use Rattle.spans.specs.declared.ArraySize.{ArraySize}
use Rattle.spans.specs.declared.ArraySize.TheVariants.{Unknown, Modifier, Known}
use Rattle.spans.specs.declared.Target.{Target}
use Rattle.spans.specs.declared.Target.TheVariants.{OfField, OfPayload, OfBody}
use Rattle.spans.specs.declared.Constraint.{Constraint}
use Rattle.spans.specs.declared.Tag.{Tag}
use Rattle.spans.specs.declared.Tag.TheVariants.{Value, Range, Other}
use Rattle.spans.specs.declared.FieldDesc.{FieldDesc}
use Rattle.spans.specs.declared.FieldDesc.TheVariants.{Checksum, Padding, Size, Count, ElementSize, Body, Payload, FixedScalar, FixedEnum, Reserved, Array, Scalar, Typedef, Group}
use Rattle.spans.specs.declared.Matched.{Matched}
use Rattle.spans.specs.declared.Field.{Field}
use Rattle.spans.specs.declared.Header.{Header}

-- a node without children
abbrev pub leaf_at : Rule → ℕ → Span → Forest
leaf_at k o s = tree k (o + s.start) s.len nil nil

-- the node of a part that may be absent
abbrev pub draw_part : Rule → ℕ → Option Span → Forest
draw_part k o None = nil
draw_part k o (Some s) = leaf_at k o s

abbrev pub draw_operand : ℕ → Operand → Forest
draw_operand o (Identifier s) = leaf_at Rule.identifier o s
draw_operand o (Integer s) = leaf_at Rule.integer o s

abbrev pub draw_array_size : ℕ → ArraySize → Forest
draw_array_size o Unknown = nil
draw_array_size o (Modifier s) = leaf_at Rule.size_modifier o s
draw_array_size o (Known s) = leaf_at Rule.integer o s

abbrev pub draw_target : ℕ → Target → Forest
draw_target o (OfField s) = leaf_at Rule.identifier o s
draw_target o (OfPayload s) = leaf_at Rule.payload_identifier o s
draw_target o (OfBody s) = leaf_at Rule.body_identifier o s

-- the nodes of g where a part of it stands, or none
abbrev pub list_at : Peg → ℕ → List ℕ → Option Span → Forest
list_at g o t None = nil
list_at g o t (Some s) = nodes (bytewise g) (o + s.start) (drop s.start t)

abbrev pub draw_constraint : ℕ → Constraint → Forest
draw_constraint o c =
    tree Rule.constraint (o + c.span.start) c.span.len (leaf_at Rule.identifier o c.id ⊕ draw_operand o c.value) nil

abbrev pub draw_condition : ℕ → Option Constraint → Forest
draw_condition o None = nil
draw_condition o (Some c) = draw_constraint o c

abbrev pub draw_tag : ℕ → List ℕ → ℕ → Tag → Forest
draw_tag o t n (Value v) = tree Rule.enum_value o n (leaf_at Rule.identifier o v.id ⊕ leaf_at Rule.integer o v.value) nil
draw_tag o t n (Range r) =
    tree Rule.enum_range o n
    (leaf_at Rule.identifier o r.id ⊕ leaf_at Rule.integer o r.start ⊕ leaf_at Rule.integer o r.end ⊕ list_at enum_value_list o t r.tags)
    nil
draw_tag o t n (Other x) = tree Rule.enum_other o n (leaf_at Rule.identifier o x.id) nil

abbrev pub draw_desc : ℕ → List ℕ → ℕ → FieldDesc → Forest
draw_desc o t n (Checksum id) = tree Rule.checksum_field o n (leaf_at Rule.identifier o id) nil
draw_desc o t n (Padding size) = tree Rule.padding_field o n (leaf_at Rule.integer o size) nil
draw_desc o t n (Size id width) = tree Rule.size_field o n (draw_target o id ⊕ leaf_at Rule.integer o width) nil
draw_desc o t n (Count id width) = tree Rule.count_field o n (leaf_at Rule.identifier o id ⊕ leaf_at Rule.integer o width) nil
draw_desc o t n (ElementSize id width) = tree Rule.elementsize_field o n (leaf_at Rule.identifier o id ⊕ leaf_at Rule.integer o width) nil
draw_desc o t n Body = tree Rule.body_field o n nil nil
draw_desc o t n (Payload modifier) = tree Rule.payload_field o n (draw_part Rule.size_modifier o modifier) nil
draw_desc o t n (FixedScalar value width) = tree Rule.fixed_field o n (leaf_at Rule.integer o value ⊕ leaf_at Rule.integer o width) nil
draw_desc o t n (FixedEnum tag type) = tree Rule.fixed_field o n (leaf_at Rule.identifier o tag ⊕ leaf_at Rule.identifier o type) nil
draw_desc o t n (Reserved width) = tree Rule.reserved_field o n (leaf_at Rule.integer o width) nil
draw_desc o t n (Array id element size) = tree Rule.array_field o n (leaf_at Rule.identifier o id ⊕ draw_operand o element ⊕ draw_array_size o size) nil
draw_desc o t n (Scalar id width) = tree Rule.scalar_field o n (leaf_at Rule.identifier o id ⊕ leaf_at Rule.integer o width) nil
draw_desc o t n (Typedef id type) = tree Rule.typedef_field o n (leaf_at Rule.identifier o id ⊕ leaf_at Rule.identifier o type) nil
draw_desc o t n (Group id constraints) = tree Rule.group_field o n (leaf_at Rule.identifier o id ⊕ list_at constraint_list o t constraints) nil

-- a field's description, and its condition if there is one
abbrev pub draw_field : ℕ → List ℕ → Matched Field → Forest
draw_field o t f =
    tree Rule.field o (taken f.at) (draw_desc o t (taken f.value.desc.at) f.value.desc.value ⊕ draw_condition o f.value.condition) nil

-- a declaration's nodes up to its first list of tags or fields; k is the keyword's rule
abbrev pub draw_header : Rule → ℕ → List ℕ → Header → Forest
draw_header k o t h =
    leaf_at k o h.keyword ⊕ leaf_at Rule.identifier o h.id ⊕ draw_part Rule.identifier o h.parent ⊕ draw_part Rule.integer o h.width
    ⊕ draw_part Rule.string o h.function ⊕ list_at constraint_list o t h.constraints
