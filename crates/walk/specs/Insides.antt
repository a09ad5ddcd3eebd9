-- The spans of an answer lie inside its match, because the nodes that they draw do.
use Rattle.std.specs.Prelude.{ℕ, ◌+◌, ◌≤◌, Option, None, Some}
use Rattle.std.proofs.Common.{arith}
use Rattle.meaning.specs.Rules.{Rule}
use Rattle.grammar.specs.Limits.{Limits, limits_left, limits_right}
use Rattle.spans.specs.declared.Span.{Span}
use Rattle.spans.specs.declared.Operand.{Operand}
use Rattle.spans.specs.declared.Operand.TheVariants.{Identifier, Integer}
use Rattle.spans.specs.declared.Constraint.{Constraint}
use Rattle.spans.specs.Drawn.{leaf_at, draw_part, draw_operand, draw_constraint}
use Rattle.walk.specs.Terms.{Inside, InsidePart, InsideOperand}

-- a node, an operand, and a part that may be absent
pub span_inside : (k : Rule) (o n : ℕ) (s : Span) → Limits o (o + n) (leaf_at k o s) → Inside n s
span_inside k o n s h = let e : o + s.start + s.len ≤ o + n = h.1.0 in omega arith

pub operand_inside : (o n : ℕ) (v : Operand) → Limits o (o + n) (draw_operand o v) → InsideOperand n v
operand_inside o n (Identifier s) h = span_inside Rule.identifier o n s h
operand_inside o n (Integer s) h = span_inside Rule.integer o n s h

wider_operand : (m n : ℕ) (v : Operand) → m ≤ n → InsideOperand m v → InsideOperand n v
wider_operand m n (Identifier s) e h = omega (arith, e, h)
wider_operand m n (Integer s) e h = omega (arith, e, h)

pub part_inside : (k : Rule) (o n : ℕ) (v : Option Span) → Limits o (o + n) (draw_part k o v) → InsidePart n v
part_inside k o n None h = tt
part_inside k o n (Some s) h = span_inside k o n s h

pub wider_part : (m n : ℕ) (v : Option Span) → m ≤ n → InsidePart m v → InsidePart n v
wider_part m n None e h = tt
wider_part m n (Some s) e h = omega (arith, e, h)

-- a constraint's spans
pub record InsideConstraint (n : ℕ) (c : Constraint) : Type 0 where
  pub span : Inside n c.span
  pub id : Inside n c.id
  pub value : InsideOperand n c.value

pub constraint_inside : (o k n : ℕ) (c : Constraint) → k ≤ n → Limits o (o + k) (draw_constraint o c) → InsideConstraint n c
constraint_inside o k n c e h =
    let a : o + c.span.start + c.span.len ≤ o + k = h.1.0 in
    let b : Inside k c.id = span_inside Rule.identifier o k c.id (limits_left o (o + k) (leaf_at Rule.identifier o c.id) (draw_operand o c.value)
    h.1.1.0) in
    let v : InsideOperand k c.value = operand_inside o k c.value (limits_right o (o + k) (leaf_at Rule.identifier o c.id) (draw_operand o c.value)
    h.1.1.0) in
    record { span = omega (arith, a, e); id = omega (arith, b, e); value = wider_operand k n c.value e v }
