use Rattle.std.proofs.Common.{refl}
use Rattle.grammar.specs.Drawing.{then, whole, draws_rule, redrawn, from_start}
use Rattle.spans.specs.Parts.{gap, sign, mark}
use Rattle.grammar.specs.Nodes.{nil_right}
use Rattle.meaning.specs.Rules.{Rule}
use Rattle.meaning.specs.Pdl.{size_field}
use Rattle.fields.specs.Kinds.{describes}
use Rattle.fields.proofs.kinds.size_field.Goals as goal

pub returns : goal.returns
unfolding size_field
returns c = describes c.described.ensures
    (draws_rule Rule.size_field refl
    (redrawn
    (whole
    (then
    (then
    (then (then (then (sign (from_start c.literal.ensures)) (mark c.next_byte.ensures))
    (then (gap c.then_blanks-b.ensures) c.then_target-id.ensures.drawn)) (mark c.next_byte-2.ensures))
    (mark c.next_byte-3.ensures))
    c.next_number-width.ensures.drawn))
    (λ h o. simp nil_right)))
    (λ h. tt)
