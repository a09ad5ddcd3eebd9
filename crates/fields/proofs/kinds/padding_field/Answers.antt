use Rattle.std.proofs.Common.{refl}
use Rattle.grammar.specs.Drawing.{then, whole, draws_rule, from_start}
use Rattle.spans.specs.Parts.{sign, mark}
use Rattle.meaning.specs.Rules.{Rule}
use Rattle.meaning.specs.Pdl.{padding_field}
use Rattle.fields.specs.Kinds.{describes}
use Rattle.fields.proofs.kinds.padding_field.Goals as goal

pub returns : goal.returns
unfolding padding_field
returns c = describes c.described.ensures
    (draws_rule Rule.padding_field refl
    (whole
    (then
    (then (then (sign (from_start c.literal.ensures)) (mark c.next_byte.ensures)) c.next_number-size.ensures.drawn)
    (mark c.next_byte-2.ensures))))
    (λ h. tt)
