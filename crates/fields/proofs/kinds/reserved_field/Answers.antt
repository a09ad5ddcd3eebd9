use Rattle.std.proofs.Common.{refl}
use Rattle.grammar.specs.Drawing.{then, whole, draws_rule, from_start}
use Rattle.spans.specs.Parts.{sign, mark}
use Rattle.meaning.specs.Rules.{Rule}
use Rattle.meaning.specs.Pdl.{reserved_field}
use Rattle.fields.specs.Kinds.{describes}
use Rattle.fields.proofs.kinds.reserved_field.Goals as goal

pub returns : goal.returns
unfolding reserved_field
returns c = describes c.described.ensures
    (draws_rule Rule.reserved_field refl
    (whole
    (then (then (sign (from_start c.literal.ensures)) (mark c.next_byte.ensures)) c.next_number-width.ensures.drawn)))
    (λ h. tt)
