use Rattle.std.proofs.Common.{refl}
use Rattle.grammar.specs.Drawing.{then, whole, draws_rule, redrawn}
use Rattle.spans.specs.Parts.{mark, name}
use Rattle.meaning.specs.Rules.{Rule}
use Rattle.meaning.specs.Pdl.{scalar_field}
use Rattle.fields.specs.Kinds.{describes}
use Rattle.fields.proofs.kinds.scalar_field.Goals as goal

pub returns : goal.returns
unfolding scalar_field
returns c = describes c.described.ensures
    (draws_rule Rule.scalar_field refl
    (redrawn
    (whole (then (then (name c.then_identifier-a.ensures) (mark c.next_byte.ensures)) c.next_number-width.ensures.drawn))
    (λ h o. rw c.between.ensures)))
    (λ h. tt)
