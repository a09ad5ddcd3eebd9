use Rattle.std.proofs.Common.{refl}
use Rattle.meaning.specs.Rules.{Rule}
use Rattle.meaning.specs.Pdl.{group_field}
use Rattle.grammar.specs.Drawing.{then, whole, draws_rule, redrawn}
use Rattle.spans.specs.Parts.{name}
use Rattle.fields.specs.Kinds.{describes}
use Rattle.fields.proofs.kinds.group_field.Goals as goal

pub returns : goal.returns
unfolding group_field
returns c = describes c.described.ensures
    (draws_rule Rule.group_field refl
    (redrawn (whole (then (name c.then_identifier-a.ensures) c.then_braces-braces.ensures.drawn)) (λ h o. rw c.between.ensures)))
    c.then_braces-braces.ensures.sound
