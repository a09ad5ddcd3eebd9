use Rattle.std.proofs.Common.{refl}
use Rattle.grammar.specs.Drawing.{whole, draws_rule}
use Rattle.meaning.specs.Rules.{Rule}
use Rattle.meaning.specs.Pdl.{checksum_field}
use Rattle.fields.specs.Kinds.{describes}
use Rattle.fields.proofs.kinds.checksum_field.Goals as goal

pub returns : goal.returns
unfolding checksum_field
returns c = describes c.described.ensures (draws_rule Rule.checksum_field refl (whole c.then_labelled-id.ensures.drawn)) (λ h. tt)
