use Rattle.std.proofs.Common.{refl}
use Rattle.grammar.specs.Drawing.{whole, draws_rule}
use Rattle.meaning.specs.Rules.{Rule}
use Rattle.meaning.specs.Pdl.{elementsize_field}
use Rattle.fields.specs.Kinds.{describes}
use Rattle.fields.proofs.kinds.elementsize_field.Goals as goal

pub returns : goal.returns
unfolding elementsize_field
returns c = describes c.described.ensures (draws_rule Rule.elementsize_field refl (whole c.counted-p.ensures.drawn)) (λ h. tt)
