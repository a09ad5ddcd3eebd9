use Rattle.std.proofs.Common.{refl}
use Rattle.grammar.specs.Drawing.{whole, draws_rule}
use Rattle.meaning.specs.Rules.{Rule}
use Rattle.meaning.specs.Pdl.{typedef_field}
use Rattle.fields.specs.Kinds.{describes}
use Rattle.fields.proofs.kinds.typedef_field.Goals as goal

pub returns : goal.returns
unfolding typedef_field
returns c = describes c.described.ensures (draws_rule Rule.typedef_field refl (whole c.then_names-p.ensures.drawn)) (λ h. tt)
