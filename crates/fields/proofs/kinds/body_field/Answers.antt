use Rattle.std.proofs.Common.{refl}
use Rattle.grammar.specs.Drawing.{whole, draws_rule, from_start}
use Rattle.spans.specs.Parts.{sign}
use Rattle.meaning.specs.Rules.{Rule}
use Rattle.meaning.specs.Pdl.{body_field}
use Rattle.fields.proofs.kinds.body_field.Goals as goal

-- a body has no parts: it is what a miss answers too
pub returns : goal.returns
unfolding body_field
returns c = record {
  drawn = draws_rule Rule.body_field refl (whole (sign (from_start c.literal.ensures)));
  sound = λ h. tt;
  missed = λ h. refl;
}
