use Rattle.spans.specs.declared.Tag.TheVariants.{Other}
use Rattle.tags.specs.Fronts.{other}
use Rattle.tags.proofs.Laws.{tagged_is}
use Rattle.tags.proofs.enum_other.Goals as goal

pub returns : goal.returns
returns c = tagged_is (Other _) (other c.front-label.ensures c.then_literal-at.ensures) (λ h. tt) c.tagged.ensures
