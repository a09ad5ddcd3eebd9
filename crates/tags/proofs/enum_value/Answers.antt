use Rattle.spans.specs.declared.Tag.TheVariants.{Value}
use Rattle.tags.specs.Fronts.{value}
use Rattle.tags.proofs.Laws.{tagged_is}
use Rattle.tags.proofs.enum_value.Goals as goal

pub returns : goal.returns
returns c = tagged_is (Value _) (value c.front-label.ensures c.then_integer-at.ensures c.between-value.ensures) (λ h. tt)
    c.tagged.ensures
