use Rattle.fields.specs.Kinds.{chosen, tried}
use Rattle.fields.proofs.or_kind.Goals as goal

pub returns-in-Took : goal.returns-in-Took
returns-in-Took c = record { or = λ h. chosen _ _ h c.in-Took.is }

pub returns-in-Missed : goal.returns-in-Missed
returns-in-Missed c = record {
  or = λ h. tried _ h.drawn.reads c.in-Missed.is c.of_kind.ensures c.marked.ensures;
}
