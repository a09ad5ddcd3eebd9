-- `or_else` meets its contract: the matcher is tried where m missed.
use Rattle.grammar.specs.Steps.{tries, tried}
use Rattle.grammar.proofs.or_else.Goals as goal

pub returns-in-Missed : goal.returns-in-Missed
returns-in-Missed g c = λ e reads. tried _ c.requires.within c.in-Missed.is (reads _ _ c.matcher.ensures) c.joined.ensures

pub returns-in-Took : goal.returns-in-Took
returns-in-Took g c = λ e reads. tries _ _ _ _ c.requires.within (rw c.in-Took.is)
