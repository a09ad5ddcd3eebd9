-- `then` meets its contract: the matcher goes on where m ends.
use Rattle.grammar.specs.Steps.{took}
use Rattle.grammar.proofs.then.Goals as goal

pub returns-in-Took : goal.returns-in-Took
returns-in-Took g c = λ e reads. took _ _ c.requires.within c.in-Took.is (reads _ _ c.matcher.ensures) c.joined.ensures
