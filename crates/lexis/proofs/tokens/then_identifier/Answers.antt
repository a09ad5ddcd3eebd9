-- `then_identifier` meets its contract.
use Rattle.meaning.specs.Rules.{Rule}
use Rattle.meaning.specs.Pdl.{identifier}
use Rattle.grammar.specs.Steps.{steps_rule}
use Rattle.lexis.proofs.tokens.then_identifier.Goals as goal

pub returns : goal.returns
unfolding identifier
returns c = steps_rule Rule.identifier c.then_word.ensures
