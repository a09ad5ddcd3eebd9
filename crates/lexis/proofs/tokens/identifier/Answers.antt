-- `identifier` meets its contract.
use Rattle.meaning.specs.Rules.{Rule}
use Rattle.meaning.specs.Pdl.{identifier}
use Rattle.grammar.specs.Steps.{reads_rule}
use Rattle.lexis.proofs.tokens.identifier.Goals as goal

pub returns : goal.returns
unfolding identifier
returns c = reads_rule Rule.identifier c.word_of.ensures
