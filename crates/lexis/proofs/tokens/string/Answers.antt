-- `string` meets its contract: a text that is enclosed.
use Rattle.meaning.specs.Rules.{Rule}
use Rattle.meaning.specs.Pdl.{string}
use Rattle.grammar.specs.Steps.{reads_rule}
use Rattle.lexis.proofs.tokens.string.Goals as goal

pub returns : goal.returns
unfolding string
returns c = reads_rule Rule.string c.enclosed.ensures
