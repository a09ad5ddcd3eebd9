-- `body_identifier` meets its contract.
use Rattle.meaning.specs.Rules.{Rule}
use Rattle.meaning.specs.Pdl.{body_identifier}
use Rattle.grammar.specs.Steps.{reads_rule}
use Rattle.lexis.proofs.tokens.body_identifier.Goals as goal

pub returns : goal.returns
unfolding body_identifier
returns c = reads_rule Rule.body_identifier c.literal.ensures
