-- `payload_identifier` meets its contract.
use Rattle.meaning.specs.Rules.{Rule}
use Rattle.meaning.specs.Pdl.{payload_identifier}
use Rattle.grammar.specs.Steps.{reads_rule}
use Rattle.lexis.proofs.tokens.payload_identifier.Goals as goal

pub returns : goal.returns
unfolding payload_identifier
returns c = reads_rule Rule.payload_identifier c.literal.ensures
