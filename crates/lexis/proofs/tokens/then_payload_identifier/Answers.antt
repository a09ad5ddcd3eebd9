-- `then_payload_identifier` meets its contract.
use Rattle.meaning.specs.Rules.{Rule}
use Rattle.meaning.specs.Pdl.{payload_identifier}
use Rattle.grammar.specs.Steps.{steps_rule}
use Rattle.lexis.proofs.tokens.then_payload_identifier.Goals as goal

pub returns : goal.returns
unfolding payload_identifier
returns c = steps_rule Rule.payload_identifier c.then_literal.ensures
