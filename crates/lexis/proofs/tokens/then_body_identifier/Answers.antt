-- `then_body_identifier` meets its contract.
use Rattle.meaning.specs.Rules.{Rule}
use Rattle.meaning.specs.Pdl.{body_identifier}
use Rattle.grammar.specs.Steps.{steps_rule}
use Rattle.lexis.proofs.tokens.then_body_identifier.Goals as goal

pub returns : goal.returns
unfolding body_identifier
returns c = steps_rule Rule.body_identifier c.then_literal.ensures
