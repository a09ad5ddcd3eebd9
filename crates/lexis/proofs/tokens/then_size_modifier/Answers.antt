-- `then_size_modifier` meets its contract: two steps.
use Rattle.meaning.specs.Rules.{Rule}
use Rattle.meaning.specs.Pdl.{intvalue, size_modifier}
use Rattle.grammar.specs.Steps.{link, steps_rule}
use Rattle.lexis.proofs.tokens.then_size_modifier.Goals as goal

pub returns : goal.returns
unfolding size_modifier intvalue
returns c = steps_rule Rule.size_modifier (link c.then_literal.ensures c.then_word.ensures)
