-- `size_modifier` meets its contract: two steps.
use Rattle.meaning.specs.Rules.{Rule}
use Rattle.meaning.specs.Pdl.{intvalue, size_modifier}
use Rattle.grammar.specs.Steps.{chain, reads_rule}
use Rattle.lexis.proofs.tokens.size_modifier.Goals as goal

pub returns : goal.returns
unfolding size_modifier intvalue
returns c = reads_rule Rule.size_modifier (chain c.literal.ensures c.then_word.ensures)
