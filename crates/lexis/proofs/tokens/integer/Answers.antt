-- `integer` meets its contract: either of two numbers.
use Rattle.std.proofs.Common.{rules}
use Rattle.meaning.specs.Rules.{Rule}
use Rattle.meaning.specs.Pdl.{integer}
use Rattle.grammar.specs.Steps.{reads_rule, choice}
use Rattle.lexis.proofs.tokens.integer.Goals as goal

pub returns : goal.returns
unfolding integer
returns c = reads_rule Rule.integer (choice c.hexvalue.ensures (c.or_else.ensures _ (search rules)))
