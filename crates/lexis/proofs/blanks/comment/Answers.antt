-- `comment` meets its contract: a block comment, or else a line comment.
use Rattle.std.proofs.Common.{rules}
use Rattle.meaning.specs.Rules.{Rule}
use Rattle.meaning.specs.Pdl.{COMMENT}
use Rattle.grammar.specs.Steps.{reads_rule, choice}
use Rattle.lexis.proofs.blanks.comment.Goals as goal

pub returns : goal.returns
unfolding COMMENT
returns c = reads_rule Rule.COMMENT (choice c.block_comment.ensures (c.or_else.ensures _ (search rules)))
