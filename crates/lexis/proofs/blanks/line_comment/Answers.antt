-- `line_comment` meets its contract: two steps.
use Rattle.meaning.specs.Pdl.{line_comment}
use Rattle.grammar.specs.Steps.{chain}
use Rattle.lexis.proofs.blanks.line_comment.Goals as goal

pub returns : goal.returns
unfolding line_comment
returns c = chain c.literal.ensures c.then_up_to.ensures
