use Rattle.meaning.specs.Rules.{Rule}
use Rattle.meaning.specs.Pdl.{STRUCT}
use Rattle.grammar.specs.Steps.{reads_rule}
use Rattle.lexis.specs.Leaves.{STRUCT_leaf}
use Rattle.declarations.specs.Headers.{struct_head}
use Rattle.declarations.specs.HeadParts.{word}
use Rattle.declarations.proofs.headers.struct_head.Goals as goal

pub returns : goal.returns
unfolding struct_head STRUCT
returns c = c.parent_head.ensures.heads _ _ (word STRUCT_leaf (reads_rule Rule.STRUCT c.keyword.ensures))
