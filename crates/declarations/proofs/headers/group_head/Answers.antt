use Rattle.meaning.specs.Rules.{Rule}
use Rattle.meaning.specs.Pdl.{GROUP}
use Rattle.grammar.specs.Steps.{reads_rule}
use Rattle.grammar.specs.Drawing.{whole, then, retold}
use Rattle.lexis.specs.Leaves.{GROUP_leaf}
use Rattle.spans.specs.Parts.{gap, mark, name}
use Rattle.declarations.specs.Headers.{group_head}
use Rattle.declarations.specs.HeadParts.{word, headed}
use Rattle.declarations.proofs.headers.group_head.Goals as goal

pub returns : goal.returns
unfolding group_head GROUP
returns c = headed
    (whole
    (retold
    (then
    (then (word GROUP_leaf (reads_rule Rule.GROUP c.keyword-k.ensures))
    (then (gap c.then_blanks-a.ensures) (name c.then_identifier-id.ensures)))
    (mark c.next_literal.ensures))
    (λ h o. rw (c.between.ensures, c.between-2.ensures))))
    (λ h. tt) c.headed.ensures
