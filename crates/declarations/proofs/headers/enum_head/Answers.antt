use Rattle.meaning.specs.Rules.{Rule}
use Rattle.meaning.specs.Pdl.{ENUM}
use Rattle.grammar.specs.Steps.{reads_rule}
use Rattle.grammar.specs.Drawing.{whole, then, retold}
use Rattle.lexis.specs.Leaves.{ENUM_leaf}
use Rattle.spans.specs.Parts.{gap, mark, name, number}
use Rattle.declarations.specs.Headers.{enum_head}
use Rattle.declarations.specs.HeadParts.{word, headed}
use Rattle.declarations.proofs.headers.enum_head.Goals as goal

pub returns : goal.returns
unfolding enum_head ENUM
returns c = headed
    (whole
    (retold
    (then
    (then
    (then
    (then (word ENUM_leaf (reads_rule Rule.ENUM c.keyword-k.ensures))
    (then (gap c.then_blanks-a.ensures) (name c.then_identifier-id.ensures)))
    (mark c.next_literal.ensures))
    (then (gap c.then_blanks-b.ensures) (number c.then_integer-width.ensures)))
    (mark c.next_literal-2.ensures))
    (λ h o. rw (c.between.ensures, c.between-2.ensures, c.between-3.ensures))))
    (λ h. tt) c.headed.ensures
