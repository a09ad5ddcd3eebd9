use Rattle.meaning.specs.Rules.{Rule}
use Rattle.meaning.specs.Pdl.{CHECKSUM}
use Rattle.grammar.specs.Steps.{reads_rule}
use Rattle.grammar.specs.Drawing.{whole, then, retold}
use Rattle.lexis.specs.Leaves.{CHECKSUM_leaf}
use Rattle.spans.specs.Parts.{gap, mark, name, number, quoted}
use Rattle.declarations.specs.Headers.{checksum_head}
use Rattle.declarations.specs.HeadParts.{word, headed}
use Rattle.declarations.proofs.headers.checksum_head.Goals as goal

pub returns : goal.returns
unfolding checksum_head CHECKSUM
returns c = headed
    (whole
    (retold
    (then
    (then
    (then
    (then (word CHECKSUM_leaf (reads_rule Rule.CHECKSUM c.keyword-k.ensures))
    (then (gap c.then_blanks-a.ensures) (name c.then_identifier-id.ensures)))
    (mark c.next_literal.ensures))
    (then (gap c.then_blanks-b.ensures) (number c.then_integer-width.ensures)))
    (then (gap c.then_blanks-c.ensures) (quoted c.then_string-at.ensures)))
    (λ h o. rw (c.between.ensures, c.between-2.ensures, c.between-3.ensures, c.between-4.ensures))))
    (λ h. tt) c.headed.ensures
