use Rattle.grammar.specs.Nodes.{nil_right}
use Rattle.grammar.specs.Drawing.{whole, then, retold}
use Rattle.meaning.specs.Rules.{Rule}
use Rattle.spans.specs.Parts.{gap, sign, mark, name}
use Rattle.spans.specs.OptionalSteps.{optional_token, optional_list, before_hit}
use Rattle.declarations.specs.HeadParts.{headed}
use Rattle.declarations.proofs.headers.parent_head.Goals as goal

pub returns : goal.returns
returns c = let list =
    optional_list c.then_blanks-d.ensures.fits (sign c.then_literal-2.ensures) (gap c.then_blanks-e.ensures)
    c.then_constraint_list-list.ensures (mark c.next_literal-closed.ensures) c.optional-2.ensures.is
    c.kept-2.ensures c.between-4.ensures in
    record {
      heads = λ w z q.
          headed
          (whole
          (retold
          (then
          (then
          (then (then q (then (gap c.then_blanks-a.ensures) (name c.then_identifier-id.ensures)))
          (then (gap c.then_blanks-b.ensures)
          (optional_token Rule.identifier c.then_blanks-b.ensures.fits
          (then (sign c.then_literal.ensures) (then (gap c.then_blanks-c.ensures) (name c.then_identifier-parent.ensures)))
          c.optional.ensures.is c.kept.ensures c.between-3.ensures)))
          (then (gap c.then_blanks-d.ensures) list.drawn))
          (mark c.next_literal.ensures))
          (λ h o. rw (c.between.ensures, c.between-2.ensures, nil_right))))
          (λ h. list.sound (before_hit c.next_literal.ensures h)) c.headed.ensures;
    }
