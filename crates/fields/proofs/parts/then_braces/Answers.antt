use Rattle.std.specs.Prelude.{None, Some}
use Rattle.std.proofs.Common.{refl, ap, ◌∙◌}
use Rattle.meaning.specs.Choice.{pick}
use Rattle.meaning.specs.Peg.{hit}
use Rattle.meaning.specs.Pdl.{constraint_list}
use Rattle.grammar.specs.Picks.{pick_false}
use Rattle.grammar.specs.Nodes.{nil_right}
use Rattle.grammar.specs.Drawing.{then, retold, drawn}
use Rattle.spans.specs.declared.Span.{Span}
use Rattle.spans.specs.Drawn.{list_at}
use Rattle.spans.specs.Parts.{gap, sign, mark, optional}
use Rattle.spans.specs.Answers.{matched}
use Rattle.grammar.specs.Shared.{halted}
use Rattle.grammar.specs.Behind.{skipped}
use Rattle.fields.specs.Tokens.{matched_inner}
use Rattle.spans.specs.OptionalSteps.{missed_before}
use Rattle.fields.proofs.parts.then_braces.Goals as goal

pub returns-in-Missed : goal.returns-in-Missed
returns-in-Missed c = let blanks = c.then_blanks-b.ensures in
    let e = c.in-Missed.is in
    record {
      drawn = then (gap blanks) (skipped _ blanks.fits (halted _ (halted _ c.then_literal-left.ensures e) e) e c.optional.ensures.is);
      sound = λ h. tt;
      missed = λ h. refl;
    }

pub returns : goal.returns
returns c = let t = c.args.s.now in
    let blanks = c.then_blanks-b.ensures in
    let list = c.then_constraint_list-list.ensures in
    let inner = c.kept-inner.ensures
    ∙ ap (λ (i : Span). pick (hit c.then_constraint_list-list.result) (Some i) None) c.between.ensures in
    let braces =
    retold
    (then
    (then (sign c.then_literal-left.ensures)
    (then (gap c.then_blanks-c.ensures)
    (optional (λ p o. list_at constraint_list o t p) None (Some _) (λ o. refl) c.then_blanks-c.ensures.fits (drawn list)
    c.optional-2.ensures.is inner)))
    (mark c.next_byte-braces.ensures))
    (λ h o. nil_right _) in
    record {
      drawn =
          then (gap blanks)
          (optional (λ p o. list_at constraint_list o t p) None _ (λ o. refl) blanks.fits braces c.optional-3.ensures.is
          c.kept.ensures);
      sound = λ h. matched_inner c.then_constraint_list-list.result c.next_byte-braces.result (matched list) inner c.kept.ensures;
      missed = λ h. c.kept.ensures ∙ pick_false _ _ _ (missed_before braces.steps c.optional-3.ensures.is h);
    }
