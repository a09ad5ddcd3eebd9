use Rattle.std.specs.Prelude.{None, Some}
use Rattle.std.proofs.Common.{refl, ◌∙◌}
use Rattle.grammar.specs.Picks.{pick_false}
use Rattle.grammar.specs.Drawing.{whole, opened, then, draws_rule}
use Rattle.spans.specs.Parts.{gap, sign, optional}
use Rattle.spans.specs.Drawn.{draw_condition}
use Rattle.meaning.specs.Rules.{Rule}
use Rattle.meaning.specs.Pdl.{field}
use Rattle.grammar.specs.Shared.{halted}
use Rattle.grammar.specs.Behind.{skipped}
use Rattle.spans.specs.OptionalSteps.{missed_before}
use Rattle.fields.proofs.field.Goals as goal

pub returns-in-Missed : goal.returns-in-Missed
unfolding field
returns-in-Missed c = let f = c.field_desc-desc.ensures in
    let e = c.in-Missed.is in
    record {
      drawn =
          draws_rule Rule.field refl
          (whole
          (then (opened f.drawn)
          (then (gap c.then_blanks-b.ensures)
          (skipped _ c.then_blanks-b.ensures.fits (halted _ c.then_literal-word.ensures e) e c.optional.ensures.is))));
      described = f;
      missed = λ h. refl;
    }

pub returns : goal.returns
unfolding field
returns c = let f = c.field_desc-desc.ensures in
    let x = then (sign c.then_literal-word.ensures) (then (gap c.then_blanks.ensures) c.then_constraint-c.ensures.drawn) in
    record {
      drawn =
          draws_rule Rule.field refl
          (whole
          (then (opened f.drawn)
          (then (gap c.then_blanks-b.ensures)
          (optional (λ k o. draw_condition o k) None (Some _) (λ o. refl) c.then_blanks-b.ensures.fits x c.optional-2.ensures.is
          c.kept.ensures))));
      described = f;
      missed = λ h. c.kept.ensures ∙ pick_false _ _ _ (missed_before x.steps c.optional-2.ensures.is h);
    }
