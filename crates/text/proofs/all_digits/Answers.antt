use Rattle.std.proofs.Common.{arith, sym, ◌∙◌}
use Rattle.std.proofs.lemmas.Result.{err_from_is_err_and}
use Rattle.text.proofs.ConvertTurns.{turn_bad, turn_good, digits_end, in_range_once}
use Rattle.text.proofs.all_digits.Goals as goal

pub returns-in_err-d : goal.returns-in_err-d
returns-in_err-d c =
    let p = err_from_is_err_and c.from_residual.result c.from_residual.ensures.1 in
    let k = sym c.ok_or.ensures.value ∙ c.in_err-d.was in
    rw (p.1, p.2) (sym (c.loop-b.invariant.1 ∙ turn_bad _ _ c.loop-b.b-index _ c.loop-b-test.true _ c.to_digit.ensures k))

pub loop-b-preserved : goal.loop-b-preserved
loop-b-preserved c =
    let k = sym c.ok_or.ensures.value ∙ c.in_ok-d.was in
    rw c.add_digit-number.ensures (
      in_range_once _,
      c.loop-b.invariant.1
          ∙ turn_good _ _ c.loop-b.b-index _ c.loop-b-test.true _ c.to_digit.ensures k (omega (arith, c.requires.0)),
    )

pub returns : goal.returns
returns c = digits_end _ _ c.loop-b.b-index _ _ c.loop-b-test.false c.loop-b.invariant.0 c.ok_or-2.ensures.value ∙ sym c.loop-b.invariant.1
