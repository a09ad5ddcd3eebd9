-- `layout::judging::judge_fields` meets its contract: a refused field, the next field, and the end, each by its law.
use Rattle.std.proofs.Common.{◌∙◌, rules, ◌≡◌, Ok, Err}
use Rattle.layout.specs.declared.Refusal.{Refusal}
use Rattle.layout.proofs.LoopLaws.{judge_start, judge_turn, judge_stop, judge_16, judge_0}
use Rattle.layout.proofs.judging.judge_fields.Goals as goal

pub loop-i-init : goal.loop-i-init
loop-i-init c = judge_start _ _ _ _ _ c.new-a.ensures

pub returns-in_err-next : goal.returns-in_err-next
returns-in_err-next c =
    let q : (e : Refusal) × (c.judge_field.result ≡ Err e) × (c.from_residual.result ≡ Err (record { refusal = e; place = c.loop-i.i-counter })) =
    search rules in
    rw q.2 (judge_stop _ _ _ _ _ _ _ q.0 (rw q.1 at c.judge_field.ensures) c.loop-i-test.true ∙ c.loop-i.invariant)

pub loop-i-preserved : goal.loop-i-preserved
loop-i-preserved c = let q : c.judge_field.result ≡ Ok c.in_ok-next.next = search rules in
    judge_turn _ _ _ _ _ _ _ (rw q at c.judge_field.ensures) c.loop-i-test.true c.first_staged-place.ensures ∙ c.loop-i.invariant

pub returns-in-Ok : goal.returns-in-Ok
returns-in-Ok c = judge_0 _ _ _ _ _ c.loop-i-test.false c.in-Ok.ensures ∙ c.loop-i.invariant

pub returns-in-Err : goal.returns-in-Err
returns-in-Err c = judge_16 _ _ _ _ _ c.loop-i-test.false _ c.in-Err.ensures ∙ c.loop-i.invariant
