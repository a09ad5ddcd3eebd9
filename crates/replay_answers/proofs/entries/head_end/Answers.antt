use Rattle.std.proofs.Common.{◌≡◌, false, sym, ◌∙◌, arith, rules}
use Rattle.replay_answers.specs.Entries.{heading}
use Rattle.replay_answers.proofs.Laws.{head_stops, head_goes, head_ends}
use Rattle.replay_answers.proofs.entries.head_end.Goals as goal

pub returns-then-is_over : goal.returns-then-is_over
returns-then-is_over c = (sym (head_stops _ _ _ c.loop-i-test.true (sym c.is_over.ensures ∙ c.if-is_over.true)) ∙ c.loop-i.invariant, search rules)

pub loop-i-preserved : goal.loop-i-preserved
loop-i-preserved c = sym (head_goes _ _ _ c.loop-i-test.true (sym c.is_over.ensures ∙ c.if-is_over.false)) ∙ c.loop-i.invariant

pub returns : goal.returns
returns c =
    let e : c.loop-i.i ≡ heading false c.args.list.now = sym (head_ends _ _ _ c.loop-i-test.false) ∙ c.loop-i.invariant in
    (omega arith, search rules)
