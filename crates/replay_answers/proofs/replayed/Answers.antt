use Rattle.std.proofs.Common.{rules}
use Rattle.replay_answers.proofs.Laws.{started, one_more}
use Rattle.replay_answers.proofs.replayed.Goals as goal

pub loop-e-init : goal.loop-e-init
loop-e-init c = (started _ _ c.head_end.ensures.0, search rules)

pub loop-e-preserved : goal.loop-e-preserved
loop-e-preserved c = one_more _ _ _ c.loop-e.invariant c.in-Some.ensures c.counted-t.ensures
