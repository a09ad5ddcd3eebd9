-- `counted` meets its contract: one entry more, by whether it is answered.
use Rattle.replay_answers.proofs.Laws.{untold}
use Rattle.replay_answers.specs.Tallies.{same, other}
use Rattle.replay_answers.proofs.counted.Goals as goal

pub returns-then-is_answered : goal.returns-then-is_answered
returns-then-is_answered c = same (c.is_answered.ensures.0 c.if-is_answered.true)

pub returns-else-is_answered : goal.returns-else-is_answered
returns-else-is_answered c = other (untold _ _ c.is_answered.ensures c.if-is_answered.false)
