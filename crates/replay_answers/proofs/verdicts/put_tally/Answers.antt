-- `put_tally` meets its contract: numbers and texts, one behind the other.
use Rattle.printing.specs.PageLaws.{then_wrote}
use Rattle.replay_answers.specs.Verdicts.{tallied}
use Rattle.replay_answers.proofs.verdicts.put_tally.Goals as goal

pub returns : goal.returns
unfolding tallied
returns c = then_wrote
    (then_wrote (then_wrote c.put_number.ensures c.put_bytes.ensures) c.put_number-2.ensures)
    c.put_bytes-2.ensures
