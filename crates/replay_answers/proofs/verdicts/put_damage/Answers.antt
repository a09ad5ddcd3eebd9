-- `put_damage` meets its contract: the text, the number and LF, one behind the other.
use Rattle.printing.specs.PageLaws.{then_wrote}
use Rattle.replay_answers.specs.Verdicts.{damaged}
use Rattle.replay_answers.proofs.verdicts.put_damage.Goals as goal

pub returns : goal.returns
unfolding damaged
returns c = then_wrote (then_wrote c.put_bytes.ensures c.put_number.ensures) c.put_byte.ensures
