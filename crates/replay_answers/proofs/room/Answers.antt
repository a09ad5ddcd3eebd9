-- `room` meets its contract: by a law on lists, since to count so many bytes takes long.
use Rattle.std.proofs.Common.{ℕ, refl, sym}
use lib.ListN.{length-replicate}
use Rattle.replay_answers.proofs.room.Goals as goal

pub returns : goal.returns
returns c = (refl, sym (length-replicate {A = ℕ} 262144 0))
