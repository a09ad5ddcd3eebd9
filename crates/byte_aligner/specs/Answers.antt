-- What the calls on a lent state answer and leave.
use Rattle.std.specs.Prelude.{ℕ, List}
use Rattle.meaning.specs.declared.Aligner.{Aligner}
use Rattle.meaning.specs.Alignment.{Called, world}
use Rattle.alignment.specs.Answers.{Ended, ended}

-- the number of a call, with the state and the words that it left
abbrev pub answered : ℕ → Aligner → List ℕ → List ℕ → Called
answered n a ps cs = record { number = n; left = world a ps cs }

-- the answer of the end, with the state that it left
pub record Ending : Type 0 where
  pub answer : Ended
  pub state : Aligner

abbrev pub ending : Ended → Aligner → Ending
ending r a = record { answer = r; state = a }

-- the end answers as over a state by value, and leaves the state as it came
abbrev pub align_at : Aligner → List ℕ → List ℕ → Ending
align_at a ps cs = ending (ended a ps cs) a
