-- What the aligner's functions answer, in the terms of the definitions.
use Rattle.std.specs.Prelude.{List, ℕ, Result, Ok, Err}
use Rattle.meaning.specs.declared.Aligner.{Aligner}
use Rattle.meaning.specs.Alignment as meaning
use Rattle.alignment.specs.declared.Refusal.{Refusal}
use Rattle.alignment.specs.Refusals.{refused}

-- the number of a call, and the state after it
pub record Told : Type 0 where
  pub number : ℕ
  pub state : Aligner

-- the state after an outcome: as it came where it was refused
abbrev pub state : Aligner → Result Aligner Refusal → Aligner
state a (Ok b) = b
state a (Err e) = a

abbrev pub told : Aligner → Result Aligner Refusal → Told
told a r = record { number = refused r; state = state a r }

-- the outcome of a call on the state a, with the words that it left
abbrev pub called : Aligner → Result Aligner Refusal → List ℕ → List ℕ → meaning.Called
called a r ps cs = record { number = refused r; left = meaning.world (state a r) ps cs }

-- what a call would answer, and the state that it would leave
abbrev pub judged : meaning.Call → Aligner → List ℕ → List ℕ → Told
judged k a ps cs = let c = meaning.call k (meaning.world a ps cs) in record { number = c.number; state = c.left.st }

-- the end's number, and the chunk count, 0 where it is refused
pub record Ended : Type 0 where
  pub number : ℕ
  pub chunks : ℕ

abbrev pub count : Result ℕ Refusal → ℕ
count (Ok n) = n
count (Err e) = 0

abbrev pub finished : Result ℕ Refusal → Ended
finished r = record { number = refused r; chunks = count r }

-- the end's answer
unfoldable pub ended : Aligner → List ℕ → List ℕ → Ended
ended a ps cs = record { number = meaning.end_number (meaning.world a ps cs); chunks = meaning.end_chunks (meaning.world a ps cs) }
