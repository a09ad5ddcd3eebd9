-- What a reading answers and leaves, in the meaning's words.
use Rattle.std.specs.Prelude.{ℕ, List, Result, Ok, Err}
use Rattle.meaning.specs.Tables.{Lent}
use Rattle.meaning.specs.Rows.{endianness_size}
use Rattle.meaning.specs.Reading.{Answer, Outcome, zeros}
use Rattle.reading.specs.declared.Reading.{Reading}
use Rattle.reading.specs.declared.refusals.Refusal.{Refusal}
use Rattle.reading.specs.Refusals.{number_of, place_of, reason_of}

-- the words of the five tables
abbrev pub lending : List ℕ → List ℕ → List ℕ → List ℕ → List ℕ → Lent
lending d f t c m = record { w1 = d; w2 = f; w3 = t; w4 = c; w5 = m }

-- a reading has no number, place or reason; a refusal has no counts and no endianness
abbrev pub answering : Result Reading Refusal → Answer
answering (Ok r) = record { number = 0; place = 0; reason = 0; counts = r.counts; endianness = r.endianness }
answering (Err e) =
    record { number = number_of e; place = place_of e; reason = reason_of e; counts = zeros 5; endianness = zeros endianness_size }

-- the answer with what the tables hold then
abbrev pub leaving : Result Reading Refusal → Lent → Outcome
leaving r l = record { answer = answering r; left = l }

abbrev pub outcome : Result Reading Refusal → List ℕ → List ℕ → List ℕ → List ℕ → List ℕ → Outcome
outcome r d f t c m = leaving r (lending d f t c m)
