-- What crosses of a reading: its number, its place and reason, its counts, the endianness, and the words of the tables.
use Rattle.std.specs.Prelude.{ℕ, ◌≡◌, refl, List, [], ◌∷◌}
use Rattle.meaning.specs.Tables.{Lent}
use Rattle.meaning.specs.Reading.{Outcome}
use Rattle.alignment.specs.Outcomes.{one_outcome}

pub record Crossing : Type 0 where
  pub number : ℕ
  pub refusal : List ℕ
  pub counts : List ℕ
  pub endianness : List ℕ
  pub left : Lent

abbrev pub crossed : ℕ → List ℕ → List ℕ → List ℕ → Lent → Crossing
crossed number refusal counts endianness left =
    record { number = number; refusal = refusal; counts = counts; endianness = endianness; left = left }

abbrev pub crossing : Outcome → Crossing
crossing o = crossed o.answer.number (o.answer.place ∷ o.answer.reason ∷ []) o.answer.counts o.answer.endianness o.left

-- no two outcomes satisfy an equation with it
abbrev Outcomes : Type 0
Outcomes = ℕ × (List ℕ × (List ℕ × (List ℕ × Lent)))

abbrev pack : Outcomes → Crossing
pack o = crossed o.0 o.1.0 o.1.1.0 o.1.1.1.0 o.1.1.1.1

pub one_crossed : (o p : Outcomes) {z : Crossing} → pack o ≡ z → pack p ≡ z → o ≡ p
one_crossed = one_outcome pack (λ x. (x.number, (x.refusal, (x.counts, (x.endianness, x.left))))) (λ o. refl)
