-- No two outcomes satisfy what the calls on a lent state say. That no two results have one number is `one_refused` and `one_finished` of `alignment`.
use Rattle.std.specs.Prelude.{ℕ, ◌≡◌, refl, List, [], ◌∷◌}
use Rattle.std.proofs.Common.{ap}
use Rattle.meaning.specs.declared.Aligner.{Aligner}
use Rattle.meaning.specs.Alignment.{Called}
use Rattle.alignment.specs.Answers.{Ended}
use Rattle.alignment.specs.Outcomes.{one_outcome}
use Rattle.byte_aligner.specs.declared.Chunk.{Chunk}
use Rattle.byte_aligner.specs.Answers.{answered, Ending, ending}
use Rattle.byte_aligner.specs.Records.{flat}

-- a call over words: the number, the state, and the words of both tables
abbrev Words : Type 0
Words = ℕ × (Aligner × (List ℕ × List ℕ))

abbrev pack : Words → Called
pack o = answered o.0 o.1.0 o.1.1.0 o.1.1.1

pub one_answered : (o p : Words) {z : Called} → pack o ≡ z → pack p ≡ z → o ≡ p
one_answered = one_outcome pack (λ c. (c.number, (c.left.st, (c.left.ps, c.left.cs)))) (λ o. refl)

-- a call over records: the number, the state, the placed words and the records
abbrev Records : Type 0
Records = ℕ × (Aligner × (List ℕ × List Chunk))

abbrev pack_records : Records → Called
pack_records o = answered o.0 o.1.0 o.1.1.0 (flat o.1.1.1)

-- records read back from their words
unfoldable unflat : List ℕ → List Chunk
unflat (k ∷ f ∷ n ∷ w ∷ s ∷ t) = record { kind = k; first = f; count = n; width = w; symbol = s } ∷ unflat t
unflat (k ∷ f ∷ n ∷ w ∷ []) = []
unflat (k ∷ f ∷ n ∷ []) = []
unflat (k ∷ f ∷ []) = []
unflat (k ∷ []) = []
unflat [] = []

read_back : (rs : List Chunk) → unflat (flat rs) ≡ rs
unfolding flat unflat
read_back [] = refl
read_back (c ∷ cs) = ap (λ (l : List Chunk). c ∷ l) (read_back cs)

pub one_recorded : (o p : Records) {z : Called} → pack_records o ≡ z → pack_records p ≡ z → o ≡ p
one_recorded =
    one_outcome pack_records (λ c. (c.number, (c.left.st, (c.left.ps, unflat c.left.cs))))
    (λ o. ap (λ (l : List Chunk). (o.0, (o.1.0, (o.1.1.0, l)))) (read_back o.1.1.1))

-- the end: the answer and the state
abbrev pack_end : Ended × Aligner → Ending
pack_end o = ending o.0 o.1

pub one_ending : (o p : Ended × Aligner) {z : Ending} → pack_end o ≡ z → pack_end p ≡ z → o ≡ p
one_ending = one_outcome pack_end (λ c. (c.answer, c.state)) (λ o. refl)
