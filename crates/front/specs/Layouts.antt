-- What crosses of a layout: its number, its place and counts as three words, and both tables.
use Rattle.std.specs.Prelude.{ℕ, ◌≡◌, refl, List, [], ◌∷◌}
use Rattle.meaning.specs.Feeding.{Layout}
use Rattle.alignment.specs.Outcomes.{one_outcome}

pub record Left : Type 0 where
  pub number : ℕ
  pub words : List ℕ
  pub ps : List ℕ
  pub cs : List ℕ

abbrev pub left : ℕ → List ℕ → List ℕ → List ℕ → Left
left n w ps cs = record { number = n; words = w; ps = ps; cs = cs }

-- the words: its place, placed rows, chunk rows
abbrev pub laying : Layout → Left
laying x = left x.number (x.place ∷ x.placed ∷ x.chunks ∷ []) x.ps x.cs

-- no two outcomes satisfy an equation with it
abbrev Outcome : Type 0
Outcome = ℕ × (List ℕ × (List ℕ × List ℕ))

abbrev pack : Outcome → Left
pack o = left o.0 o.1.0 o.1.1.0 o.1.1.1

pub one_left : (o p : Outcome) {z : Left} → pack o ≡ z → pack p ≡ z → o ≡ p
one_left = one_outcome pack (λ x. (x.number, (x.words, (x.ps, x.cs)))) (λ o. refl)
