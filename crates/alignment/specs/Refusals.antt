-- The refusals by their numbers, and the number of an outcome.
use Rattle.std.specs.Prelude.{ℕ, ◌≡◌, refl, false, eqb, Result, Ok, Err}
use Rattle.meaning.specs.Choice.{pick}
use Rattle.alignment.specs.declared.Refusal.{Refusal}
use Rattle.alignment.specs.declared.Refusal.TheVariants.{BytesWhileStaged, NotWholeBytes, TooWide, TableFull, EndWhileStaged, ContradictoryState}

abbrev pub number : Refusal → ℕ
number BytesWhileStaged = 10
number NotWholeBytes = 11
number TooWide = 12
number TableFull = 13
number EndWhileStaged = 16
number ContradictoryState = 18

-- the number of an outcome, 0 where it was accepted
abbrev pub refused : {A : Type 0} → Result A Refusal → ℕ
refused (Ok x) = 0
refused (Err e) = number e

-- the outcome of a number; x where it was accepted
abbrev pub outcome : {A : Type 0} → ℕ → A → Result A Refusal
outcome n x =
    pick (eqb n 0) (Ok x)
    (pick (eqb n 10) (Err BytesWhileStaged)
    (pick (eqb n 11) (Err NotWholeBytes)
    (pick (eqb n 12) (Err TooWide)
    (pick (eqb n 13) (Err TableFull)
    (pick (eqb n 16) (Err EndWhileStaged) (Err ContradictoryState))))))

-- no refusal has the number 0
pub not_zero : (e : Refusal) → eqb (number e) 0 ≡ false
not_zero BytesWhileStaged = refl
not_zero NotWholeBytes = refl
not_zero TooWide = refl
not_zero TableFull = refl
not_zero EndWhileStaged = refl
not_zero ContradictoryState = refl

-- and each has a number of its own
pub outcome_refused : {A : Type 0} (e : Refusal) (x : A) → outcome (number e) x ≡ Err e
outcome_refused BytesWhileStaged x = refl
outcome_refused NotWholeBytes x = refl
outcome_refused TooWide x = refl
outcome_refused TableFull x = refl
outcome_refused EndWhileStaged x = refl
outcome_refused ContradictoryState x = refl
