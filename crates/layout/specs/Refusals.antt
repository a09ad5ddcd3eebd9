-- The refusals by their numbers, and the number of an outcome.
use Rattle.std.specs.Prelude.{ℕ, ◌≡◌, refl, false, eqb, Result, Ok, Err}
use Rattle.meaning.specs.Choice.{pick}
use Rattle.alignment.specs.declared.Refusal.TheVariants.{BytesWhileStaged, NotWholeBytes, TooWide, TableFull, EndWhileStaged, ContradictoryState}
use Rattle.alignment.specs.declared.Refusal as aligner
use Rattle.alignment.specs.Refusals as aligner_refusals
use Rattle.layout.specs.declared.Refusal.{Refusal}
use Rattle.layout.specs.declared.Refusal.TheVariants.{NoSuchDeclaration, DamagedRow, WidthNotInSyntax, Aligner}

abbrev pub number : Refusal → ℕ
number NoSuchDeclaration = 15
number DamagedRow = 17
number WidthNotInSyntax = 14
number (Aligner e) = aligner_refusals.number e

-- the number of an outcome, 0 where it was accepted
abbrev pub refused : {A : Type 0} → Result A Refusal → ℕ
refused (Ok x) = 0
refused (Err e) = number e

-- an outcome of the aligner
abbrev pub of_aligner : {A : Type 0} → Result A aligner.Refusal → Result A Refusal
of_aligner (Ok x) = Ok x
of_aligner (Err e) = Err (Aligner e)

-- the outcome of a number; x where it was accepted
abbrev pub outcome : {A : Type 0} → ℕ → A → Result A Refusal
outcome n x =
    pick (eqb n 14) (Err WidthNotInSyntax)
    (pick (eqb n 15) (Err NoSuchDeclaration) (pick (eqb n 17) (Err DamagedRow) (of_aligner (aligner_refusals.outcome n x))))

-- no refusal has the number 0
pub not_zero : (e : Refusal) → eqb (number e) 0 ≡ false
not_zero NoSuchDeclaration = refl
not_zero DamagedRow = refl
not_zero WidthNotInSyntax = refl
not_zero (Aligner e) = aligner_refusals.not_zero e

-- and each has a number of its own
pub outcome_refused : {A : Type 0} (e : Refusal) (x : A) → outcome (number e) x ≡ Err e
outcome_refused NoSuchDeclaration x = refl
outcome_refused DamagedRow x = refl
outcome_refused WidthNotInSyntax x = refl
outcome_refused (Aligner BytesWhileStaged) x = refl
outcome_refused (Aligner NotWholeBytes) x = refl
outcome_refused (Aligner TooWide) x = refl
outcome_refused (Aligner TableFull) x = refl
outcome_refused (Aligner EndWhileStaged) x = refl
outcome_refused (Aligner ContradictoryState) x = refl
