-- No two outcomes satisfy a statement that packs all of an outcome into one term and equates it: the pack can be undone.
use Rattle.std.specs.Prelude.{◌≡◌, refl, List, ℕ, Result, Ok, Err}
use Rattle.std.proofs.Common.{sym, ap, ◌∙◌}
use Rattle.meaning.specs.declared.Aligner.{Aligner}
use Rattle.meaning.specs.Alignment as meaning
use Rattle.alignment.specs.declared.Refusal.{Refusal}
use Rattle.alignment.specs.Refusals.{refused, outcome, outcome_refused}
use Rattle.alignment.specs.Answers.{Told, told, called, Ended, finished}

pub one_outcome : {A B : Type 0} (pack : A → B) (unpack : B → A) → ((x : A) → unpack (pack x) ≡ x) → (x y : A) {z : B} → pack x ≡ z → pack y ≡ z → x ≡ y
one_outcome pack unpack undone x y p q = sym (undone x) ∙ ap unpack (p ∙ sym q) ∙ undone y

-- ---- the outcome of a check, or of a call on a lent state
refused_back : (r : Result Unit Refusal) → outcome (refused r) tt ≡ r
refused_back (Ok x) = refl
refused_back (Err e) = outcome_refused e tt

pub one_refused : (r s : Result Unit Refusal) {n : ℕ} → refused r ≡ n → refused s ≡ n → r ≡ s
one_refused = one_outcome refused (λ n. outcome n tt) refused_back

-- ---- a call on the state a: the answer, and the words of both tables
abbrev Outcome : Type 0
Outcome = Result Aligner Refusal × (List ℕ × List ℕ)

module _ (a : Aligner) where
  abbrev pack : Outcome → meaning.Called
  pack o = called a o.0 o.1.0 o.1.1

  abbrev unpack : meaning.Called → Outcome
  unpack c = (outcome c.number c.left.st, (c.left.ps, c.left.cs))

  undone : (r : Result Aligner Refusal) (ps cs : List ℕ) → unpack (called a r ps cs) ≡ (r, (ps, cs))
  undone (Ok b) ps cs = refl
  undone (Err e) ps cs = ap (λ (r : Result Aligner Refusal). (r, (ps, cs))) (outcome_refused e a)

  pub one_called : (o p : Outcome) {z : meaning.Called} → pack o ≡ z → pack p ≡ z → o ≡ p
  one_called = one_outcome pack unpack (λ o. undone o.0 o.1.0 o.1.1)

  -- the same of what a call would answer
  told_back : (r : Result Aligner Refusal) → outcome (told a r).number (told a r).state ≡ r
  told_back (Ok b) = refl
  told_back (Err e) = outcome_refused e a

  pub one_told : (r s : Result Aligner Refusal) {z : Told} → told a r ≡ z → told a s ≡ z → r ≡ s
  one_told = one_outcome (told a) (λ t. outcome t.number t.state) told_back

-- ---- the end
finished_back : (r : Result ℕ Refusal) → outcome (finished r).number (finished r).chunks ≡ r
finished_back (Ok n) = refl
finished_back (Err e) = outcome_refused e 0

pub one_finished : (r s : Result ℕ Refusal) {z : Ended} → finished r ≡ z → finished s ≡ z → r ≡ s
one_finished = one_outcome finished (λ x. outcome x.number x.chunks) finished_back
