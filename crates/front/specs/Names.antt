-- What crosses of a name: the number, the length of its text, and the bytes that were lent for the text.
use Rattle.std.specs.Prelude.{ℕ, suc, ◌+◌, ◌≤◌, ◌<◌, ◌≡◌, refl, min, ltb, Bool, true, false, List, ◌++◌, length, take, drop, get_or, set}
use Rattle.std.proofs.Common.{zero-add, arith, add-one, drop_of_length-le, take_all, ltb-true, ltb-false}
use Rattle.std.proofs.Math.Seq.{paste-suc}
use Rattle.meaning.specs.Reading.{name_number, name_text}
use Rattle.alignment.specs.Outcomes.{one_outcome}

pub record Named : Type 0 where
  pub number : ℕ
  pub len : ℕ
  pub text : List ℕ

abbrev pub named : ℕ → ℕ → List ℕ → Named
named number len text = record { number = number; len = len; text = text }

-- the text s over the front of t, as far as t has room
unfoldable pub over : List ℕ → List ℕ → List ℕ
over s t = take (length t) s ++ drop (length s) t

abbrev pub naming : List ℕ → ℕ → ℕ → List ℕ → Named
naming src o n t = let s = name_text src o n in named (name_number src o n) (length s) (over s t)

-- no two outcomes satisfy an equation with it
abbrev Outcome : Type 0
Outcome = ℕ × (ℕ × List ℕ)

abbrev pack : Outcome → Named
pack o = named o.0 o.1.0 o.1.1

pub one_named : (o p : Outcome) {z : Named} → pack o ≡ z → pack p ≡ z → o ≡ p
one_named = one_outcome pack (λ x. (x.number, (x.len, x.text))) (λ o. refl)

-- the copy after i bytes: one byte more, and the end of either
abbrev pub copied : List ℕ → List ℕ → ℕ → List ℕ
copied s t i = take i s ++ drop i t

pub copied_next : (s t : List ℕ) (i : ℕ) → i < length s → i < length t → set (copied s t i) i (get_or s i 0) ≡ copied s t (i + 1)
copied_next s t i h l = rw (add-one i) (rw (zero-add i, zero-add (suc i)) at (paste-suc t 0 s i 0 (rw (zero-add i) l) h))

pub copied_full : (s t : List ℕ) (i : ℕ) → i ≡ length t → i ≤ length s → copied s t i ≡ over s t
unfolding over
copied_full s t i e h =
    let l : length t ≤ i = omega arith in
    let l' : length t ≤ length s = omega arith in
    rw (drop_of_length-le t l, drop_of_length-le t l', e) refl

pub copied_whole : (s t : List ℕ) (i : ℕ) → i ≡ length s → i ≤ length t → copied s t i ≡ over s t
unfolding over
copied_whole s t i e h = rw (take_all i s (omega arith), take_all (length t) s (omega arith), e) refl

-- as many as both have
pub copied_both : (s t : List ℕ) (i : ℕ) → i ≡ min (length s) (length t) → copied s t i ≡ over s t
copied_both s t i e = go (ltb (length s) (length t)) refl
  where
    go : (b : Bool) → ltb (length s) (length t) ≡ b → copied s t i ≡ over s t
    go true h = let l : length s < length t = ltb-true (length s) (length t) h in copied_whole s t i (omega arith) (omega arith)
    go false h = let l : length t ≤ length s = ltb-false (length s) (length t) h in copied_full s t i (omega arith) (omega arith)
