-- The text of a name is a part of the source itself: its place in memory, and what the tests of a name's bounds say.
use Rattle.std.specs.Prelude.{ℕ, ◌+◌, ◌-◌, ◌≤◌, ◌<◌, ◌≡◌, refl, List, Bool, true, false, length, take, drop, ltb}
use Rattle.std.proofs.Common.{sym, ◌∙◌, add-zero, add_comm, arith, lt-ltb, le-ltb, ltb-true, ltb-false}
use Rattle.meaning.specs.Choice.{pick}
use Rattle.meaning.specs.Reading.{name_text}

-- the name's place in memory: in the source's block, at the name's offset from the source's place; the empty part is at that place itself
abbrev pub name_place : ℕ × ℕ → List ℕ → ℕ → ℕ → ℕ × ℕ
name_place p src o n = (p.0, p.1 + pick (ltb (length src) (o + n)) 0 o)

-- what the tests of a name's bounds say
pub begins_past : (src : List ℕ) (o n : ℕ) → length src < o → true ≡ ltb (length src) (o + n)
begins_past src o n h =
    let l : length src < o + n = omega arith in
    sym (lt-ltb _ _ l)

pub ends_past : (src : List ℕ) (o n : ℕ) → o ≤ length src → ltb (length src - o) n ≡ ltb (length src) (o + n)
ends_past src o n h = cases (ltb (length src - o) n) refl
  where
    cases : (b : Bool) → ltb (length src - o) n ≡ b → b ≡ ltb (length src) (o + n)
    cases true e =
        let l : length src - o < n = ltb-true _ _ e in
        let m : length src < o + n = omega arith in
        sym (lt-ltb _ _ m)
    cases false e =
        let l : n ≤ length src - o = ltb-false _ _ e in
        let m : o + n ≤ length src = omega arith in
        sym (le-ltb _ _ m)

pub within : {b : Bool} (src : List ℕ) (o n : ℕ) → b ≡ false → b ≡ ltb (length src) (o + n) → o + n ≤ length src
within src o n h e = ltb-false _ _ (sym e ∙ h)

-- the part that is handed back, where the name lies outside, and where it lies within
pub outside_part : {b : Bool} (p : ℕ × ℕ) (src : List ℕ) (o n : ℕ) → b ≡ true → b ≡ ltb (length src) (o + n)
    → (take 0 src ≡ name_text src o n) × (p ≡ name_place p src o n)
outside_part p src o n h e = rw (sym e ∙ h, add-zero) (refl, refl)

pub inside_part : {b : Bool} (p : ℕ × ℕ) (src : List ℕ) (o n : ℕ) → b ≡ false → b ≡ ltb (length src) (o + n)
    → (take (o + n - o) (drop o src) ≡ name_text src o n) × (◌≡◌ {A = ℕ × ℕ} (p.0, o + p.1) (name_place p src o n))
inside_part p src o n h e =
    let m : o + n - o ≡ n = omega arith in
    rw (sym e ∙ h, m, add_comm o p.1) (refl, refl)
