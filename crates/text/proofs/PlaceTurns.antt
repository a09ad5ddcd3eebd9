-- What the turns of a move show, and those of the search for the end of a line.
use Prim.Native.Nat.{ℕ, ◌+◌, ◌-◌, ◌≤◌, ◌<◌}
use mathlib.Core.Path.{◌≡◌, refl, ap, subst, sym, ◌∙◌}
use mathlib.Core.List.{List}
use mathlib.Core.Bool.{Bool, true, false}
use native.Mathlib.Omega.{arith}
use borrow.Author.Tests.{eqb-true, eqb-false}
use lib.Dec.{eqb}
use lib.ListN.{length, get_or, take, drop, length-drop}
use lib.Seq.{length-take-le, get_or-take, get_or-drop}
use Rattle.meaning.specs.declared.SourceLocation.{SourceLocation}
use Rattle.meaning.specs.Places.{at, place_at}
use Rattle.text.specs.PlaceLaws.{step_lf, step_flat, LineLength, line_below, column_below}

-- ---- a place on its way to the goal
pub record Moved (s : List ℕ) (goal i l c : ℕ) : Type 0 where
  pub upto : i ≤ goal
  pub inside : goal ≤ length s
  pub line : l ≤ i
  pub column : c ≤ i
  pub is : place_at s i ≡ at i l c

pub move_starts : (s : List ℕ) (goal : ℕ) (p : SourceLocation) → p ≡ place_at s p.offset → p.offset ≤ goal → goal ≤ length s
    → Moved s goal p.offset p.line p.column
move_starts s goal p e h k =
    let n : p.offset ≤ length s = omega arith in
    let l = ap (λ q. q.line) e in
    let c = ap (λ q. q.column) e in
    record {
      upto = h;
      inside = k;
      line = omega (arith, line_below s p.offset n);
      column = omega (arith, column_below s p.offset n);
      is = sym e;
    }

-- n bytes on, to the end of the line or to the goal
module _ {s : List ℕ} {goal i l c n : ℕ} (m : Moved s goal i l c) (e : LineLength (take (goal - i) (drop i s)) n) where
  part_length : length (take (goal - i) (drop i s)) ≡ goal - i
  part_length = length-take-le (goal - i) (drop i s) (omega (arith, length-drop i s, m.inside, m.upto))

  pub line_fits : i + n ≤ goal
  line_fits = omega (arith, part_length, e.fits, m.upto)

  part_byte : (j : ℕ) → j < goal - i → get_or (take (goal - i) (drop i s)) j 0 ≡ get_or s (i + j) 0
  part_byte j h = get_or-take (goal - i) (drop i s) j 0 h ∙ get_or-drop i s j 0

  at_end_lem : place_at s (i + n) ≡ at (i + n) l (c + n)
  at_end_lem =
      step_flat s i l c n (omega (arith, line_fits, m.inside))
      (λ j h q. e.flat j h (part_byte j (omega (arith, line_fits)) ∙ q)) m.is

  pub move_line : (i + n ≡ goal → ⊥) → Moved s goal (i + (n + 1)) (l + 1) 0
  move_line h =
      let z : i + n + 1 ≡ i + (n + 1) = omega arith in
      let k : i + n < goal = omega (arith, line_fits) in
      let f : get_or s (i + n) 0 ≡ 10 = sym (part_byte n (omega arith)) ∙ e.stop (omega (arith, part_length)) in
      record {
        upto = omega arith;
        inside = m.inside;
        line = omega (arith, m.line);
        column = omega arith;
        is = rw (← z) (step_lf s (i + n) l (c + n) (omega (arith, m.inside)) f at_end_lem);
      }

  pub move_ends : i + n ≡ goal → at goal l (c + n) ≡ place_at s goal
  move_ends h = sym (subst (λ (k : ℕ). place_at s k ≡ at k l (c + n)) h at_end_lem)

-- ---- the search for the end of a line: no LF before i
pub record Flat (t : List ℕ) (i : ℕ) : Type 0 where
  pub fits : i ≤ length t
  pub flat : (j : ℕ) → j < i → get_or t j 0 ≡ 10 → ⊥

pub flat_starts : (t : List ℕ) → Flat t 0
flat_starts t = record { fits = omega arith; flat = λ j h. absurd (omega arith) }

module _ {t : List ℕ} {i : ℕ} (f : Flat t i) where
  pub flat_more : i < length t → (get_or t i 0 ≡ 10 → ⊥) → Flat t (i + 1)
  flat_more h n = record { fits = omega arith; flat = λ j k. by j k (eqb j i) refl }
    where
      by : (j : ℕ) → j < i + 1 → (b : Bool) → eqb j i ≡ b → get_or t j 0 ≡ 10 → ⊥
      by j k true q = let e : j ≡ i = eqb-true j i q in rw e n
      by j k false q = let e : j ≡ i → ⊥ = eqb-false j i q in f.flat j (omega arith)

  pub flat_found : get_or t i 0 ≡ 10 → LineLength t i
  flat_found e = record { fits = f.fits; flat = f.flat; stop = λ h. e }

  pub flat_none : length t ≤ i → LineLength t i
  flat_none h = record { fits = f.fits; flat = f.flat; stop = λ k. absurd (omega arith) }
