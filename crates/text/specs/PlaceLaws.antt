-- Laws of places: one byte more, the bounds of a place, and SourceLocation::new over the source's own starts of lines.
use Rattle.std.specs.Prelude.{ℕ, zero, suc, ◌+◌, ◌-◌, ◌≤◌, ◌<◌, ◌≡◌, refl, List, [], ◌∷◌, ◌++◌, Bool, true, false, length, get_or, take, eqb}
use Rattle.std.proofs.Common.{ap, ◌∙◌, add-zero, add-one, arith, lt-ltb, le-ltb, eq-eqb, ne_eqb, take-suc, length-take-le}
use Rattle.meaning.specs.declared.SourceLocation.{SourceLocation}
use Rattle.meaning.specs.Choice.{pick}
use Rattle.meaning.specs.Places.{at, fold, location, over, moved, place_at, starts_from, starts}

-- ---- over bytes
pub moved_append : (xs ys : List ℕ) (p : SourceLocation) → moved (xs ++ ys) p ≡ moved ys (moved xs p)
unfolding moved
moved_append [] ys p = refl
moved_append (x ∷ xs) ys p = moved_append xs ys (over x p)

pub moved_one : (b : ℕ) (p : SourceLocation) → moved (b ∷ []) p ≡ over b p
unfolding moved
moved_one b p = refl

pub place_at_start : (s : List ℕ) → place_at s 0 ≡ at 0 0 0
unfolding moved
place_at_start s = refl

place_at_step : (s : List ℕ) (i : ℕ) → i < length s → place_at s (i + 1) ≡ over (get_or s i 0) (place_at s i)
place_at_step s i h = rw (add-one i, take-suc s i 0, moved_append, moved_one)

pub step_lf : (s : List ℕ) (i l c : ℕ) → i < length s → get_or s i 0 ≡ 10 → place_at s i ≡ at i l c
    → place_at s (i + 1) ≡ at (i + 1) (l + 1) 0
step_lf s i l c h e q = place_at_step s i h ∙ simp (eq-eqb _ _ e, q)

step_other : (s : List ℕ) (i l c : ℕ) → i < length s → (get_or s i 0 ≡ 10 → ⊥) → place_at s i ≡ at i l c
    → place_at s (i + 1) ≡ at (i + 1) l (c + 1)
step_other s i l c h e q = place_at_step s i h ∙ simp (ne_eqb _ _ e, q)

-- over n bytes that are no LF
pub step_flat : (s : List ℕ) (i l c n : ℕ) → i + n ≤ length s → ((j : ℕ) → j < n → get_or s (i + j) 0 ≡ 10 → ⊥) → place_at s i ≡ at i l c
    → place_at s (i + n) ≡ at (i + n) l (c + n)
step_flat s i l c zero h e q =
    let a : i + 0 ≡ i = add-zero i in
    let b : c + 0 ≡ c = add-zero c in
    rw (a, b) q
step_flat s i l c (suc n) h e q =
    let a : i + suc n ≡ i + n + 1 = omega arith in
    let b : c + suc n ≡ c + n + 1 = omega arith in
    rw (a, b)
    (step_other s (i + n) l (c + n) (omega arith) (e n (omega arith)) (step_flat s i l c n (omega arith) (λ j k. e j (omega arith)) q))

-- how many bytes from the front are no LF
pub record LineLength (t : List ℕ) (r : ℕ) : Type 0 where
  pub fits : r ≤ length t
  pub flat : (j : ℕ) → j < r → get_or t j 0 ≡ 10 → ⊥
  pub stop : r < length t → get_or t r 0 ≡ 10

-- ---- bounds: q is n bytes past p
pub record Near (n : ℕ) (q p : SourceLocation) : Type 0 where
  pub off : q.offset ≡ p.offset + n
  pub line : q.line ≤ p.line + n
  pub column : q.column ≤ p.column + n

over_near : (b : ℕ) (p : SourceLocation) → Near 1 (over b p) p
over_near b p = by (eqb b 10)
  where
    by : (t : Bool) → Near 1 (pick t (at (p.offset + 1) (p.line + 1) 0) (at (p.offset + 1) p.line (p.column + 1))) p
    by true = record { off = refl; line = omega arith; column = omega arith }
    by false = record { off = refl; line = omega arith; column = omega arith }

pub moved_near : (xs : List ℕ) (p : SourceLocation) → Near (length xs) (moved xs p) p
unfolding moved
moved_near [] p = record { off = omega arith; line = omega arith; column = omega arith }
moved_near (x ∷ xs) p =
    let h = moved_near xs (over x p) in
    let k = over_near x p in
    record { off = omega (arith, h.off, k.off); line = omega (arith, h.line, k.line); column = omega (arith, h.column, k.column) }

pub place_at_near : (s : List ℕ) (n : ℕ) → n ≤ length s → Near n (place_at s n) (at 0 0 0)
place_at_near s n h = rw (length-take-le n s h) at (moved_near (take n s) (at 0 0 0))

module _ (s : List ℕ) (n : ℕ) (h : n ≤ length s) where
  pub offset_is : (place_at s n).offset ≡ n
  offset_is = omega (arith, (place_at_near s n h).off)

  pub line_below : (place_at s n).line ≤ n
  line_below = omega (arith, (place_at_near s n h).line)

  pub column_below : (place_at s n).column ≤ n
  column_below = omega (arith, (place_at_near s n h).column)

-- ---- SourceLocation::new
same_place : (o o' l l' c c' : ℕ) → o ≡ o' → l ≡ l' → c ≡ c' → at o l c ≡ at o' l' c'
same_place o o' l l' c c' p q r = rw (p, q, r)

-- no start that is left is at or before the offset
stays_one : (b : Bool) (ss : List ℕ) (o k i : ℕ) (p : SourceLocation) → o ≤ k → fold o ss i p ≡ p
    → fold o (pick b ((k + 1) ∷ ss) ss) i p ≡ p
unfolding fold
stays_one true ss o k i p h e = simp (lt-ltb o (k + 1) (omega arith))
stays_one false ss o k i p h e = e

stays : (s : List ℕ) (o k i : ℕ) (p : SourceLocation) → o ≤ k → fold o (starts_from k s) i p ≡ p
unfolding fold starts_from
stays [] o k i p h = refl
stays (x ∷ s) o k i p h = stays_one (eqb x 10) (starts_from (k + 1) s) o k i p h (stays s o (k + 1) i p (omega arith))

-- one byte on: it starts a line, or it does not
line_one : (c : Bool) (ss t : List ℕ) (d o k l b : ℕ) → o ≡ k + suc d → b ≤ k
    → fold o ss (l + 1 + 1) (at o (l + 1) (o - (k + 1))) ≡ moved t (at (k + 1) (l + 1) (k + 1 - (k + 1)))
    → fold o ss (l + 1) (at o l (o - b)) ≡ moved t (at (k + 1) l (k + 1 - b))
    → fold o (pick c ((k + 1) ∷ ss) ss) (l + 1) (at o l (o - b)) ≡ moved t (pick c (at (k + 1) (l + 1) 0) (at (k + 1) l (k - b + 1)))
unfolding fold
line_one true ss t d o k l b e h lf other =
    rw (le-ltb o (k + 1) (omega arith))
    (lf ∙ ap (moved t) (same_place (k + 1) (k + 1) (l + 1) (l + 1) (k + 1 - (k + 1)) 0 refl refl (omega arith)))
line_one false ss t d o k l b e h lf other =
    other ∙ ap (moved t) (same_place (k + 1) (k + 1) l l (k + 1 - b) (k - b + 1) refl refl (omega arith))

-- from an offset k in line l, which started at b, over d bytes more
lines : (s : List ℕ) (d o k l b : ℕ) → o ≡ k + d → b ≤ k → d ≤ length s
    → fold o (starts_from k s) (l + 1) (at o l (o - b)) ≡ moved (take d s) (at k l (k - b))
unfolding fold starts_from moved
lines [] zero o k l b e h f = same_place o k l l (o - b) (k - b) (omega arith) refl (omega arith)
lines [] (suc d) o k l b e h f = absurd (omega arith)
lines (x ∷ s) zero o k l b e h f =
    stays (x ∷ s) o k (l + 1) (at o l (o - b)) (omega arith) ∙ same_place o k l l (o - b) (k - b) (omega arith) refl (omega arith)
lines (x ∷ s) (suc d) o k l b e h f =
    line_one (eqb x 10) (starts_from (k + 1) s) (take d s) d o k l b e h
    (lines s d o (k + 1) (l + 1) (k + 1) (omega arith) (omega arith) (omega arith))
    (lines s d o (k + 1) l b (omega arith) (omega arith) (omega arith))

-- the place of an offset is what SourceLocation::new answers over the starts
pub location_is : (s : List ℕ) (o : ℕ) → o ≤ length s → location o (starts s) ≡ place_at s o
unfolding fold
location_is s o h = rw (le-ltb o 0 (omega arith)) (lines s o o 0 0 0 (omega arith) (omega arith) h)
