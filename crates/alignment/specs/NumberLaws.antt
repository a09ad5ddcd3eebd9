-- What it says of a state and its tables that a call's number is 0.
use Rattle.std.specs.Prelude.{ℕ, ◌+◌, ◌%◌, ◌<◌, ◌≤◌, ◌≡◌, refl, Bool, true, false, not, ltb, leb}
use Rattle.std.proofs.Common.{arith, le-ltb, ltb-true, ltb-false, leb-false}
use Rattle.meaning.specs.Choice.{pick, both}
use Rattle.meaning.specs.Tables.{room}
use Rattle.meaning.specs.Rows.{placed_size, chunk_size}
use Rattle.meaning.specs.Alignment.{World, sound, due, bits_number, bytes_number, dyn_number}

pub differ : false ≡ true → ⊥
differ e = let z : ◌≡◌ {A = ℕ} 0 1 = cc in omega arith

-- a number is 0: its first test did not hold, and the number of the tests after it is 0
pub past : (b : Bool) (n x : ℕ) → ltb 0 n ≡ true → pick b n x ≡ 0 → (b ≡ false) × (x ≡ 0)
past true n x h e = let p : 0 < n = ltb-true 0 n h in absurd (omega arith)
past false n x h e = (refl, e)

-- ---- a state that does not contradict itself
pub record Sound (w : World) : Type 0 where
  pub narrow : w.st.width ≤ 63
  pub ordered : w.st.start ≤ w.st.placed
  pub in_placed : w.st.placed ≤ room placed_size w.ps
  pub in_chunks : w.st.chunks ≤ room chunk_size w.cs
  pub none : w.st.placed ≤ w.st.start → w.st.width ≡ 0

-- nothing is staged, so there is no width
bare : (s p w : ℕ) → both (not (ltb s p)) (ltb 0 w) ≡ false → p ≤ s → w ≡ 0
bare s p w e h = let z : w ≤ 0 = ltb-false 0 w (rw (le-ltb s p h) at e) in omega arith

is_bare : (s p w : ℕ) → (p ≤ s → w ≡ 0) → both (not (ltb s p)) (ltb 0 w) ≡ false
is_bare s p w f = cases (ltb s p) refl
  where
    cases : (b : Bool) → ltb s p ≡ b → both (not b) (ltb 0 w) ≡ false
    cases true e = refl
    cases false e = let z = f (ltb-false s p e) in le-ltb 0 w (omega arith)

pub sound_says : (w : World) → sound w ≡ 0 → Sound w
unfolding sound
sound_says w e =
    let r1 = past _ 18 _ refl e in
    let r2 = past _ 18 _ refl r1.1 in
    let r3 = past _ 18 _ refl r2.1 in
    let r4 = past _ 18 _ refl r3.1 in
    let r5 = past _ 18 0 refl r4.1 in
    record {
      narrow = ltb-false _ _ r1.0;
      ordered = ltb-false _ _ r2.0;
      in_placed = ltb-false _ _ r3.0;
      in_chunks = ltb-false _ _ r4.0;
      none = bare _ _ _ r5.0;
    }

pub sound_is : (w : World) → Sound w → sound w ≡ 0
unfolding sound
sound_is w s =
    simp (le-ltb _ _ s.narrow, le-ltb _ _ s.ordered, le-ltb _ _ s.in_placed, le-ltb _ _ s.in_chunks, is_bare _ _ _ s.none)

-- 18 did not hold
unmarred : (w : World) → ltb 0 (sound w) ≡ false → Sound w
unmarred w e = let z : sound w ≤ 0 = ltb-false 0 (sound w) e in sound_says w (omega arith)

-- ---- what an accepted call found
pub record BitsFit (v : ℕ) (w : World) : Type 0 where
  pub good : Sound w
  pub under : w.st.width + v ≤ 64
  pub row : w.st.placed < room placed_size w.ps
  pub chunk : due (w.st.width + v) ≡ true → w.st.chunks < room chunk_size w.cs

room_due : (d : Bool) (x c : ℕ) → both d (leb c x) ≡ false → d ≡ true → x < c
room_due true x c e h = leb-false c x e
room_due false x c e h = absurd (differ h)

pub bits_fit : (v : ℕ) (w : World) → bits_number v w ≡ 0 → BitsFit v w
unfolding bits_number
bits_fit v w e =
    let r1 = past _ 18 _ refl e in
    let r2 = past _ 12 _ refl r1.1 in
    let r3 = past _ 13 _ refl r2.1 in
    let r4 = past _ 13 0 refl r3.1 in
    record {
      good = unmarred w r1.0;
      under = ltb-false _ _ r2.0;
      row = leb-false _ _ r3.0;
      chunk = room_due _ _ _ r4.0;
    }

-- nothing was staged, and there is a chunk row
pub record ChunkFits (w : World) : Type 0 where
  pub good : Sound w
  pub bare : w.st.placed ≤ w.st.start
  pub chunk : w.st.chunks < room chunk_size w.cs

pub bytes_fit : (v : ℕ) (w : World) → bytes_number v w ≡ 0 → ChunkFits w
unfolding bytes_number
bytes_fit v w e =
    let r1 = past _ 18 _ refl e in
    let r2 = past _ 10 _ refl r1.1 in
    let r3 = past (ltb 0 (v % 8)) 11 _ refl r2.1 in
    let r4 = past (ltb 64 v) 12 _ refl r3.1 in
    let r5 = past _ 13 0 refl r4.1 in
    record { good = unmarred w r1.0; bare = ltb-false _ _ r2.0; chunk = leb-false _ _ r5.0 }

pub dyn_fit : (w : World) → dyn_number w ≡ 0 → ChunkFits w
unfolding dyn_number
dyn_fit w e =
    let r1 = past _ 18 _ refl e in
    let r2 = past _ 10 _ refl r1.1 in
    let r3 = past _ 13 0 refl r2.1 in
    record { good = unmarred w r1.0; bare = ltb-false _ _ r2.0; chunk = leb-false _ _ r3.0 }
