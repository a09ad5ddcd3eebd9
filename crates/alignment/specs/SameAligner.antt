-- The port's aligner and the Rust's, side by side over any calls: the same chunks and staged fields, a panic being a refusal.
use Rattle.std.specs.Prelude.{ℕ, zero, suc, ◌+◌, ◌%◌, ◌≡◌, Bool, true, false, not, length, ltb, eqb}
use Rattle.std.proofs.Math.Path.{refl}
use Rattle.std.proofs.Common.{◌∙◌, arith, length-append, lt-ltb, le-ltb, ne_eqb}
use mathlib.Core.List.{List, [], ◌∷◌, ◌++◌, append-nil}
use Rattle.meaning.specs.Choice.{pick, both}
use Rattle.meaning.specs.Tables.{puts}
use Rattle.meaning.specs.Rows.{chunk_words}
use Rattle.meaning.specs.Alignment.{fresh, World, world, settled, sound, due, no_placed, no_chunk, bits_number, bytes_number, dyn_number, end_number, bits_done, chunk_done, Call, call, calls, numbers}
use Rattle.alignment.specs.NumberLaws.{Sound, sound_is}
use Rattle.alignment.specs.SoundLaws.{sound_step, sound_fresh}
use Rattle.alignment.specs.ByteAligner.{Field, bytes, dyn_bytes, ByteAligner, Panic, total_too_wide, bytes_unaligned, not_divisible, bytes_too_wide, dyn_unaligned, not_aligned, Outcome, done, panic, new, is_empty, is_aligned, is_multiple_of_8, push_field, push_chunk, commit, try_commit_staged_chunk, perform}
use Rattle.alignment.specs.AlignerRows.{fields, image, image_field, image_commit, image_chunk}

-- a panic as a refusal
abbrev pub refusal : Panic → ℕ
refusal total_too_wide = 12
refusal bytes_unaligned = 10
refusal not_divisible = 11
refusal bytes_too_wide = 12
refusal dyn_unaligned = 10
refusal not_aligned = 16

abbrev pub number : Outcome → ℕ
number (done b) = 0
number (panic p) = refusal p

-- the aligner after a call; the Rust runs on a clone, so that a panic leaves it as it was
abbrev pub after : ByteAligner → Outcome → ByteAligner
after b (done c) = c
after b (panic p) = b

-- the Rust's answers to calls, and its aligner after them
unfoldable pub answers : List Call → ByteAligner → List ℕ
answers [] b = []
answers (k ∷ ks) b = number (perform k b) ∷ answers ks (after b (perform k b))

unfoldable pub performed : List Call → ByteAligner → ByteAligner
performed [] b = b
performed (k ∷ ks) b = performed ks (after b (perform k b))

-- no call was refused for room
unfoldable pub Roomy : List ℕ → Type 0
Roomy [] = Unit
Roomy (n ∷ ns) = (n ≡ 13 → ⊥) × Roomy ns

-- the invariant: the tables, which came as ps and cs, tell the Rust's aligner, and their rows fit
pub record Same (ps cs : List ℕ) (w : World) (b : ByteAligner) : Type 0 where
  pub is : w ≡ image ps cs b
  pub good : Sound w

-- ---- the tests of both sides, one after the other: n is the port's number, o the Rust's outcome
record Agrees (ps cs : List ℕ) (b : ByteAligner) (same x : World) (n : ℕ) (o : Outcome) : Type 0 where
  pub agree : (n ≡ 13 → ⊥) → (n ≡ number o) × ((settled n x same).left ≡ image ps cs (after b o))

module _ {ps cs : List ℕ} {b : ByteAligner} {same x : World} where
  -- a test at which the Rust panics
  test : same ≡ image ps cs b → (t : Bool) (p : Panic) {n : ℕ} {o : Outcome} → Agrees ps cs b same x n o
      → Agrees ps cs b same x (pick t (refusal p) n) (pick t (panic p) o)
  test h false p g = g
  test h true p g = record { agree = λ f. (refl, left p ∙ h) }
    where
      left : (p : Panic) → (settled (refusal p) x same).left ≡ same
      left total_too_wide = refl
      left bytes_unaligned = refl
      left not_divisible = refl
      left bytes_too_wide = refl
      left dyn_unaligned = refl
      left not_aligned = refl

  -- a test of room, which the Rust has not
  full : (t : Bool) {n : ℕ} {o : Outcome} → Agrees ps cs b same x n o → Agrees ps cs b same x (pick t 13 n) o
  full false g = g
  full true g = record { agree = λ f. absurd (f refl) }

  went : (c : ByteAligner) → x ≡ image ps cs c → Agrees ps cs b same x 0 (done c)
  went c e = record { agree = λ f. (refl, e) }

-- ---- the tests themselves
positive : (n : ℕ) → ltb 0 n ≡ not (eqb n 0)
positive zero = refl
positive (suc n) = simp (lt-ltb 0 (suc n) (omega arith), ne_eqb (suc n) 0 (λ e. omega arith))

some_staged : (xs fs : List Field) → ltb (length xs) (length (xs ++ fs)) ≡ not (is_empty fs)
some_staged xs [] = rw append-nil (le-ltb (length xs) (length xs) (omega arith))
some_staged xs (f ∷ fs) = lt-ltb (length xs) (length (xs ++ (f ∷ fs))) (simp length-append (omega arith))

turned : (a : Bool) (x y : Outcome) → pick a x y ≡ pick (not a) y x
turned true x y = refl
turned false x y = refl

clear : (w : World) → Sound w → ltb 0 (sound w) ≡ false
clear w s = rw (sound_is w s)

-- ---- call by call
module _ (ps cs : List ℕ) where
  either : (d : Bool) (x y : World) (c e : ByteAligner) → x ≡ image ps cs c → y ≡ image ps cs e → pick d x y ≡ image ps cs (pick d c e)
  either true x y c e p q = p
  either false x y c e p q = q

  module _ (b : ByteAligner) (g : Sound (image ps cs b)) where
    abbrev w : World
    w = image ps cs b

    -- a field more, committed or not
    bits_image : (s v : ℕ) → bits_done s v w ≡ image ps cs (try_commit_staged_chunk (push_field s v b))
    unfolding image bits_done due
    bits_image s v =
        let c = push_field s v b in
        rw (positive (b.staged_width + v))
        (either (both (not (eqb c.staged_width 0)) (is_multiple_of_8 c.staged_width)) _ _ (commit c) c (image_commit ps cs b s v)
        (image_field ps cs b s v))

    bits_agree : (s v : ℕ) → Agrees ps cs b w (bits_done s v w) (bits_number v w) (perform (Call.add_bitfield s v) b)
    unfolding bits_number perform image
    bits_agree s v =
        let total = b.staged_width + v in
        rw (clear w g)
        (test refl (ltb 64 total) total_too_wide
        (full (no_placed w) (full (both (due total) (no_chunk w)) (went (try_commit_staged_chunk (push_field s v b)) (bits_image s v)))))

    bytes_agree : (s v : ℕ) → Agrees ps cs b w (chunk_done 2 s v w) (bytes_number v w) (perform (Call.add_bytes s v) b)
    unfolding bytes_number perform image chunk_done
    bytes_agree s v =
        rw (clear w g, some_staged (fields b.chunks) b.staged_fields, positive (v % 8))
        (test refl (not (is_aligned b)) bytes_unaligned
        (test refl (not (is_multiple_of_8 v)) not_divisible
        (test refl (ltb 64 v) bytes_too_wide
        (full (no_chunk w) (went (push_chunk (bytes s v) b) (image_chunk ps cs b (bytes s v) (chunk_words 2 0 0 v s) refl refl))))))

    dyn_agree : (s : ℕ) → Agrees ps cs b w (chunk_done 3 s 0 w) (dyn_number w) (perform (Call.add_dyn_bytes s) b)
    unfolding dyn_number perform image chunk_done
    dyn_agree s =
        rw (clear w g, some_staged (fields b.chunks) b.staged_fields)
        (test refl (not (is_aligned b)) dyn_unaligned
        (full (no_chunk w) (went (push_chunk (dyn_bytes s) b) (image_chunk ps cs b (dyn_bytes s) (chunk_words 3 0 0 0 s) refl refl))))

    end_agree : Agrees ps cs b w w (end_number w) (perform Call.align b)
    unfolding end_number perform image
    end_agree =
        rw (clear w g, some_staged (fields b.chunks) b.staged_fields, turned (is_aligned b) (done b) (panic not_aligned))
        (test refl (not (is_aligned b)) not_aligned (went b refl))

  agrees : (k : Call) (b : ByteAligner) → Sound (image ps cs b) → ((call k (image ps cs b)).number ≡ 13 → ⊥)
      → ((call k (image ps cs b)).number ≡ number (perform k b)) × ((call k (image ps cs b)).left ≡ image ps cs (after b (perform k b)))
  unfolding call
  agrees (Call.add_bitfield s v) b g = (bits_agree b g s v).agree
  agrees (Call.add_bytes s v) b g = (bytes_agree b g s v).agree
  agrees (Call.add_dyn_bytes s) b g = (dyn_agree b g s).agree
  agrees Call.align b g = (end_agree b g).agree

  -- every call keeps the invariant, and is refused exactly where the Rust panics
  pub same_step : (k : Call) (w : World) (b : ByteAligner) → Same ps cs w b → ((call k w).number ≡ 13 → ⊥)
      → ((call k w).number ≡ number (perform k b)) × Same ps cs (call k w).left (after b (perform k b))
  same_step k w b s f =
      let r = agrees k b (rw s.is at s.good) (rw s.is at f) in
      (rw s.is r.0, record { is = rw s.is r.1; good = sound_step k w s.good })

  pub side_by_side : (ks : List Call) (w : World) (b : ByteAligner) → Same ps cs w b → Roomy (numbers ks w)
      → (numbers ks w ≡ answers ks b) × Same ps cs (calls ks w) (performed ks b)
  unfolding calls numbers answers performed Roomy
  side_by_side [] w b s f = (refl, s)
  side_by_side (k ∷ ks) w b s f =
      let r = same_step k w b s f.0 in
      let q = side_by_side ks (call k w).left (after b (perform k b)) r.1 f.1 in
      (rw (r.0, q.0), q.1)

-- from a fresh state, over any calls of which none was refused for room: the same numbers, and tables that tell the Rust's aligner
pub same_from_fresh : (ks : List Call) (ps cs : List ℕ) → Roomy (numbers ks (world fresh ps cs))
    → (numbers ks (world fresh ps cs) ≡ answers ks new) × Same ps cs (calls ks (world fresh ps cs)) (performed ks new)
unfolding image puts
same_from_fresh ks ps cs = side_by_side ps cs ks (world fresh ps cs) new (record { is = refl; good = sound_fresh ps cs })
