-- A call leaves a sound state sound, and the fresh state is sound over any tables.
use Rattle.std.specs.Prelude.{ℕ, zero, suc, ◌+◌, ◌-◌, ◌≤◌, ◌≡◌, refl, List, Bool, true, false, ltb}
use Rattle.std.proofs.Common.{sym, ◌∙◌, arith, ltb-true, ltb-false, ne_eqb}
use Rattle.meaning.specs.Choice.{pick}
use Rattle.meaning.specs.Rows.{placed_size, chunk_size, placed_words, chunk_words}
use Rattle.meaning.specs.Alignment.{fresh, World, world, settled, due, end_number, bits_done, chunk_done, Call, add_bitfield, add_bytes, add_dyn_bytes, align, call}
use Rattle.ast.specs.RowLaws.{length_put}
use Rattle.alignment.specs.NumberLaws.{differ, Sound, BitsFit, bits_fit, ChunkFits, bytes_fit, dyn_fit}

-- a total of 64 is due
due_64 : due 64 ≡ true
unfolding due
due_64 = refl

under : (t : ℕ) → t ≤ 64 → due t ≡ false → t ≤ 63
under t h d = cases (ltb 63 t) refl
  where
    cases : (b : Bool) → ltb 63 t ≡ b → t ≤ 63
    cases true e = let p = ltb-true 63 t e in let q : t ≡ 64 = omega arith in absurd (differ (sym (rw q at d) ∙ due_64))
    cases false e = ltb-false 63 t e

either : (d : Bool) (x y : World) → (d ≡ true → Sound x) → (d ≡ false → Sound y) → Sound (pick d x y)
either true x y f g = f refl
either false x y f g = g refl

bits_sound : (s v : ℕ) (w : World) → BitsFit v w → Sound (bits_done s v w)
unfolding bits_done
bits_sound s v w f =
    let a = w.st in
    let total = a.width + v in
    let e = length_put placed_size a.placed (placed_words s v a.width) w.ps refl in
    let c = length_put chunk_size a.chunks (chunk_words 1 a.start (a.placed + 1 - a.start) total 0) w.cs refl in
    either (due total) _ _
    (λ d.
    record {
      narrow = omega arith;
      ordered = omega arith;
      in_placed = rw e (omega (arith, f.row));
      in_chunks = rw c (omega (arith, f.chunk d));
      none = λ h. refl;
    })
    (λ d.
    record {
      narrow = under total f.under d;
      ordered = omega (arith, f.good.ordered);
      in_placed = rw e (omega (arith, f.row));
      in_chunks = f.good.in_chunks;
      none = λ h. absurd (omega (arith, f.good.ordered));
    })

chunk_sound : (kind s v : ℕ) (w : World) → ChunkFits w → Sound (chunk_done kind s v w)
unfolding chunk_done
chunk_sound kind s v w f =
    let e = length_put chunk_size w.st.chunks (chunk_words kind 0 0 v s) w.cs refl in
    record {
      narrow = f.good.narrow;
      ordered = f.good.ordered;
      in_placed = f.good.in_placed;
      in_chunks = rw e (omega (arith, f.chunk));
      none = f.good.none;
    }

settles : (n : ℕ) (x y : World) → (n ≡ 0 → Sound x) → Sound y → Sound (settled n x y).left
settles zero x y f s = f refl
settles (suc n) x y f s = rw (ne_eqb (suc n) 0 (λ e. omega arith)) s

pub sound_step : (k : Call) (w : World) → Sound w → Sound (call k w).left
unfolding call
sound_step (add_bitfield s v) w h = settles _ _ w (λ e. bits_sound s v w (bits_fit v w e)) h
sound_step (add_bytes s v) w h = settles _ _ w (λ e. chunk_sound 2 s v w (bytes_fit v w e)) h
sound_step (add_dyn_bytes s) w h = settles _ _ w (λ e. chunk_sound 3 s 0 w (dyn_fit w e)) h
sound_step align w h = settles (end_number w) w w (λ e. h) h

pub sound_fresh : (ps cs : List ℕ) → Sound (world fresh ps cs)
sound_fresh ps cs =
    record { narrow = omega arith; ordered = omega arith; in_placed = omega arith; in_chunks = omega arith; none = λ h. refl }
