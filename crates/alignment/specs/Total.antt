-- From a fresh state, over any calls: the chunk widths of kind 1 and the staged width are the sum of the accepted bit widths.
use Prim.Native.Nat.{ℕ, zero, suc, ◌+◌, ◌-◌, ◌*◌, ◌<◌, ◌≤◌}
use Rattle.std.specs.Prelude.{◌≡◌, List, [], ◌∷◌, Bool, true, false, length, get_or, eqb}
use Rattle.std.proofs.Math.Path.{refl}
use Rattle.std.proofs.Math.Numerals.{add-one}
use Rattle.std.proofs.Common.{arith, ne_eqb}
use Rattle.meaning.specs.Choice.{pick}
use Rattle.meaning.specs.Tables.{put, room}
use Rattle.meaning.specs.Rows.{chunk_size, chunk_words, chunk_kind, chunk_width}
use Rattle.meaning.specs.Alignment.{fresh, World, world, settled, due, bits_number, end_number, bits_done, chunk_done, Call, add_bitfield, add_bytes, add_dyn_bytes, align, call, calls}
use Rattle.ast.specs.RowLaws.{put_word, put_word_before}
use Rattle.alignment.specs.NumberLaws.{bits_fit, bytes_fit, dyn_fit}

-- the bit width that a call asks for
abbrev pub bits_of : Call → ℕ
bits_of (add_bitfield s v) = v
bits_of (add_bytes s v) = 0
bits_of (add_dyn_bytes s) = 0
bits_of align = 0

-- the sum of the accepted bit widths
unfoldable pub taken : List Call → World → ℕ
taken [] w = 0
taken (k ∷ ks) w = pick (eqb (call k w).number 0) (bits_of k) 0 + taken ks (call k w).left

-- the widths of kind 1 among the first n chunk rows
unfoldable pub chunk_bits : ℕ → List ℕ → ℕ
chunk_bits zero cs = 0
chunk_bits (suc n) cs = chunk_bits n cs + pick (eqb (get_or cs (n * chunk_size + chunk_kind) 0) 1) (get_or cs (n * chunk_size + chunk_width) 0) 0

abbrev pub all_bits : World → ℕ
all_bits w = chunk_bits w.st.chunks w.cs + w.st.width

-- one more row leaves those before it
module _ (cs : List ℕ) (k : ℕ) (row : List ℕ) (e : length row ≡ chunk_size) where
  keeps : (n : ℕ) → n ≤ k → chunk_bits n (put chunk_size k row cs) ≡ chunk_bits n cs
  unfolding chunk_bits
  keeps zero h = refl
  keeps (suc n) h =
      simp (
        keeps n (omega arith),
        put_word_before chunk_size k row cs (n * chunk_size + chunk_kind) e (omega arith),
        put_word_before chunk_size k row cs (n * chunk_size + chunk_width) e (omega arith),
      )

  adds : k * chunk_size + chunk_size ≤ length cs → chunk_bits (k + 1) (put chunk_size k row cs)
      ≡ chunk_bits k cs + pick (eqb (get_or row chunk_kind 0) 1) (get_or row chunk_width 0) 0
  unfolding chunk_bits
  adds h = rw add-one (simp (
    keeps k (omega arith),
    put_word chunk_size k row cs chunk_kind e h (omega arith),
    put_word chunk_size k row cs chunk_width e h (omega arith),
  ))

-- a call that adds v where it is accepted
settles : (n v : ℕ) (done same : World) → (n ≡ 0 → all_bits done ≡ all_bits same + v)
    → all_bits (settled n done same).left ≡ all_bits same + pick (eqb n 0) v 0
settles zero v done same h = h refl
settles (suc n) v done same h = simp (ne_eqb (suc n) 0 (λ e. omega arith)) (omega arith)

either : (d : Bool) (x y : World) (t : ℕ) → (d ≡ true → all_bits x ≡ t) → all_bits y ≡ t → all_bits (pick d x y) ≡ t
either true x y t f g = f refl
either false x y t f g = g

bits_more : (s v : ℕ) (w : World) → bits_number v w ≡ 0 → all_bits (bits_done s v w) ≡ all_bits w + v
unfolding bits_done
bits_more s v w e =
    let f = bits_fit v w e in
    either (due (w.st.width + v)) _ _ _
    (λ d. omega (
      arith,
      adds w.cs w.st.chunks
          (chunk_words 1 w.st.start (w.st.placed + 1 - w.st.start) (w.st.width + v) 0) refl (omega (arith, f.chunk d)),
    ))
    (omega arith)

chunk_none : (kind s v : ℕ) (w : World) → eqb kind 1 ≡ false → w.st.chunks < room chunk_size w.cs → all_bits (chunk_done kind s v w) ≡ all_bits w + 0
unfolding chunk_done
chunk_none kind s v w e h = omega (arith, rw e at (adds w.cs w.st.chunks (chunk_words kind 0 0 v s) refl (omega arith)))

step : (k : Call) (w : World) → all_bits (call k w).left ≡ all_bits w + pick (eqb (call k w).number 0) (bits_of k) 0
unfolding call
step (add_bitfield s v) w = settles _ v _ w (bits_more s v w)
step (add_bytes s v) w = settles _ 0 _ w (λ e. chunk_none 2 s v w refl (bytes_fit v w e).chunk)
step (add_dyn_bytes s) w = settles _ 0 _ w (λ e. chunk_none 3 s 0 w refl (dyn_fit w e).chunk)
step align w = settles (end_number w) 0 w w (λ e. omega arith)

pub from_any : (ks : List Call) (w : World) → all_bits (calls ks w) ≡ all_bits w + taken ks w
unfolding calls taken
from_any [] w = omega arith
from_any (k ∷ ks) w = omega (arith, from_any ks (call k w).left, step k w)

pub from_fresh : (ks : List Call) (ps cs : List ℕ) → all_bits (calls ks (world fresh ps cs)) ≡ taken ks (world fresh ps cs)
unfolding chunk_bits
from_fresh ks ps cs = let e : chunk_bits 0 cs ≡ 0 = refl in omega (arith, from_any ks (world fresh ps cs), e)
