-- The invariant word by word: a table is the words of its rows, one after the other, and past them as it came.
use Rattle.std.specs.Prelude.{ℕ, ◌+◌, ◌*◌, ◌≤◌, ◌≡◌, refl, List, [], ◌∷◌, ◌++◌, map, length, drop}
use Rattle.std.proofs.Common.{arith}
use Rattle.std.proofs.lemmas.List.{length-map}
use Rattle.meaning.specs.Tables.{puts, flat}
use Rattle.meaning.specs.Rows.{placed_size, chunk_size}
use Rattle.meaning.specs.Alignment.{World}
use Rattle.ast.specs.RowLaws.{Sized, length_puts, puts_all}
use Rattle.alignment.specs.ByteAligner.{Field, Chunk, bitpack, bytes, dyn_bytes, ByteAligner}
use Rattle.alignment.specs.AlignerRows.{words, chunk_rows, chunk_rows_length, placed_fields, image}
use Rattle.alignment.specs.SameAligner.{Same}

field_sizes : (fs : List Field) → Sized placed_size (map words fs)
unfolding Sized
field_sizes [] = tt
field_sizes (f ∷ fs) = (refl, field_sizes fs)

chunk_sizes : (k : ℕ) (xs : List Chunk) → Sized chunk_size (chunk_rows k xs)
unfolding Sized
chunk_sizes k [] = tt
chunk_sizes k (bitpack fs v ∷ xs) = (refl, chunk_sizes (k + length fs) xs)
chunk_sizes k (bytes s v ∷ xs) = (refl, chunk_sizes k xs)
chunk_sizes k (dyn_bytes s ∷ xs) = (refl, chunk_sizes k xs)

-- n rows that fit the table as it is now
whole : (size n : ℕ) (rows : List (List ℕ)) (t : List ℕ) → Sized size rows → length rows ≡ n → n * size ≤ length (puts size 0 rows t)
    → puts size 0 rows t ≡ flat rows ++ drop (n * size) t
whole size n rows t z e h = rw (← e) (puts_all size rows t z (rw (length_puts size 0 rows t z, ← e) at h))

pub same_words : (ps cs : List ℕ) (w : World) (b : ByteAligner) → Same ps cs w b
    → (w.ps ≡ flat (map words (placed_fields b)) ++ drop (length (placed_fields b) * placed_size) ps)
    × (w.cs ≡ flat (chunk_rows 0 b.chunks) ++ drop (length b.chunks * chunk_size) cs)
unfolding image
same_words ps cs w b s =
    let g = rw s.is at s.good in
    rw s.is (
      whole placed_size _ (map words (placed_fields b)) ps (field_sizes (placed_fields b)) (length-map (placed_fields b) words) (omega (arith, g.in_placed)),
      whole chunk_size _ (chunk_rows 0 b.chunks) cs (chunk_sizes 0 b.chunks) (chunk_rows_length 0 b.chunks) (omega (arith, g.in_chunks)),
    )
