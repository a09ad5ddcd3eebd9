-- What the tables say of the Rust's aligner, and of one field or chunk more.
use Rattle.std.specs.Prelude.{ℕ, suc, ◌+◌, ◌-◌, ◌≡◌}
use Rattle.std.proofs.Math.Path.{refl}
use Rattle.std.proofs.Common.{sym, ap, ◌∙◌, arith, add-zero, zero-add}
use mathlib.Core.List.{List, [], ◌∷◌, ◌++◌, map, map-append, append_assoc, append-nil}
use Rattle.std.proofs.Math.ListN.{length, length-append}
use Rattle.std.proofs.lemmas.List.{length-map}
use Rattle.meaning.specs.Tables.{put, puts}
use Rattle.meaning.specs.Rows.{placed_size, chunk_size, chunk_words, placed_words}
use Rattle.meaning.specs.Alignment.{World, world}
use Rattle.ast.specs.RowLaws.{puts_next}
use Rattle.alignment.specs.ByteAligner.{Field, Chunk, bitpack, bytes, dyn_bytes, ByteAligner, push_field, push_chunk, commit}

-- a placed row
abbrev pub words : Field → List ℕ
words f = placed_words f.symbol f.width f.offset

-- the fields of chunks, in order
abbrev pub fields : List Chunk → List Field
fields [] = []
fields (bitpack fs v ∷ cs) = fs ++ fields cs
fields (bytes s v ∷ cs) = fields cs
fields (dyn_bytes s ∷ cs) = fields cs

-- the rows of chunks; k fields stand before them
abbrev pub chunk_rows : ℕ → List Chunk → List (List ℕ)
chunk_rows k [] = []
chunk_rows k (bitpack fs v ∷ cs) = chunk_words 1 k (length fs) v 0 ∷ chunk_rows (k + length fs) cs
chunk_rows k (bytes s v ∷ cs) = chunk_words 2 0 0 v s ∷ chunk_rows k cs
chunk_rows k (dyn_bytes s ∷ cs) = chunk_words 3 0 0 0 s ∷ chunk_rows k cs

-- every field: those of the chunks, then the staged ones
abbrev pub placed_fields : ByteAligner → List Field
placed_fields b = fields b.chunks ++ b.staged_fields

-- the state and the tables that an aligner leaves of tables that came as ps and cs
unfoldable pub image : List ℕ → List ℕ → ByteAligner → World
image ps cs b =
    world
    (record {
      placed = length (placed_fields b);
      chunks = length b.chunks;
      start = length (fields b.chunks);
      width = b.staged_width;
    })
    (puts placed_size 0 (map words (placed_fields b)) ps)
    (puts chunk_size 0 (chunk_rows 0 b.chunks) cs)

-- ---- the rows of one field or chunk more
length_next : {A : Type 0} (xs : List A) (x : A) → length (xs ++ (x ∷ [])) ≡ length xs + 1
length_next xs x = length-append xs (x ∷ [])

fields_append : (xs ys : List Chunk) → fields (xs ++ ys) ≡ fields xs ++ fields ys
fields_append [] ys = refl
fields_append (bitpack fs v ∷ xs) ys = rw (fields_append xs ys) (sym (append_assoc fs (fields xs) (fields ys)))
fields_append (bytes s v ∷ xs) ys = fields_append xs ys
fields_append (dyn_bytes s ∷ xs) ys = fields_append xs ys

chunk_rows_append : (k : ℕ) (xs ys : List Chunk) → chunk_rows k (xs ++ ys) ≡ chunk_rows k xs ++ chunk_rows (k + length (fields xs)) ys
chunk_rows_append k [] ys = rw add-zero
chunk_rows_append k (bitpack fs v ∷ xs) ys =
    let e : k + length fs + length (fields xs) ≡ k + length (fs ++ fields xs) = rw length-append (omega arith) in
    ap (λ (rs : List (List ℕ)). chunk_words 1 k (length fs) v 0 ∷ rs) (rw (← e) (chunk_rows_append (k + length fs) xs ys))
chunk_rows_append k (bytes s v ∷ xs) ys = ap (λ (rs : List (List ℕ)). chunk_words 2 0 0 v s ∷ rs) (chunk_rows_append k xs ys)
chunk_rows_append k (dyn_bytes s ∷ xs) ys = ap (λ (rs : List (List ℕ)). chunk_words 3 0 0 0 s ∷ rs) (chunk_rows_append k xs ys)

pub chunk_rows_length : (k : ℕ) (xs : List Chunk) → length (chunk_rows k xs) ≡ length xs
chunk_rows_length k [] = refl
chunk_rows_length k (bitpack fs v ∷ xs) = ap suc (chunk_rows_length (k + length fs) xs)
chunk_rows_length k (bytes s v ∷ xs) = ap suc (chunk_rows_length k xs)
chunk_rows_length k (dyn_bytes s ∷ xs) = ap suc (chunk_rows_length k xs)

next_field : (fs : List Field) (f : Field) (t : List ℕ) → puts placed_size 0 (map words (fs ++ (f ∷ []))) t
    ≡ put placed_size (length fs) (words f) (puts placed_size 0 (map words fs) t)
next_field fs f t =
    rw (map-append words fs (f ∷ []))
    (puts_next placed_size (map words fs) (words f) t ∙ rw (length-map fs words))

next_chunk : (xs : List Chunk) (c : Chunk) (r t : List ℕ) → chunk_rows (length (fields xs)) (c ∷ []) ≡ r ∷ []
    → puts chunk_size 0 (chunk_rows 0 (xs ++ (c ∷ []))) t ≡ put chunk_size (length xs) r (puts chunk_size 0 (chunk_rows 0 xs) t)
next_chunk xs c r t e =
    rw (chunk_rows_append 0 xs (c ∷ []), zero-add, e)
    (puts_next chunk_size (chunk_rows 0 xs) r t ∙ rw (chunk_rows_length 0 xs))

committed : (xs : List Chunk) (fs : List Field) (v : ℕ) → fields (xs ++ (bitpack fs v ∷ [])) ≡ fields xs ++ fs
committed xs fs v = fields_append xs (bitpack fs v ∷ []) ∙ rw (append-nil fs)

-- ---- what each call leaves, told
module _ (ps cs : List ℕ) (b : ByteAligner) where
  abbrev n : ℕ
  n = length (placed_fields b)

  abbrev m : ℕ
  m = length b.chunks

  abbrev first : ℕ
  first = length (fields b.chunks)

  abbrev ps' : List ℕ
  ps' = puts placed_size 0 (map words (placed_fields b)) ps

  abbrev cs' : List ℕ
  cs' = puts chunk_size 0 (chunk_rows 0 b.chunks) cs

  module _ (s v : ℕ) where
    abbrev field : Field
    field = record { symbol = s; width = v; offset = b.staged_width }

    pub image_field : world (record { placed = n + 1; chunks = m; start = first; width = b.staged_width + v }) (put placed_size n (words field) ps') cs'
        ≡ image ps cs (push_field s v b)
    unfolding image
    image_field =
        rw (← append_assoc (fields b.chunks) b.staged_fields (field ∷ []), length_next (placed_fields b) field, next_field (placed_fields b) field ps)

    pub image_commit : world (record { placed = n + 1; chunks = m + 1; start = n + 1; width = 0 })
        (put placed_size n (words field) ps') (put chunk_size m (chunk_words 1 first (n + 1 - first) (b.staged_width + v) 0) cs')
        ≡ image ps cs (commit (push_field s v b))
    unfolding image
    image_commit =
        let fs = b.staged_fields ++ (field ∷ []) in
        let e : n + 1 - first ≡ length fs = simp length-append (omega arith) in
        rw (
          committed b.chunks fs (b.staged_width + v),
          append-nil (fields b.chunks ++ fs),
          ← append_assoc (fields b.chunks) b.staged_fields (field ∷ []),
          length_next (placed_fields b) field,
          length_next b.chunks (bitpack fs (b.staged_width + v)),
          next_field (placed_fields b) field ps,
          next_chunk b.chunks (bitpack fs (b.staged_width + v)) (chunk_words 1 first (length fs) (b.staged_width + v) 0) cs refl,
          e,
        )

  pub image_chunk : (c : Chunk) (r : List ℕ) → fields (c ∷ []) ≡ [] → chunk_rows first (c ∷ []) ≡ r ∷ []
      → world (record { placed = n; chunks = m + 1; start = first; width = b.staged_width }) ps' (put chunk_size m r cs') ≡ image ps cs (push_chunk c b)
  unfolding image
  image_chunk c r h e =
      let g : fields (b.chunks ++ (c ∷ [])) ≡ fields b.chunks = fields_append b.chunks (c ∷ []) ∙ rw h (append-nil (fields b.chunks)) in
      rw (g, length_next b.chunks c, next_chunk b.chunks c r cs e)
