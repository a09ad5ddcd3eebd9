-- The aligner (01, 'Aligner'): a state, a table of placed rows and one of chunk rows.
use Rattle.std.specs.Prelude.{ℕ, ◌+◌, ◌-◌, ◌%◌, List, [], ◌∷◌, Bool, not, ltb, leb, eqb}
use Rattle.meaning.specs.declared.Aligner.{Aligner}
use Rattle.meaning.specs.Choice.{pick, both}
use Rattle.meaning.specs.Tables.{put, room}
use Rattle.meaning.specs.Rows.{placed_size, placed_words, chunk_size, chunk_words}

abbrev pub max_chunk_width : ℕ
max_chunk_width = 64

abbrev pub fresh : Aligner
fresh = record { placed = 0; chunks = 0; start = 0; width = 0 }

-- the state with the words of both tables
pub record World : Type 0 where
  pub st : Aligner
  pub ps : List ℕ
  pub cs : List ℕ

abbrev pub world : Aligner → List ℕ → List ℕ → World
world a ps cs = record { st = a; ps = ps; cs = cs }

-- fields are staged, zero-width ones too
abbrev pub staged : Aligner → Bool
staged a = ltb a.start a.placed

-- a list of tests with their numbers: the first that holds decides, 0 if none does
pub data Check : Type 0 where
  ◌⇒◌ : Bool → ℕ → Check

infix 30 ◌⇒◌
abbrev pub first : List Check → ℕ
first [] = 0
first ((b ⇒ n) ∷ cs) = pick b n (first cs)

-- 18, before all else: staged width over 63, staged start above the placed count, a count above its table's rows, width with
-- nothing staged
unfoldable pub sound : World → ℕ
sound w =
    first
    ((ltb 63 w.st.width ⇒ 18)
    ∷ (ltb w.st.placed w.st.start ⇒ 18)
    ∷ (ltb (room placed_size w.ps) w.st.placed ⇒ 18)
    ∷ (ltb (room chunk_size w.cs) w.st.chunks ⇒ 18)
    ∷ (both (not (staged w.st)) (ltb 0 w.st.width) ⇒ 18)
    ∷ [])

-- a total that is nonzero and a multiple of 8 becomes one chunk
unfoldable pub due : ℕ → Bool
due total = both (ltb 0 total) (eqb (total % 8) 0)

abbrev pub no_placed : World → Bool
no_placed w = leb (room placed_size w.ps) w.st.placed

abbrev pub no_chunk : World → Bool
no_chunk w = leb (room chunk_size w.cs) w.st.chunks

unfoldable pub bits_number : ℕ → World → ℕ
bits_number width w =
    let total = w.st.width + width in
    first
    ((ltb 0 (sound w) ⇒ 18)
    ∷ (ltb max_chunk_width total ⇒ 12)
    ∷ (no_placed w ⇒ 13)
    ∷ (both (due total) (no_chunk w) ⇒ 13)
    ∷ [])

unfoldable pub bytes_number : ℕ → World → ℕ
bytes_number width w =
    first
    ((ltb 0 (sound w) ⇒ 18)
    ∷ (staged w.st ⇒ 10)
    ∷ (ltb 0 (width % 8) ⇒ 11)
    ∷ (ltb max_chunk_width width ⇒ 12)
    ∷ (no_chunk w ⇒ 13)
    ∷ [])

unfoldable pub dyn_number : World → ℕ
dyn_number w = first ((ltb 0 (sound w) ⇒ 18) ∷ (staged w.st ⇒ 10) ∷ (no_chunk w ⇒ 13) ∷ [])

unfoldable pub end_number : World → ℕ
end_number w = first ((ltb 0 (sound w) ⇒ 18) ∷ (staged w.st ⇒ 16) ∷ [])

-- beside its number the end answers the chunk count, 0 when refused
abbrev pub end_chunks : World → ℕ
end_chunks w = pick (eqb (end_number w) 0) w.st.chunks 0

-- chunk kinds: bits 1, bytes 2, dynamic 3
unfoldable pub bits_done : ℕ → ℕ → World → World
bits_done symbol width w =
    let a = w.st in
    let total = a.width + width in
    let ps = put placed_size a.placed (placed_words symbol width a.width) w.ps in
    pick (due total)
    (world (record { placed = a.placed + 1; chunks = a.chunks + 1; start = a.placed + 1; width = 0 }) ps
    (put chunk_size a.chunks (chunk_words 1 a.start (a.placed + 1 - a.start) total 0) w.cs))
    (world (record { placed = a.placed + 1; chunks = a.chunks; start = a.start; width = total }) ps w.cs)

unfoldable pub chunk_done : ℕ → ℕ → ℕ → World → World
chunk_done kind symbol width w =
    let a = w.st in
    world (record { placed = a.placed; chunks = a.chunks + 1; start = a.start; width = a.width }) w.ps
    (put chunk_size a.chunks (chunk_words kind 0 0 width symbol) w.cs)

-- ---- calls: what each answers and leaves; a refused one leaves all as it came
pub record Called : Type 0 where
  pub number : ℕ
  pub left : World

abbrev pub settled : ℕ → World → World → Called
settled n done same = record { number = n; left = pick (eqb n 0) done same }

pub data Call : Type 0 where
  add_bitfield : ℕ → ℕ → Call
  add_bytes : ℕ → ℕ → Call
  add_dyn_bytes : ℕ → Call
  align : Call

unfoldable pub call : Call → World → Called
call (add_bitfield s n) w = settled (bits_number n w) (bits_done s n w) w
call (add_bytes s n) w = settled (bytes_number n w) (chunk_done 2 s n w) w
call (add_dyn_bytes s) w = settled (dyn_number w) (chunk_done 3 s 0 w) w
call align w = settled (end_number w) w w

unfoldable pub calls : List Call → World → World
calls [] w = w
calls (k ∷ ks) w = calls ks (call k w).left

unfoldable pub numbers : List Call → World → List ℕ
numbers [] w = []
numbers (k ∷ ks) w = (call k w).number ∷ numbers ks (call k w).left
