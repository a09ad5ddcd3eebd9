-- A table of chunk records, and the words that it stands for (`flat`): a call over records is the meaning's call over these words.
-- What it does to the records themselves (`call_to`) is a step of the proof; `same_words` (SameRecords) shows that it is the same.
use Rattle.std.specs.Prelude.{ℕ, ◌+◌, ◌-◌, List, [], ◌∷◌, ◌++◌, set, eqb}
use Rattle.meaning.specs.declared.Aligner.{Aligner}
use Rattle.meaning.specs.Choice.{pick}
use Rattle.meaning.specs.Tables.{put}
use Rattle.meaning.specs.Rows.{placed_size, chunk_words, placed_words}
use Rattle.meaning.specs.Alignment.{World, world, due, bits_number, bytes_number, dyn_number, end_number, Call, add_bitfield, add_bytes, add_dyn_bytes, align}
use Rattle.byte_aligner.specs.declared.Chunk.{Chunk}

-- a record's row, and the words of records
abbrev pub row : Chunk → List ℕ
row c = chunk_words c.kind c.first c.count c.width c.symbol

unfoldable pub flat : List Chunk → List ℕ
flat [] = []
flat (c ∷ cs) = row c ++ flat cs

-- the state with the placed words and the records
pub record RecordWorld : Type 0 where
  pub st : Aligner
  pub ps : List ℕ
  pub rs : List Chunk

abbrev pub record_world : Aligner → List ℕ → List Chunk → RecordWorld
record_world a ps rs = record { st = a; ps = ps; rs = rs }

abbrev pub words : RecordWorld → World
words h = world h.st h.ps (flat h.rs)

unfoldable pub bits_to : ℕ → ℕ → RecordWorld → RecordWorld
bits_to symbol width h =
    let a = h.st in
    let total = a.width + width in
    let ps = put placed_size a.placed (placed_words symbol width a.width) h.ps in
    pick (due total)
    (record_world (record { placed = a.placed + 1; chunks = a.chunks + 1; start = a.placed + 1; width = 0 }) ps
    (set h.rs a.chunks (record { kind = 1; first = a.start; count = a.placed + 1 - a.start; width = total; symbol = 0 })))
    (record_world (record { placed = a.placed + 1; chunks = a.chunks; start = a.start; width = total }) ps h.rs)

unfoldable pub chunk_to : ℕ → ℕ → ℕ → RecordWorld → RecordWorld
chunk_to kind symbol width h =
    let a = h.st in
    record_world (record { placed = a.placed; chunks = a.chunks + 1; start = a.start; width = a.width }) h.ps
    (set h.rs a.chunks (record { kind = kind; first = 0; count = 0; width = width; symbol = symbol }))

-- ---- what a call does to the records: it judges as over their words, and stores one record for a chunk row
-- what it answers and leaves; a refused one leaves all as it came
pub record Recorded : Type 0 where
  pub number : ℕ
  pub left : RecordWorld

abbrev pub recorded : ℕ → Aligner → List ℕ → List Chunk → Recorded
recorded n a ps rs = record { number = n; left = record_world a ps rs }

abbrev pub settled_to : ℕ → RecordWorld → RecordWorld → Recorded
settled_to n done same = record { number = n; left = pick (eqb n 0) done same }

unfoldable pub call_to : Call → RecordWorld → Recorded
call_to (add_bitfield s n) h = settled_to (bits_number n (words h)) (bits_to s n h) h
call_to (add_bytes s n) h = settled_to (bytes_number n (words h)) (chunk_to 2 s n h) h
call_to (add_dyn_bytes s) h = settled_to (dyn_number (words h)) (chunk_to 3 s 0 h) h
call_to align h = settled_to (end_number (words h)) h h
