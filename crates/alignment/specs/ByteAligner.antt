-- The Rust's `ByteAligner`, as it stands in alignment.rs, but for a sum that never wraps. A panic, or the `Err` of `align`, is an outcome.
use Rattle.std.specs.Prelude.{ℕ, ◌+◌, ◌%◌, List, [], ◌∷◌, ◌++◌, Bool, true, false, not, ltb, eqb}
use Rattle.meaning.specs.Choice.{pick, both}
use Rattle.meaning.specs.Alignment.{Call}

-- a field that may not be byte aligned: its symbol, its width, where it starts in its chunk
pub record Field : Type 0 where
  pub symbol : ℕ
  pub width : ℕ
  pub offset : ℕ

-- a byte-aligned group of fields with its width; bytes of a known width; bytes of an unknown width
pub data Chunk : Type 0 where
  bitpack : List Field → ℕ → Chunk
  bytes : ℕ → ℕ → Chunk
  dyn_bytes : ℕ → Chunk

pub record ByteAligner : Type 0 where
  pub staged_fields : List Field
  pub staged_width : ℕ
  pub chunks : List Chunk

-- where it stops, in the order of its texts
pub data Panic : Type 0 where
  -- total field width grew beyond max chunk width
  total_too_wide : Panic
  -- sized bytes must start at a byte boundary
  bytes_unaligned : Panic
  -- width must be byte-divisible
  not_divisible : Panic
  -- width can't be larger than max chunk width
  bytes_too_wide : Panic
  -- dynamic bytes must start at a byte boundary
  dyn_unaligned : Panic
  -- provided fields could not be byte aligned
  not_aligned : Panic

pub data Outcome : Type 0 where
  done : ByteAligner → Outcome
  panic : Panic → Outcome

abbrev pub max_chunk_width : ℕ
max_chunk_width = 64

abbrev pub new : ByteAligner
new = record { staged_fields = []; staged_width = 0; chunks = [] }

abbrev pub is_empty : List Field → Bool
is_empty [] = true
is_empty (f ∷ fs) = false

abbrev pub is_aligned : ByteAligner → Bool
is_aligned b = is_empty b.staged_fields

abbrev pub is_multiple_of_8 : ℕ → Bool
is_multiple_of_8 n = eqb (n % 8) 0

abbrev pub push_field : ℕ → ℕ → ByteAligner → ByteAligner
push_field symbol width b =
    record {
      staged_fields = b.staged_fields ++ (record { symbol = symbol; width = width; offset = b.staged_width } ∷ []);
      staged_width = b.staged_width + width;
      chunks = b.chunks;
    }

abbrev pub push_chunk : Chunk → ByteAligner → ByteAligner
push_chunk c b = record { staged_fields = b.staged_fields; staged_width = b.staged_width; chunks = b.chunks ++ (c ∷ []) }

-- the staged fields become a chunk
abbrev pub commit : ByteAligner → ByteAligner
commit b = record { staged_fields = []; staged_width = 0; chunks = b.chunks ++ (bitpack b.staged_fields b.staged_width ∷ []) }

abbrev pub try_commit_staged_chunk : ByteAligner → ByteAligner
try_commit_staged_chunk b = pick (both (not (eqb b.staged_width 0)) (is_multiple_of_8 b.staged_width)) (commit b) b

abbrev pub add_bitfield : ℕ → ℕ → ByteAligner → Outcome
add_bitfield symbol width b =
    let c = push_field symbol width b in
    pick (ltb max_chunk_width c.staged_width) (panic total_too_wide) (done (try_commit_staged_chunk c))

abbrev pub add_bytes : ℕ → ℕ → ByteAligner → Outcome
add_bytes symbol width b =
    pick (not (is_aligned b)) (panic bytes_unaligned)
    (pick (not (is_multiple_of_8 width)) (panic not_divisible)
    (pick (ltb max_chunk_width width) (panic bytes_too_wide) (done (push_chunk (bytes symbol width) b))))

abbrev pub add_dyn_bytes : ℕ → ByteAligner → Outcome
add_dyn_bytes symbol b = pick (not (is_aligned b)) (panic dyn_unaligned) (done (push_chunk (dyn_bytes symbol) b))

-- it hands back the chunks; the aligner stands for them
abbrev pub align : ByteAligner → Outcome
align b = pick (is_aligned b) (done b) (panic not_aligned)

unfoldable pub perform : Call → ByteAligner → Outcome
perform (Call.add_bitfield s v) b = add_bitfield s v b
perform (Call.add_bytes s v) b = add_bytes s v b
perform (Call.add_dyn_bytes s) b = add_dyn_bytes s b
perform Call.align b = align b
