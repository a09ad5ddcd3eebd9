-- Worked examples of the aligner: refusals 10 to 13, 16 and 18 and which of two comes first, and what accepted calls leave. There are
-- three placed rows and two chunk rows.
use Rattle.std.specs.Prelude.{ℕ, refl, List, [], ◌∷◌, ◌++◌, map}
use Rattle.meaning.specs.Alignment.{World, world, sound, due, Call, add_bitfield, add_bytes, add_dyn_bytes, align, call, calls, numbers, end_chunks}
use Rattle.meaning.specs.Everything.{everything}
use Rattle.meaning.specs.Papers.{blank_placed, blank_chunks, desk}
use Rattle.meaning.specs.Examples.{Hold, ◌is◌, ◌are◌}
use Rattle.meaning.specs.Examples.Choices.{bit}

-- a state over empty tables: placed, chunks, start, width
abbrev state : ℕ → ℕ → ℕ → ℕ → World
state p c s w = world (record { placed = p; chunks = c; start = s; width = w }) blank_placed blank_chunks

abbrev told : World → List ℕ
told w = w.st.placed ∷ w.st.chunks ∷ w.st.start ∷ w.st.width ∷ w.ps ++ w.cs

-- what each of some calls answers, each on the same state
abbrev answers : World → List Call → List ℕ
answers w ks = map (λ k. (call k w).number) ks

-- ---- 18: both sides of each border
pub contradictions : Hold (
    (sound (state 1 0 0 63) is 0) ∷ (sound (state 1 0 0 64) is 18)
    ∷ (sound (state 1 0 1 0) is 0) ∷ (sound (state 1 0 2 0) is 18)
    ∷ (sound (state 3 0 3 0) is 0) ∷ (sound (state 4 0 4 0) is 18)
    ∷ (sound (state 0 2 0 0) is 0) ∷ (sound (state 0 3 0 0) is 18)
    ∷ (sound (state 1 0 0 1) is 0) ∷ (sound (state 1 0 1 1) is 18) ∷ (sound (state 0 0 0 1) is 18)
    ∷ (sound (state 1 0 0 0) is 0)
    -- before all else, whatever the call
    ∷ (answers (state 4 3 0 64) (add_bitfield 0 65 ∷ add_bytes 0 9 ∷ add_dyn_bytes 0 ∷ align ∷ []) are 18 ∷ 18 ∷ 18 ∷ 18 ∷ [])
    ∷ (told (call (add_bitfield 0 1) (state 4 0 4 0)).left are told (state 4 0 4 0))
    ∷ [])
unfolding everything
contradictions = refl

-- ---- bits: 12, then 13 for a placed row, then 13 for a chunk row that is due
pub bits : Hold (
    (bit (due 0) is 0) ∷ (bit (due 7) is 0) ∷ (bit (due 8) is 1) ∷ (bit (due 9) is 0) ∷ (bit (due 64) is 1)
    ∷ (answers desk (add_bitfield 0 0 ∷ add_bitfield 0 64 ∷ add_bitfield 0 65 ∷ []) are 0 ∷ 0 ∷ 12 ∷ [])
    ∷ (answers (state 1 0 0 63) (add_bitfield 0 1 ∷ add_bitfield 0 2 ∷ add_bitfield 0 18446744073709551615 ∷ []) are 0 ∷ 12 ∷ 12 ∷ [])
    ∷ (answers (state 3 0 3 0) (add_bitfield 0 1 ∷ add_bitfield 0 8 ∷ add_bitfield 0 65 ∷ []) are 13 ∷ 13 ∷ 12 ∷ [])
    ∷ (answers (state 2 0 2 0) (add_bitfield 0 1 ∷ []) are 0 ∷ [])
    ∷ (answers (state 0 2 0 0) (add_bitfield 0 7 ∷ add_bitfield 0 8 ∷ add_bitfield 0 72 ∷ []) are 0 ∷ 13 ∷ 12 ∷ [])
    ∷ (answers (state 0 1 0 0) (add_bitfield 0 8 ∷ []) are 0 ∷ [])
    ∷ [])
unfolding everything
bits = refl

-- ---- bytes: 10, 11, 12, 13; dynamic bytes: 10, 13; the end: 16
pub bytes_and_end : Hold (
    (answers desk (add_bytes 0 0 ∷ add_bytes 0 64 ∷ add_bytes 0 72 ∷ add_bytes 0 65 ∷ add_bytes 0 7 ∷ []) are 0 ∷ 0 ∷ 12 ∷ 11 ∷ 11 ∷ [])
    ∷ (answers (state 1 0 0 0) (add_bytes 0 8 ∷ add_bytes 0 9 ∷ add_bytes 0 72 ∷ add_dyn_bytes 0 ∷ align ∷ []) are 10 ∷ 10 ∷ 10 ∷ 10 ∷ 16 ∷ [])
    ∷ (answers (state 1 2 0 1) (add_bytes 0 8 ∷ add_dyn_bytes 0 ∷ align ∷ []) are 10 ∷ 10 ∷ 16 ∷ [])
    ∷ (answers (state 1 2 1 0) (add_bytes 0 8 ∷ add_bytes 0 9 ∷ add_bytes 0 72 ∷ add_dyn_bytes 0 ∷ align ∷ []) are 13 ∷ 11 ∷ 12 ∷ 13 ∷ 0 ∷ [])
    ∷ (answers (state 1 1 1 0) (add_bytes 0 8 ∷ add_dyn_bytes 0 ∷ align ∷ []) are 0 ∷ 0 ∷ 0 ∷ [])
    -- the end's chunk count: 0 where it is refused with 16 or 18
    ∷ (end_chunks (state 1 2 1 0) is 2) ∷ (end_chunks (state 1 1 1 0) is 1) ∷ (end_chunks (state 1 2 0 1) is 0) ∷ (end_chunks (state 1 2 2 0) is 0)
    ∷ [])
unfolding everything
bytes_and_end = refl

-- ---- what is left: placed rows have symbol, width and offset; chunk rows kind, first placed row, count, width and symbol
pub left_by_calls : Hold (
    (told (calls (add_bitfield 7 3 ∷ []) desk) are
    1 ∷ 0 ∷ 0 ∷ 3 ∷ 7 ∷ 3 ∷ 0 ∷ 0 ∷ 0 ∷ 0 ∷ 0 ∷ 0 ∷ 0 ∷ 0 ∷ 0 ∷ 0 ∷ 0 ∷ 0 ∷ 0 ∷ 0 ∷ 0 ∷ 0 ∷ 0 ∷ [])
    ∷ (told (calls (add_bitfield 7 8 ∷ add_bitfield 8 3 ∷ add_bitfield 9 13 ∷ []) desk) are
    3 ∷ 2 ∷ 3 ∷ 0 ∷ 7 ∷ 8 ∷ 0 ∷ 8 ∷ 3 ∷ 0 ∷ 9 ∷ 13 ∷ 3 ∷ 1 ∷ 0 ∷ 1 ∷ 8 ∷ 0 ∷ 1 ∷ 1 ∷ 2 ∷ 16 ∷ 0 ∷ [])
    ∷ (told (calls (add_bitfield 7 8 ∷ add_bytes 8 16 ∷ []) desk) are
    1 ∷ 2 ∷ 1 ∷ 0 ∷ 7 ∷ 8 ∷ 0 ∷ 0 ∷ 0 ∷ 0 ∷ 0 ∷ 0 ∷ 0 ∷ 1 ∷ 0 ∷ 1 ∷ 8 ∷ 0 ∷ 2 ∷ 0 ∷ 0 ∷ 16 ∷ 8 ∷ [])
    ∷ (told (calls (add_dyn_bytes 7 ∷ align ∷ []) desk) are
    0 ∷ 1 ∷ 0 ∷ 0 ∷ 0 ∷ 0 ∷ 0 ∷ 0 ∷ 0 ∷ 0 ∷ 0 ∷ 0 ∷ 0 ∷ 3 ∷ 0 ∷ 0 ∷ 0 ∷ 7 ∷ 0 ∷ 0 ∷ 0 ∷ 0 ∷ 0 ∷ [])
    -- a refused call leaves all as it came, and the next one goes on from there
    ∷ (numbers (add_bitfield 7 3 ∷ add_dyn_bytes 8 ∷ align ∷ add_bitfield 9 5 ∷ align ∷ []) desk are 0 ∷ 10 ∷ 16 ∷ 0 ∷ 0 ∷ [])
    ∷ (told (calls (add_bitfield 7 3 ∷ add_dyn_bytes 8 ∷ add_bytes 8 8 ∷ align ∷ add_bitfield 9 65 ∷ []) desk) are told (calls (add_bitfield 7 3 ∷ []) desk))
    ∷ [])
unfolding everything
left_by_calls = refl
