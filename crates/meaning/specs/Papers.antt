-- P1 to P12 of 01, and one reading for the order of bad integers: one table, one statement.
use Rattle.std.specs.Prelude.{ℕ, zero, suc, ◌+◌, ◌*◌, ◌/◌, ◌%◌, ◌≡◌, refl, List, [], ◌∷◌, ◌++◌, map, replicate, ltb}
use Prim.Native.String.{String}
use Rattle.meaning.specs.Choice.{pick}
use Rattle.meaning.specs.Quoted.{bytes}
use Rattle.meaning.specs.Convert.{convert, reason_of, value_of}
use Rattle.meaning.specs.Tables.{Table, rows_of, flat}
use Rattle.meaning.specs.Rows.{placed_size, chunk_size}
use Rattle.meaning.specs.Reading.{Reading, refused, accepted, reading}
use Rattle.meaning.specs.Alignment.{Call, add_bitfield, align, calls, numbers, World, world, fresh}
use Rattle.meaning.specs.Feeding.{Layout, layout}
use Rattle.meaning.specs.Everything.{everything}

-- ---- what 01's program writes
abbrev pub decimal_for : ℕ → ℕ → List ℕ → List ℕ
decimal_for zero n ws = ws
decimal_for (suc k) n ws = pick (ltb n 10) ((48 + n) ∷ ws) (decimal_for k (n / 10) ((48 + n % 10) ∷ ws))

abbrev pub spaced : List ℕ → List ℕ
spaced [] = 10 ∷ []
spaced (w ∷ ws) = 32 ∷ decimal_for 20 w [] ++ spaced ws

-- a letter, then numbers parted by one space, ended by LF
abbrev pub lines : String → List (List ℕ) → List ℕ
lines s [] = []
lines s (r ∷ rs) = bytes s ++ spaced r ++ lines s rs

abbrev pub printed : Reading → List ℕ
printed (refused n p r) = lines "R" ((n ∷ p ∷ r ∷ []) ∷ [])
printed (accepted e xs) =
    lines "E" (e ∷ [])
    ++ lines "D" (rows_of Table.declarations xs)
    ++ lines "F" (rows_of Table.fields xs)
    ++ lines "T" (rows_of Table.tags xs)
    ++ lines "C" (rows_of Table.constraints xs)
    ++ lines "M" (rows_of Table.comments xs)

-- ---- cases, each with what is wanted of it
pub data Case : Type 0 where
  -- a source, and the lines that the program writes
  reads : String → String → Case
  -- a text, and the converter's reason and value
  converts : String → ℕ → ℕ → Case
  -- calls on a fresh state over three placed rows and two chunk rows; their numbers, and the chunk rows
  aligns : List Call → List ℕ → List ℕ → Case
  -- a source whose first declaration is laid out over the same; number, place, counts, placed rows, chunk rows
  lays : String → List ℕ → Case

abbrev pub blank_placed : List ℕ
blank_placed = replicate (3 * placed_size) 0

abbrev pub blank_chunks : List ℕ
blank_chunks = replicate (2 * chunk_size) 0

abbrev pub desk : World
desk = world fresh blank_placed blank_chunks

abbrev pub shown : Layout → List ℕ
shown x = x.number ∷ x.place ∷ x.placed ∷ x.chunks ∷ x.ps ++ x.cs

abbrev pub laid_out : Reading → List ℕ
laid_out (refused n p r) = n ∷ []
laid_out (accepted e xs) = shown (layout (flat (rows_of Table.declarations xs)) (flat (rows_of Table.fields xs)) 0 blank_placed blank_chunks)

abbrev pub got : Case → List ℕ
got (reads s w) = printed (reading (bytes s))
got (converts s r v) = reason_of (convert (bytes s)) ∷ value_of (convert (bytes s)) ∷ []
got (aligns ks ns w) = numbers ks desk ++ (calls ks desk).cs
got (lays s w) = laid_out (reading (bytes s))

abbrev pub want : Case → List ℕ
want (reads s w) = bytes w
want (converts s r v) = r ∷ v ∷ []
want (aligns ks ns w) = ns ++ w
want (lays s w) = w

abbrev pub p3_source : String
p3_source = "little_endian_packets\npacket A {x: 3 , y: 5}"

abbrev pub cases : List Case
cases =
    -- P1
    reads "" "R 3 0 0\n"
    -- P2
    ∷ reads "little_endian_packets" "R 3 0 0\n"
    ∷ reads "little_endian_packets\n" "E 1 0 0 0 22 1 0\n"
    -- P3
    ∷ reads p3_source
    "E 1 0 0 0 22 1 0\nD 2 22 1 0 44 1 22 29 1 0 0 0 0 0 2 0 0\nF 12 32 1 10 37 1 15 32 1 0 0 0 0 1 3 0 0 0 0 0\nF 12 39 1 17 43 1 21 39 1 0 0 0 0 1 5 0 0 0 0 0\n"
    ∷ lays p3_source (0 ∷ 0 ∷ 2 ∷ 1 ∷ 0 ∷ 3 ∷ 0 ∷ 1 ∷ 5 ∷ 3 ∷ 0 ∷ 0 ∷ 0 ∷ 1 ∷ 0 ∷ 2 ∷ 8 ∷ 0 ∷ 0 ∷ 0 ∷ 0 ∷ 0 ∷ 0 ∷ [])
    -- P4
    ∷ reads "big_endian_packets\nenum E : 8 { A = 0x }" "R 3 19 0\n"
    -- P5
    ∷ reads "big_endian_packets\nenum E : 0X10 { A = 1 }" "R 4 28 2\n"
    -- P6
    ∷ reads "big_endian_packets\nenum E : 18446744073709551615 { A = 1 }"
    "E 2 0 0 0 19 1 0\nD 1 19 1 0 58 1 39 24 1 0 0 1 18446744073709551615 0 1 0 0\nT 1 51 1 32 56 1 37 51 1 1 0 0\n"
    ∷ reads "big_endian_packets\nenum E : 18446744073709551616 { A = 1 }" "R 4 28 3\n"
    -- P7
    ∷ reads "big_endian_packets\npacket/**/A {}" "R 3 19 0\n"
    -- P8
    ∷ reads "big_endian_packets\npacket A {x: 8ifb=1}"
    "E 2 0 0 0 19 1 0\nD 2 19 1 0 39 1 20 26 1 0 0 0 0 0 1 0 0\nF 12 29 1 10 38 1 19 29 1 0 0 0 0 1 8 0 0 0 0 1\nC 1 35 1 16 38 1 19 35 1 0 0 1\n"
    -- P9
    ∷ reads "big_endian_packets\npacket A {_payload_: [+ 2]}" "R 3 19 0\n"
    -- P10
    ∷ converts "+5" 0 5
    ∷ converts "0x" 1 0
    ∷ converts "" 1 0
    -- P11
    ∷ aligns (add_bitfield 1 60 ∷ add_bitfield 2 4 ∷ []) (0 ∷ 0 ∷ []) (1 ∷ 0 ∷ 2 ∷ 64 ∷ 0 ∷ 0 ∷ 0 ∷ 0 ∷ 0 ∷ 0 ∷ [])
    ∷ aligns (add_bitfield 1 60 ∷ add_bitfield 2 5 ∷ []) (0 ∷ 12 ∷ []) blank_chunks
    -- P12
    ∷ aligns (add_bitfield 1 0 ∷ align ∷ []) (0 ∷ 16 ∷ []) blank_chunks
    -- a field's condition is walked before its description
    ∷ reads "big_endian_packets\npacket A {x: 0X1 if b = 0X2}" "R 4 43 2\n"
    ∷ []

pub papers : map got cases ≡ map want cases
unfolding everything
papers = refl
