-- Worked examples of moving: an old source, to which the text with a row of every kind is added. The rows of that text, as they stand
-- behind the old source, and those behind it in the old source's middle, are written out.
use Rattle.std.specs.Prelude.{ℕ, ◌≡◌, refl, List, [], ◌∷◌, ◌++◌, length, drop}
use Prim.Native.String.{String}
use Rattle.std.proofs.Common.{inl, inr}
use Rattle.meaning.specs.Quoted.{bytes}
use Rattle.meaning.specs.Rules.{Rule}
use Rattle.meaning.specs.Forest.{Forest, eval, forest}
use Rattle.meaning.specs.Pdl.{file}
use Rattle.meaning.specs.Places.{place_at}
use Rattle.meaning.specs.Tables.{Table, Item, rows_of, count}
use Rattle.meaning.specs.Walk.{part}
use Rattle.meaning.specs.Reading.{Reading, refused, accepted, reading}
use Rattle.meaning.specs.Moving.{Move, moved_row, moved_rows, breaks, appended, Ends, inserted}
use Rattle.meaning.specs.Everything.{everything}
use Rattle.meaning.specs.Papers.{lines}
use Rattle.meaning.specs.Examples.Readings.{keyword, all_kinds, written}

-- the old source up to its first declaration's end, and the rest, whose comment no newline closes
abbrev before_cut : List ℕ
before_cut = bytes "big_endian_packets\npacket O (x = 1, y = A) {\n"
    ++ bytes "  z: 8 if x = 1, w: 8 }"

abbrev behind_cut : List ℕ
behind_cut = bytes " enum N : 8 { X = 1 } // end"

abbrev old : List ℕ
old = before_cut ++ behind_cut

abbrev items : List ℕ → List Item
items s = go (reading s)
  where
    go : Reading → List Item
    go (refused n p r) = []
    go (accepted e xs) = xs

abbrev counts : List ℕ → Table → ℕ
counts s t = count t (items s)

-- a table, by the letter of its lines
pub data Letter : Type 0 where
  ◌of◌ : String → Table → Letter

infix 30 ◌of◌
-- the lines of all rows but the first so many of each table, moved
abbrev moved_lines : Move → (Table → ℕ) → List Item → List ℕ
moved_lines m skipped xs =
    go (("D" of Table.declarations) ∷ ("F" of Table.fields) ∷ ("T" of Table.tags) ∷ ("C" of Table.constraints) ∷ ("M" of Table.comments) ∷ [])
  where
    go : List Letter → List ℕ
    go [] = []
    go ((s of t) ∷ ls) = lines s (moved_rows m t (drop (skipped t) (rows_of t xs))) ++ go ls

-- ---- appended to the old source, which has 96 bytes, 2 LFs, and 2, 2, 1, 3 and 1 rows: 'a first of 0 with a count above 0
-- grows like any other' is the first row, an empty function text the fifth
pub all_appended : moved_lines (appended old keyword (counts old)) (λ t. 0) (items (keyword ++ all_kinds)) ≡ written (
    "D 1 106 4 4 154 4 52 111 1 0 0 1 8 1 4 0 0"
    ∷ "D 2 155 5 0 329 6 80 162 1 166 1 0 0 2 9 3 2"
    ∷ "D 3 330 7 0 390 7 60 337 1 0 0 0 0 11 4 0 0"
    ∷ "D 4 391 8 0 417 8 26 397 1 0 0 0 0 15 2 0 0"
    ∷ "D 5 423 9 0 440 9 17 432 1 439 0 1 8 0 0 0 0"
    ∷ "D 6 441 9 18 463 9 40 454 1 461 1 1 8 0 0 0 0"
    ∷ "F 12 185 5 30 198 5 43 185 1 0 0 0 0 1 8 0 0 0 0 6"
    ∷ "F 1 200 5 45 219 5 64 217 1 0 0 0 0 0 0 0 0 0 0 0"
    ∷ "F 2 221 5 66 233 5 78 0 0 0 0 0 0 1 1 0 0 0 0 0"
    ∷ "F 3 235 5 80 247 5 92 242 1 0 0 0 0 1 8 0 0 0 0 0"
    ∷ "F 4 251 6 2 264 6 15 259 1 0 0 0 0 1 8 0 0 0 0 0"
    ∷ "F 5 266 6 17 285 6 36 280 1 0 0 0 0 1 8 0 0 0 0 0"
    ∷ "F 6 287 6 38 293 6 44 0 0 0 0 0 0 0 0 0 0 0 0 0"
    ∷ "F 8 295 6 46 310 6 61 0 0 0 0 0 0 1 8 1 1 0 0 0"
    ∷ "F 9 312 6 63 328 6 79 326 1 322 1 0 0 0 0 0 0 0 0 0"
    ∷ "F 7 341 7 11 357 7 27 0 0 0 0 354 2 0 0 0 0 0 0 0"
    ∷ "F 10 359 7 29 373 7 43 0 0 0 0 0 0 1 8 0 0 0 0 0"
    ∷ "F 11 375 7 45 382 7 52 375 1 0 0 0 0 1 8 1 4 0 0 0"
    ∷ "F 13 384 7 54 389 7 59 384 1 387 1 0 0 0 0 0 0 0 0 0"
    ∷ "F 14 401 8 10 412 8 21 401 1 0 0 0 0 0 0 0 0 6 1 0"
    ∷ "F 14 414 8 23 416 8 25 414 1 0 0 0 0 0 0 0 0 0 0 0"
    ∷ "T 1 119 4 17 124 4 22 119 1 1 0 0"
    ∷ "T 2 126 4 24 144 4 42 126 1 2 4 1"
    ∷ "T 4 137 4 35 142 4 40 137 1 3 0 0"
    ∷ "T 3 146 4 44 152 4 50 146 1 0 0 0"
    ∷ "C 1 169 5 14 174 5 19 169 1 0 0 1"
    ∷ "C 2 176 5 21 181 5 26 176 1 180 1 0"
    ∷ "C 1 193 5 38 198 5 43 193 1 0 0 1"
    ∷ "C 1 405 8 14 410 8 19 405 1 0 0 1"
    ∷ "M 1 97 3 0 105 4 3"
    ∷ "M 2 418 8 27 422 8 31" ∷ [])
unfolding everything breaks moved_row moved_rows
all_appended = refl

-- ---- the cut stands behind a declaration; a test declaration's end is one too
abbrev file_nodes : List ℕ → Forest
file_nodes s = (part Rule.file (forest (eval file 0 s))).kids

pub cut_there : Ends (length before_cut) (file_nodes old)
unfolding everything
cut_there = inr (inl (refl, refl))

pub cut_behind_test : Ends (length (keyword ++ all_kinds)) (file_nodes (keyword ++ all_kinds))
unfolding everything
cut_behind_test = inr (inr (inr (inr (inr (inr (inr (inr (inr (inl (refl, refl))))))))))

-- ---- inserted at the cut: what stood behind it, on its line, in column 23 and later
pub all_inserted : moved_lines (inserted (place_at old (length before_cut)) all_kinds (counts (keyword ++ all_kinds))) (counts before_cut) (items old)
    ≡ written (
    "D 1 453 10 1 473 10 21 458 1 0 0 1 8 4 1 0 0"
    ∷ "T 1 466 10 14 471 10 19 466 1 1 0 0"
    ∷ "M 2 474 10 22 480 10 28" ∷ [])
unfolding everything breaks moved_row moved_rows
all_inserted = refl
