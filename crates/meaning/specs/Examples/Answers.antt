-- Worked examples of answers: refusals 1 to 5 and which of two comes first, what is left in the lent tables, and the rows found there.
use Rattle.std.specs.Prelude.{ℕ, ◌≡◌, refl, List, [], ◌∷◌, ◌++◌, map, length, replicate}
use Rattle.meaning.specs.Quoted.{bytes}
use Rattle.meaning.specs.Tables.{Table, Lent, put}
use Rattle.meaning.specs.Reading.{Reading, refused, reading, Outcome, settle, answer, rows_left}
use Rattle.meaning.specs.Utf8.{character, valid_for}
use Rattle.meaning.specs.Everything.{everything}
use Rattle.meaning.specs.Examples.Readings.{keyword}
use Rattle.meaning.specs.Examples.{Hold, ◌are◌}

-- tables of so many words, all of them 9
abbrev nines : ℕ → ℕ → ℕ → ℕ → ℕ → Lent
nines d f t c m = record { w1 = replicate d 9; w2 = replicate f 9; w3 = replicate t 9; w4 = replicate c 9; w5 = replicate m 9 }

abbrev none : Lent
none = nines 0 0 0 0 0

abbrev answered : Outcome → List ℕ
answered o = o.answer.number ∷ o.answer.place ∷ o.answer.reason ∷ o.answer.counts ++ o.answer.endianness

abbrev left : Outcome → List ℕ
left o = o.left.w1 ++ o.left.w2 ++ o.left.w3 ++ o.left.w4 ++ o.left.w5

-- a refused reading has no count and no endianness
abbrev refusing : ℕ → ℕ → ℕ → List ℕ
refusing n p r = n ∷ p ∷ r ∷ 0 ∷ 0 ∷ 0 ∷ 0 ∷ 0 ∷ 0 ∷ 0 ∷ 0 ∷ 0 ∷ 0 ∷ 0 ∷ 0 ∷ []

-- ---- 1 before 2: any source of one byte too many; and one of as many as there may be, which is then looked at
pub too_long : (src : List ℕ) → length src ≡ 1048577 → reading src ≡ refused 1 1048576 0
unfolding reading
too_long src h = rw h

pub long_enough : (rest : List ℕ) → length rest ≡ 1048575 → reading (0xFF ∷ rest) ≡ refused 2 0 0
unfolding reading character valid_for
long_enough rest h = rw h

-- ---- 2 before 3, 3 before 4, 4 before 5
pub order_of_checks : Hold (
    (answered (answer (bytes "x" ++ 0xFF ∷ []) none) are refusing 2 1 0)
    ∷ (answered (answer (keyword ++ bytes "enum E:0X1{A=1} x") none) are refusing 3 35 0)
    ∷ (answered (answer (keyword ++ bytes "enum E:0X1{A=1}") none) are refusing 4 26 2)
    ∷ (answered (answer (keyword ++ bytes "enum E:1{A=1}") none) are refusing 5 1 1)
    ∷ (answered (answer keyword none) are 0 ∷ 0 ∷ 0 ∷ 0 ∷ 0 ∷ 0 ∷ 0 ∷ 0 ∷ 2 ∷ 0 ∷ 0 ∷ 0 ∷ 19 ∷ 1 ∷ 0 ∷ [])
    ∷ [])
unfolding everything
order_of_checks = refl

-- ---- rows in tables: two declarations, three fields, one tag, four constraints, two comments
abbrev some_rows : Reading
some_rows = reading (keyword ++ bytes "enum E:1{A=1}/**/packet P(a=1,b=2,c=3,d=4){x:1,y:2,z:3}//")

abbrev over : Reading → List Lent → List ℕ
over r [] = []
over r (l ∷ ls) = (settle r l).answer.number ∷ (settle r l).answer.place ∷ (settle r l).answer.reason ∷ over r ls

-- 5: each table with a word too few, and of two the lower one
pub rooms : Hold (
    (over some_rows (
    nines 34 60 12 48 14
    ∷ nines 33 60 12 48 14 ∷ nines 34 59 12 48 14 ∷ nines 34 60 11 48 14 ∷ nines 34 60 12 47 14 ∷ nines 34 60 12 48 13
    ∷ nines 33 59 11 47 13 ∷ nines 34 59 12 48 0 ∷ nines 34 60 0 0 14 ∷ []) are
    0 ∷ 0 ∷ 0
    ∷ 5 ∷ 1 ∷ 2 ∷ 5 ∷ 2 ∷ 3 ∷ 5 ∷ 3 ∷ 1 ∷ 5 ∷ 4 ∷ 4 ∷ 5 ∷ 5 ∷ 2
    ∷ 5 ∷ 1 ∷ 2 ∷ 5 ∷ 2 ∷ 3 ∷ 5 ∷ 3 ∷ 1 ∷ [])
    -- a refused reading leaves the tables as they came
    ∷ (answered (settle some_rows (nines 34 59 12 48 14)) are refusing 5 2 3)
    ∷ (left (settle some_rows (nines 34 59 12 48 14)) are replicate 167 9)
    ∷ (answered (settle some_rows (nines 50 60 12 48 14)) are 0 ∷ 0 ∷ 0 ∷ 2 ∷ 3 ∷ 1 ∷ 4 ∷ 2 ∷ 2 ∷ 0 ∷ 0 ∷ 0 ∷ 19 ∷ 1 ∷ 0 ∷ [])
    ∷ [])
unfolding everything
rooms = refl

-- ---- every word that is left: rows one after the other, and past them what was there
pub words_left : Hold (
    (left (answer (keyword ++ bytes "enum E:1{A=2,B=3}packet P{}//") (nines 36 1 25 0 7)) are
    1 ∷ 19 ∷ 1 ∷ 0 ∷ 36 ∷ 1 ∷ 17 ∷ 24 ∷ 1 ∷ 0 ∷ 0 ∷ 1 ∷ 1 ∷ 0 ∷ 2 ∷ 0 ∷ 0
    ∷ 2 ∷ 36 ∷ 1 ∷ 17 ∷ 46 ∷ 1 ∷ 27 ∷ 43 ∷ 1 ∷ 0 ∷ 0 ∷ 0 ∷ 0 ∷ 0 ∷ 0 ∷ 0 ∷ 0 ∷ 9 ∷ 9
    ∷ 9
    ∷ 1 ∷ 28 ∷ 1 ∷ 9 ∷ 31 ∷ 1 ∷ 12 ∷ 28 ∷ 1 ∷ 2 ∷ 0 ∷ 0
    ∷ 1 ∷ 32 ∷ 1 ∷ 13 ∷ 35 ∷ 1 ∷ 16 ∷ 32 ∷ 1 ∷ 3 ∷ 0 ∷ 0 ∷ 9
    ∷ 2 ∷ 46 ∷ 1 ∷ 27 ∷ 48 ∷ 1 ∷ 29 ∷ [])
    ∷ [])
unfolding everything
words_left = refl

-- as many rows as were counted are found again; a row that does not fit whole is not written
abbrev found : Outcome → List (List ℕ)
found o = rows_left o Table.fields ++ rows_left o Table.comments

pub rows_found : Hold (
    (map (λ ws. length ws) (found (settle some_rows (nines 34 80 12 48 21))) are 20 ∷ 20 ∷ 20 ∷ 7 ∷ 7 ∷ [])
    ∷ (put 2 1 (5 ∷ 6 ∷ []) (9 ∷ 9 ∷ 9 ∷ 9 ∷ 9 ∷ []) are 9 ∷ 9 ∷ 5 ∷ 6 ∷ 9 ∷ [])
    ∷ (put 2 1 (5 ∷ 6 ∷ []) (9 ∷ 9 ∷ 9 ∷ 9 ∷ []) are 9 ∷ 9 ∷ 5 ∷ 6 ∷ [])
    ∷ (put 2 1 (5 ∷ 6 ∷ []) (9 ∷ 9 ∷ 9 ∷ []) are 9 ∷ 9 ∷ 9 ∷ [])
    ∷ [])
unfolding everything
rows_found = refl
