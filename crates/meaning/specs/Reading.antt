-- What a source reads as, with refusals 1 to 5 in 01's order, and what the lent tables hold afterwards.
use Rattle.std.specs.Prelude.{ℕ, zero, suc, ◌+◌, ◌-◌, List, [], ◌∷◌, length, get_or, take, drop, ltb, eqb}
use Rattle.meaning.specs.Choice.{pick}
use Rattle.meaning.specs.Utf8.{valid}
use Rattle.meaning.specs.Peg.{run, hit, taken}
use Rattle.meaning.specs.Forest.{Forest, Out, missed, took, eval}
use Rattle.meaning.specs.Pdl.{file, file_start, file_line, file_head}
use Rattle.meaning.specs.Tables.{Table, number, size, Item, count, first_bad, rows_in, Lent, lent, fill, short, needed, all}
use Rattle.meaning.specs.Rows.{endianness_size}
use Rattle.meaning.specs.Walk.{items, endianness}

-- ---- the reading: refusals 1 to 4 in that order, each over the whole source; or what was read
pub data Reading : Type 0 where
  refused : ℕ → ℕ → ℕ → Reading
  accepted : List ℕ → List Item → Reading

abbrev pub longest : ℕ
longest = 1048576

-- 01's place of 3
unfoldable pub unmatched : List ℕ → ℕ
unmatched src =
    pick (hit (run file_line src)) (taken (run file_head src)) (taken (run file_start src))

unfoldable pub walked : List ℕ → Forest → Reading
walked src w =
    let bad = first_bad (items src w) in
    pick (eqb bad.reason 0) (accepted (endianness src w) (items src w)) (refused 4 bad.place bad.reason)

abbrev pub parsed : List ℕ → Out → Reading
parsed src (missed f) = refused 3 (unmatched src) 0
parsed src (took n f w) = walked src w

unfoldable pub reading : List ℕ → Reading
reading src =
    pick (ltb longest (length src)) (refused 1 longest 0)
    (pick (ltb (valid src) (length src)) (refused 2 (valid src) 0)
    (parsed src (eval file 0 src)))

-- ---- the answer, and what the lent words hold afterwards
pub record Answer : Type 0 where
  pub number : ℕ
  pub place : ℕ
  pub reason : ℕ
  pub counts : List ℕ
  pub endianness : List ℕ

pub record Outcome : Type 0 where
  pub answer : Answer
  pub left : Lent

abbrev pub zeros : ℕ → List ℕ
zeros zero = []
zeros (suc k) = 0 ∷ zeros k

-- a refused reading reports all counts, the endianness and its place as 0, and leaves the tables as they came
abbrev pub refusal : ℕ → ℕ → ℕ → Lent → Outcome
refusal n p r l = record { answer = record { number = n; place = p; reason = r; counts = zeros 5; endianness = zeros endianness_size }; left = l }

abbrev pub counted : List Table → List Item → List ℕ
counted [] xs = []
counted (t ∷ ts) xs = count t xs ∷ counted ts xs

abbrev pub stored : List ℕ → List Item → Lent → Outcome
stored e xs l = record { answer = record { number = 0; place = 0; reason = 0; counts = counted all xs; endianness = e }; left = fill xs l }

-- refusal 5 names the lowest table that is short, and the rows needed
abbrev pub settle : Reading → Lent → Outcome
settle (refused n p r) l = refusal n p r l
settle (accepted e xs) l = pick (eqb (short all xs l) 0) (stored e xs l) (refusal 5 (short all xs l) (needed all xs l) l)

unfoldable pub answer : List ℕ → Lent → Outcome
answer src l = settle (reading src) l

-- ---- what a caller finds in a table afterwards: as many rows as were counted
abbrev pub counts_of : Outcome → Table → ℕ
counts_of o t = get_or o.answer.counts (number t - 1) 0

abbrev pub rows_left : Outcome → Table → List (List ℕ)
rows_left o t = rows_in (size t) (counts_of o t) (lent t o.left)

-- ---- the text of a name: a part of the source, with 6 an empty one
abbrev pub name_number : List ℕ → ℕ → ℕ → ℕ
name_number src o n = pick (ltb (length src) (o + n)) 6 0

abbrev pub name_text : List ℕ → ℕ → ℕ → List ℕ
name_text src o n = pick (ltb (length src) (o + n)) [] (take n (drop o src))
