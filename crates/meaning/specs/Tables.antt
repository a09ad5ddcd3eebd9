-- The five tables: what a walk yields for them, and what rows leave in lent words (01, 'Rows').
use Rattle.std.specs.Prelude.{ℕ, zero, suc, ◌+◌, ◌*◌, ◌/◌, List, [], ◌∷◌, ◌++◌, length, take, drop, leb, eqb, ltb}
use Rattle.meaning.specs.Choice.{pick}

-- the tables by their numbers: declarations 1, fields 2, tags 3, constraints 4, comments 5
pub data Table : Type 0 where
  declarations : Table
  fields : Table
  tags : Table
  constraints : Table
  comments : Table

abbrev pub number : Table → ℕ
number Table.declarations = 1
number Table.fields = 2
number Table.tags = 3
number Table.constraints = 4
number Table.comments = 5

-- words in a row
abbrev pub size : Table → ℕ
size Table.declarations = 17
size Table.fields = 20
size Table.tags = 12
size Table.constraints = 12
size Table.comments = 7

-- what the walk meets, in its order: an integer (its place, and the converter's reason), or a row of a table
pub data Item : Type 0 where
  int : ℕ → ℕ → Item
  row : Table → List ℕ → Item

-- the rows of one table, in order
unfoldable pub rows_of : Table → List Item → List (List ℕ)
rows_of t [] = []
rows_of t (int p r ∷ xs) = rows_of t xs
rows_of t (row u ws ∷ xs) = pick (eqb (number t) (number u)) (ws ∷ rows_of t xs) (rows_of t xs)

abbrev pub count : Table → List Item → ℕ
count t xs = length (rows_of t xs)

-- a first row with a count of 0 is 0
abbrev pub first_of : ℕ → ℕ → ℕ
first_of first zero = 0
first_of first (suc n) = first

-- the first integer that does not convert: place and reason; reason 0 where all convert
pub record Bad : Type 0 where
  pub place : ℕ
  pub reason : ℕ

unfoldable pub first_bad : List Item → Bad
first_bad [] = record { place = 0; reason = 0 }
first_bad (int p r ∷ xs) = pick (eqb r 0) (first_bad xs) (record { place = p; reason = r })
first_bad (row t ws ∷ xs) = first_bad xs

-- ---- rows in lent words
-- the words after a row was written at row index k: as they were, if the row does not fit whole
unfoldable pub put : ℕ → ℕ → List ℕ → List ℕ → List ℕ
put size k ws t = pick (leb (k * size + size) (length t)) (take (k * size) t ++ ws ++ drop (k * size + size) t) t

unfoldable pub puts : ℕ → ℕ → List (List ℕ) → List ℕ → List ℕ
puts size k [] t = t
puts size k (r ∷ rs) t = puts size (k + 1) rs (put size k r t)

-- the words of rows, one after the other
unfoldable pub flat : List (List ℕ) → List ℕ
flat [] = []
flat (r ∷ rs) = r ++ flat rs

-- the first so many rows that words hold
unfoldable pub rows_in : ℕ → ℕ → List ℕ → List (List ℕ)
rows_in size zero t = []
rows_in size (suc k) t = take size t ∷ rows_in size k (drop size t)

-- a table holds as many rows as fit whole
abbrev pub room : ℕ → List ℕ → ℕ
room size t = length t / size

-- the lent words of the five tables
pub record Lent : Type 0 where
  pub w1 : List ℕ
  pub w2 : List ℕ
  pub w3 : List ℕ
  pub w4 : List ℕ
  pub w5 : List ℕ

abbrev pub lent : Table → Lent → List ℕ
lent Table.declarations l = l.w1
lent Table.fields l = l.w2
lent Table.tags l = l.w3
lent Table.constraints l = l.w4
lent Table.comments l = l.w5

-- the words of a table after the rows among these items were written from its start on
abbrev pub filled : List Item → Lent → Table → List ℕ
filled xs l t = puts (size t) 0 (rows_of t xs) (lent t l)

abbrev pub fill : List Item → Lent → Lent
fill xs l = record {
  w1 = filled xs l Table.declarations;
  w2 = filled xs l Table.fields;
  w3 = filled xs l Table.tags;
  w4 = filled xs l Table.constraints;
  w5 = filled xs l Table.comments;
}

-- refusal 5: the first of these tables that is too short, as its number; 0 if none is
abbrev pub short : List Table → List Item → Lent → ℕ
short [] xs l = 0
short (t ∷ ts) xs l = pick (ltb (room (size t) (lent t l)) (count t xs)) (number t) (short ts xs l)

abbrev pub needed : List Table → List Item → Lent → ℕ
needed [] xs l = 0
needed (t ∷ ts) xs l = pick (ltb (room (size t) (lent t l)) (count t xs)) (count t xs) (needed ts xs l)

abbrev pub all : List Table
all = Table.declarations ∷ Table.fields ∷ Table.tags ∷ Table.constraints ∷ Table.comments ∷ []
