-- The lines of layouts: L (row, number, place, reason, placed rows, chunk rows), P for each placed row, K for each chunk row.
use Rattle.std.specs.Prelude.{ℕ, zero, suc, ◌+◌, ◌*◌, List, [], ◌∷◌, ◌++◌, eqb, get_or, replicate}
use Rattle.meaning.specs.Choice.{pick}
use Rattle.meaning.specs.Rows.{placed_size, chunk_size}
use Rattle.meaning.specs.Feeding as meaning
use Rattle.printing.specs.Lines.{line, lines}

-- the line of an answer, and its rows
abbrev pub laid : List ℕ → List ℕ → List ℕ → List ℕ
laid answer ps cs = line 76 answer ++ lines 80 placed_size (get_or answer 4 0) ps ++ lines 75 chunk_size (get_or answer 5 0) cs

-- the words of the L line
abbrev pub answer_words : ℕ → meaning.Layout → List ℕ
answer_words k l = k ∷ l.number ∷ l.place ∷ 0 ∷ l.placed ∷ l.chunks ∷ []

-- one declaration row, laid out in tables of 100 rows that were empty; none where it is no packet, struct or group (15)
unfoldable pub layout_of : List ℕ → List ℕ → ℕ → List ℕ
layout_of ds fs k =
    let l = meaning.layout ds fs k (replicate (100 * placed_size) 0) (replicate (100 * chunk_size) 0) in
    pick (eqb l.number 15) [] (laid (answer_words k l) l.ps l.cs)

-- so many rows, from k on
unfoldable pub layouts : List ℕ → List ℕ → ℕ → ℕ → List ℕ
layouts ds fs zero k = []
layouts ds fs (suc n) k = layout_of ds fs k ++ layouts ds fs n (k + 1)
