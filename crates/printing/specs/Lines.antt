-- The lines that the programs write, as texts: numbers, the line of a row, the lines of rows.
use Rattle.std.specs.Prelude.{ℕ, zero, suc, ◌+◌, ◌/◌, ◌%◌, List, [], ◌∷◌, ◌++◌, ltb, length, take, drop}
use Rattle.meaning.specs.Choice.{pick}

-- the last digits of n, so many at most, the first one first
unfoldable pub digits_of : ℕ → ℕ → List ℕ
digits_of zero n = []
digits_of (suc k) n = pick (ltb n 10) ((48 + n) ∷ []) (digits_of k (n / 10) ++ ((48 + n % 10) ∷ []))

-- a number of 64 bits has 20 digits at most
abbrev pub decimal : ℕ → List ℕ
decimal n = digits_of 20 n

-- each word behind a space
unfoldable pub words : List ℕ → List ℕ
words [] = []
words (w ∷ ws) = (32 ∷ decimal w) ++ words ws

-- a letter, the words of a row, LF
abbrev pub line : ℕ → List ℕ → List ℕ
line letter ws = (letter ∷ []) ++ words ws ++ (10 ∷ [])

-- the lines of so many rows, as far as they are there
unfoldable pub lines : ℕ → ℕ → ℕ → List ℕ → List ℕ
lines letter size zero t = []
lines letter size (suc k) t = pick (ltb (length t) size) [] (line letter (take size t) ++ lines letter size k (drop size t))
