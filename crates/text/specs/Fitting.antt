-- A number while its digits are read: none is one that does not fit 64 bits.
use Rattle.std.specs.Prelude.{ℕ, ◌^◌, ltb, Option, Some, None}
use Rattle.meaning.specs.Choice.{pick}

abbrev pub in_range : ℕ → Option ℕ
in_range n = pick (ltb n (2 ^ 64)) (Some n) None

-- the number, or one that is too large
abbrev pub reached : Option ℕ → ℕ
reached (Some n) = n
reached None = 2 ^ 64
