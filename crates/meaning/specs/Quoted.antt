-- A quoted text, of ASCII characters, as its bytes.
use Rattle.std.specs.Prelude.{ℕ, zero, suc, ◌+◌, List, [], ◌∷◌}
use Prim.Native.String.{String, len, char_at}
use Prim.Native.Char.{code}

abbrev pub bytes_from : ℕ → ℕ → String → List ℕ
bytes_from zero i s = []
bytes_from (suc k) i s = code (char_at s i) ∷ bytes_from k (i + 1) s

abbrev pub bytes : String → List ℕ
bytes s = bytes_from (len s) 0 s
