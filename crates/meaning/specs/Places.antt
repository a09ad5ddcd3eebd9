-- Places in a source (01, 'Rows'): offset, line and column, from zero, in bytes.
use Rattle.std.specs.Prelude.{ℕ, ◌+◌, ◌-◌, List, [], ◌∷◌, take, ltb, eqb}
use Rattle.meaning.specs.declared.SourceLocation.{SourceLocation}
use Rattle.meaning.specs.Choice.{pick}

abbrev pub at : ℕ → ℕ → ℕ → SourceLocation
at o l c = record { offset = o; line = l; column = c }

-- ---- SourceLocation::new over any list of starts: it stops at the first start above the offset
unfoldable pub fold : ℕ → List ℕ → ℕ → SourceLocation → SourceLocation
fold o [] i p = p
fold o (s ∷ ss) i p = pick (ltb o s) p (fold o ss (i + 1) (at o i (o - s)))

abbrev pub location : ℕ → List ℕ → SourceLocation
location o ss = fold o ss 0 (at o 0 o)

-- ---- the place of an offset: lines start at 0 and after each LF; CR starts none
abbrev pub over : ℕ → SourceLocation → SourceLocation
over b p = pick (eqb b 10) (at (p.offset + 1) (p.line + 1) 0) (at (p.offset + 1) p.line (p.column + 1))

unfoldable pub moved : List ℕ → SourceLocation → SourceLocation
moved [] p = p
moved (b ∷ bs) p = moved bs (over b p)

abbrev pub place_at : List ℕ → ℕ → SourceLocation
place_at s n = moved (take n s) (at 0 0 0)

-- the starts that the Rust hands to SourceLocation::new (files::line_starts): 0, and past each LF
unfoldable pub starts_from : ℕ → List ℕ → List ℕ
starts_from o [] = []
starts_from o (b ∷ bs) = pick (eqb b 10) ((o + 1) ∷ starts_from (o + 1) bs) (starts_from (o + 1) bs)

abbrev pub starts : List ℕ → List ℕ
starts s = 0 ∷ starts_from 0 s
