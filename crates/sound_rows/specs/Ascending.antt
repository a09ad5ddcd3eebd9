-- 'Rows are 64-bit words in source order of their starts' (01, 'Rows'): of every accepted source, in each of the five tables, each row
-- starts behind the start of the row before it.
use Rattle.std.specs.Prelude.{List, [], ◌∷◌, ℕ, ◌+◌, ◌<◌}
use Rattle.std.proofs.Common.{arith}
use Rattle.meaning.specs.Tables.{Table}
use Rattle.sound_rows.specs.Placement.{Known}
use Rattle.sound_rows.specs.Between.{start, Laid}

-- each number is below the next
abbrev pub Ascending : List ℕ → Type 0
Ascending [] = Unit {0}
Ascending (x ∷ []) = Unit {0}
Ascending (x ∷ y ∷ ys) = (x < y) × Ascending (y ∷ ys)

-- the start offsets of rows
abbrev pub starts : List (List ℕ) → List ℕ
starts [] = []
starts (ws ∷ rs) = start ws ∷ starts rs

pub laid_ascends : (P : Known) (t : Table) (lo hi : ℕ) (rs : List (List ℕ)) → Laid P t lo hi rs → Ascending (starts rs)
laid_ascends P t lo hi [] h = tt
laid_ascends P t lo hi (ws ∷ []) h = tt
laid_ascends P t lo hi (ws ∷ vs ∷ rs) h = (omega (arith, h.1.1.0), laid_ascends P t (start ws + 1) hi (vs ∷ rs) h.1.1)
