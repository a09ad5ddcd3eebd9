-- Of every accepted source: the rows of a table are laid out from its start to its end, so that their starts ascend.
use Rattle.std.specs.Prelude.{◌≡◌, refl, Bool, true, false, List, [], ℕ, ◌≤◌, eqb, length}
use Rattle.std.proofs.Common.{sym, subst, arith}
use Rattle.meaning.specs.Rules.{Rule}
use Rattle.meaning.specs.Forest.{clean}
use Rattle.meaning.specs.Tables.{Table, number, Item, rows_of}
use Rattle.meaning.specs.Walk.{part, comments, items}
use Rattle.meaning.specs.Reading.{accepted, reading}
use Rattle.reading.specs.Sorts.{of_toplevel, of_comments}
use Rattle.reading.specs.Partition.{comment_rows}
use Rattle.reading.specs.Sources.{whole, declared, declared_rows}
use Rattle.reading.specs.Acceptance.{Accepts}
use Rattle.sound_rows.specs.Placement.{ranged_clean, Stands, stand}
use Rattle.sound_rows.specs.Between.{Laid}
use Rattle.sound_rows.proofs.BetweenDeclarations.{toplevel_between, comments_between}
use Rattle.standing.specs.MovedItems.{same_table}
use Rattle.standing.specs.WholeSources.{comments_are, declared_are}
use Rattle.standing.specs.Accepting.{whole_from, read}
use Rattle.sound_rows.specs.Ascending.{Ascending, starts, laid_ascends}

-- ---- the rows of an accepted source
module _ {src : List ℕ} (h : Accepts src) where
  declared_laid : (t : Table) → Laid (Stands src) t 0 (length src) (rows_of t (declared src))
  declared_laid t =
      let w = whole_from h in
      let z : length src ≤ length src = omega arith in
      rw (declared_are w.1) (toplevel_between src [] (ranged_clean (stand w.1)) z).laid

  comments_laid : (t : Table) → Laid (Stands src) t 0 (length src) (rows_of t (comments src (whole src)))
  comments_laid t =
      let w = whole_from h in
      let z : length src ≤ length src = omega arith in
      rw (comments_are w.1) (comments_between src (stand w.1) z).laid

  rows_laid : (t : Table) → Laid (Stands src) t 0 (length src) (rows_of t (items src (whole src)))
  rows_laid t = go (eqb (number t) 5) refl
    where
      rising : Laid (Stands src) Table.comments 0 (length src) (rows_of Table.comments (items src (whole src)))
      rising = rw (comment_rows (of_comments src (whole src)) (of_toplevel src (part Rule.file (clean (whole src))).kids [])) (comments_laid Table.comments)

      go : (b : Bool) → eqb (number t) 5 ≡ b → Laid (Stands src) t 0 (length src) (rows_of t (items src (whole src)))
      go true e = subst (λ (u : Table). Laid (Stands src) u 0 (length src) (rows_of u (items src (whole src)))) (sym (same_table t Table.comments e)) rising
      go false e = rw (declared_rows t src e) (declared_laid t)

pub laid : (src e : List ℕ) (xs : List Item) → reading src ≡ accepted e xs → (t : Table) → Laid (Stands src) t 0 (length src) (rows_of t xs)
laid src e xs h t = subst (λ (ys : List Item). Laid (Stands src) t 0 (length src) (rows_of t ys)) (read h).items (rows_laid (read h).accepts t)

-- ---- THE ORDER OF ROWS
pub ascending : (src e : List ℕ) (xs : List Item) → reading src ≡ accepted e xs → (t : Table) → Ascending (starts (rows_of t xs))
ascending src e xs h t = laid_ascends (Stands src) t 0 (length src) (rows_of t xs) (laid src e xs h t)
