-- Of every accepted source: each name of a row is absent or a node's, and its text is never refused 6.
use Rattle.std.specs.Prelude.{◌≡◌, List, ℕ, length}
use Rattle.meaning.specs.Tables.{Table, Item, rows_of}
use Rattle.meaning.specs.Reading.{accepted, reading}
use Rattle.sound_rows.specs.Placement.{Stands}
use Rattle.sound_rows.specs.Between.{Named}
use Rattle.sound_rows.proofs.Ascending.{laid}
use Rattle.sound_rows.specs.Names.{Name, Each, Within, laid_named, each_within}

-- ---- THE NAMES OF ROWS
pub named : (src e : List ℕ) (xs : List Item) → reading src ≡ accepted e xs → (t : Table) → Each (Named (Name src) t) (rows_of t xs)
named src e xs h t = laid_named (Stands src) t 0 (length src) (rows_of t xs) (laid src e xs h t)

-- ---- their texts
module _ (src : List ℕ) where
  pub never_refused : (e : List ℕ) (xs : List Item) → reading src ≡ accepted e xs → (t : Table) → Each (Named (Within src) t) (rows_of t xs)
  never_refused e xs h t = each_within src t (rows_of t xs) (named src e xs h t)
