-- What the rows of constraints settle: all of the walk but the place that it knows, and every word of the table.
use Rattle.std.specs.Prelude.{ℕ, ◌≡◌, List, length, Option}
use Rattle.meaning.specs.Tables.{Lent}
use Rattle.spans.specs.declared.Span.{Span}
use Rattle.spans.specs.declared.Constraint.{Constraint}
use Rattle.walk.specs.declared.Walk.{Walk}
use Rattle.walk.specs.Settled.{Alike, wrote_settled}
use Rattle.constraint_rows.specs.Constraints.{GoesRow}
use Rattle.constraint_rows.specs.OptionalLists.{GoesPart}

module _ {src : List ℕ} {at : ℕ} {n r s : Walk} {a b c : Lent → Lent} (e : length n.counts ≡ 5) where
  pub row_settled : {x : Constraint} → GoesRow src at x n r a b → GoesRow src at x n s a c → Alike r s b c
  row_settled x y = wrote_settled e x.wrote y.wrote

  pub part_settled : {g : Option Span} → GoesPart src at g n r a b → GoesPart src at g n s a c → Alike r s b c
  part_settled x y = wrote_settled e x.wrote y.wrote
