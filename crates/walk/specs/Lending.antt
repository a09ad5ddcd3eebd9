-- The words of the tables that are lent together, and that they stay the same tables.
use Rattle.std.specs.Prelude.{◌≡◌, List, ℕ}
use Rattle.meaning.specs.Tables.{Table, Lent}
use Rattle.walk.specs.declared.tables.Tables.{Tables}
use Rattle.walk.specs.State.{lend}

abbrev pub words : Tables → Lent
words t = record { w1 = t.declarations.now; w2 = t.fields.now; w3 = t.tags.now; w4 = t.constraints.now; w5 = t.comments.now }

-- the tables that the rows of declarations go into
abbrev pub four : List ℕ → List ℕ → List ℕ → List ℕ → Lent → Lent
four d f t c l = lend Table.declarations d (lend Table.fields f (lend Table.tags t (lend Table.constraints c l)))

abbrev pub declared_in : Tables → Lent → Lent
declared_in t = four t.declarations.now t.fields.now t.tags.now t.constraints.now

-- b lends what a lends, whatever the words
pub record SameTables (a b : Tables) : Type 0 where
  pub declarations : b.declarations.ghost_name ≡ a.declarations.ghost_name
  pub fields : b.fields.ghost_name ≡ a.fields.ghost_name
  pub tags : b.tags.ghost_name ≡ a.tags.ghost_name
  pub constraints : b.constraints.ghost_name ≡ a.constraints.ghost_name
  pub comments : b.comments.ghost_name ≡ a.comments.ghost_name

-- and the comments are as they were
pub record Kept (a b : Tables) : Type 0 where
  pub same : SameTables a b
  pub comments : b.comments.now ≡ a.comments.now
