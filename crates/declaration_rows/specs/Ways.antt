-- The walk's way over a part of a source: what it meets there, whatever items stand before, and where it comes to.
use Rattle.std.specs.Prelude.{ℕ, ◌≡◌, List}
use Rattle.meaning.specs.Tables.{Item, Lent}
use Rattle.walk.specs.declared.Walk.{Walk}
use Rattle.walk.specs.declared.Walked.{Walked}
use Rattle.walk.specs.State.{Wrote, At, Tallied}

-- the items are told by those before them; the part ends at e
pub record GoesTo (items : List Item → List Item) (src : List ℕ) (e : ℕ) (n : Walk) (r : Walked) (a b : Lent → Lent) : Type 0 where
  pub wrote : (xs : List Item) → Tallied xs n → Wrote (items xs) n r.walk a b
  pub came : At src r.end r.walk
  pub ends : r.end ≡ e
