-- The head of a declaration: what its rows ask of the walk that has come there, and what they leave.
use Rattle.std.specs.Prelude.{ℕ, ◌+◌, ◌-◌, ◌≤◌, ◌≡◌, List, ◌++◌, length, drop}
use Rattle.meaning.specs.Peg.{taken}
use Rattle.meaning.specs.Pdl.{constraint_list}
use Rattle.meaning.specs.Places.{place_at}
use Rattle.meaning.specs.Tables.{Item, Lent}
use Rattle.grammar.specs.Limits.{Limits}
use Rattle.spans.specs.declared.Matched.{Matched}
use Rattle.spans.specs.declared.Header.{Header}
use Rattle.spans.specs.Drawn.{list_at}
use Rattle.spans.specs.Answers.{MatchedPart}
use Rattle.walk.specs.declared.Door.TheVariants.{Write}
use Rattle.walk.specs.declared.Walk.{Walk}
use Rattle.walk.specs.State.{Wrote, At}
use Rattle.walk.specs.Terms.{part_number, integer_items, span_name, other_name, Inside, InsidePart}
use Rattle.constraint_rows.specs.OptionalLists.{part_items}
use Rattle.declaration_rows.specs.declared.heads.Headed.{Headed}

-- the spans of a head lie in a text of n bytes
pub record InsideHeader (n : ℕ) (h : Header) : Type 0 where
  pub id : Inside n h.id
  pub parent : InsidePart n h.parent
  pub width : InsidePart n h.width
  pub function : InsidePart n h.function

-- the walk has come to a head, whose constraints are matched where it says, and lie inside it
pub record HeadAt (src : List ℕ) (at : ℕ) (h : Matched Header) (n : Walk) : Type 0 where
  pub came : At src at n
  pub ends : at + taken h.at ≤ length src
  pub inside : InsideHeader (length src - at) h.value
  pub list : Limits at (at + taken h.at) (list_at constraint_list at (drop at src) h.value.constraints)
  pub stands : MatchedPart constraint_list (drop at src) h.value.constraints

-- what the walk meets in a head: its width, and its constraints
abbrev pub head_constraints : List ℕ → ℕ → Header → List Item
head_constraints src at h = part_items src at h.constraints

abbrev pub head_items : List ℕ → ℕ → Header → List Item
head_items src at h = integer_items (part_number src at h.width) ++ head_constraints src at h

-- it goes over them, and knows what the head says
pub record GoesHead (src : List ℕ) (at : ℕ) (h : Matched Header) (n : Walk) (r : Headed) (a b : Lent → Lent) : Type 0 where
  pub wrote : Wrote (head_items src at h.value) n r.walk a b
  pub came : At src (at + taken h.at) r.walk
  pub start : n.door ≡ Write → r.start ≡ place_at src at
  pub id : r.id ≡ span_name at h.value.id
  pub other : r.other ≡ other_name at h.value.parent h.value.function
  pub width : r.width ≡ part_number src at h.value.width
