-- The constraints of a list that may be absent, as a group's or a header's: the nodes of a list, or none.
use Rattle.std.specs.Prelude.{ℕ, ◌+◌, ◌≤◌, ◌≡◌, refl, List, length, drop, Option, Some}
use Rattle.std.proofs.Common.{ap}
use Rattle.meaning.specs.Rules.{Rule}
use Rattle.meaning.specs.Forest.{Forest}
use Rattle.meaning.specs.Pdl.{constraint, constraint_list}
use Rattle.meaning.specs.Tables.{Item, Lent}
use Rattle.meaning.specs.Walk.{part, parse_constraint_list}
use Rattle.grammar.specs.Limits.{Limits}
use Rattle.spans.specs.declared.Span.{Span}
use Rattle.spans.specs.Drawn.{list_at}
use Rattle.spans.specs.Answers.{MatchedList, MatchedPart}
use Rattle.walk.specs.declared.Walk.{Walk}
use Rattle.walk.specs.State.{Wrote, At}
use Rattle.walk.specs.Listing.{ListRule, plain_list}
use Rattle.walk.specs.Lists.{list_nodes}
use Rattle.walk.specs.PartLists.{list_node}
use Rattle.constraint_rows.specs.Constraints.{constraint_form}

pub constraint_rule : ListRule Rule.constraint_list constraint_list constraint
unfolding constraint_list
constraint_rule = plain_list Rule.constraint_list constraint refl

-- the nodes of such a list in the text t at o, and what the walk meets there
abbrev pub part_nodes : ℕ → List ℕ → Option Span → Forest
part_nodes o t g = (part Rule.constraint_list (list_at constraint_list o t g)).kids

abbrev pub part_items : List ℕ → ℕ → Option Span → List Item
part_items src o g = parse_constraint_list src (part_nodes o (drop o src) g)

pub part_list : (src : List ℕ) (o : ℕ) {s : Span} → MatchedList constraint_list (drop o src) s
    → part_nodes o (drop o src) (Some s) ≡ list_nodes constraint_form src (o + s.start)
part_list src o m = ap (λ (v : Forest). (part Rule.constraint_list v).kids) (list_node constraint_form constraint_rule src o m)

-- ---- the walk has come to the text at `at`, where the constraints that the part says are matched
pub record Begun (src : List ℕ) (at : ℕ) (g : Option Span) (n : Walk) : Type 0 where
  pub came : At src at n
  pub list : MatchedPart constraint_list (drop at src) g

-- it goes over them: every bound of their nodes that lies in the source bounds where it comes to
pub record GoesPart (src : List ℕ) (at : ℕ) (g : Option Span) (n r : Walk) (a b : Lent → Lent) : Type 0 where
  pub wrote : Wrote (part_items src at g) n r a b
  pub came : (lo hi : ℕ) → at ≤ hi → hi ≤ length src → Limits lo hi (list_at constraint_list at (drop at src) g) → At src hi r
