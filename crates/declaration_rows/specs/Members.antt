-- What stands behind a declaration's head: the tags of an enum, the fields of any other kind that has braces, and the brace.
use Rattle.std.specs.Prelude.{ℕ, ◌+◌, ◌≡◌, List, [], true, drop}
use Rattle.meaning.specs.Choice.{pick}
use Rattle.meaning.specs.Peg.{seq, opt, run, bytewise, hit, taken}
use Rattle.meaning.specs.Forest.{Forest, nil, nodes}
use Rattle.meaning.specs.Pdl.{text, skip, enum_tag, enum_tag_list, field, field_list}
use Rattle.meaning.specs.Tables.{Table, Item, Lent}
use Rattle.walk.specs.declared.Walk.{Walk}
use Rattle.walk.specs.declared.Walked.{Walked}
use Rattle.walk.specs.State.{counted, At}
use Rattle.walk.specs.Lists.{list_nodes}
use Rattle.tag_rows.specs.Tags.{tag_form}
use Rattle.field_rows.specs.Fields.{field_form}
use Rattle.declaration_rows.specs.declared.kinds.Kind.{Kind}
use Rattle.declaration_rows.specs.declared.kinds.Kind.TheVariants.{Enum}
use Rattle.declaration_rows.specs.Kinds.{by_braces}
use Rattle.declaration_rows.specs.Ways.{GoesTo}
use Rattle.declaration_rows.specs.Braces.{past_blanks}

-- ---- where a list ends whose last item ends at j, and a declaration whose members end there
abbrev pub list_end : List ℕ → ℕ → ℕ
list_end src j = j + taken (run (bytewise (seq skip (opt (text ",")))) (drop j src))

abbrev pub closing : List ℕ → ℕ → ℕ
closing src j = j + taken (run (bytewise (seq skip (text "}"))) (drop j src))

-- the walk over them goes on to there
abbrev pub past_comma : List ℕ → Walked → Walked
past_comma src w = record { walk = w.walk; end = list_end src w.end }

abbrev pub past_brace : List ℕ → Walked → Walked
past_brace src w = record { walk = w.walk; end = closing src w.end }

-- ---- tags at i: the items before them are xs
abbrev pub tag_items : List ℕ → ℕ → List Item → List Item
tag_items src i xs = tag_form.items src xs (list_nodes tag_form src i)

abbrev pub tag_end : List ℕ → ℕ → ℕ
tag_end src i = i + taken (run (bytewise enum_tag_list) (drop i src))

-- ---- fields at i, if one matches there
abbrev pub field_nodes : List ℕ → ℕ → Forest
field_nodes src i = pick (hit (run (bytewise field) (drop i src))) (nodes (bytewise field_list) i (drop i src)) nil

abbrev pub field_items : List ℕ → ℕ → List Item → List Item
field_items src i xs = pick (hit (run (bytewise field) (drop i src))) (field_form.items src xs (list_nodes field_form src i)) []

abbrev pub field_end : List ℕ → ℕ → ℕ
field_end src i = pick (hit (run (bytewise field) (drop i src))) (i + taken (run (bytewise field_list) (drop i src))) i

-- ---- the members of the kind k at i, and how many of them a walk has counted
abbrev pub member_nodes : List ℕ → Kind → ℕ → Forest
member_nodes src k i = by_braces k (nodes (bytewise enum_tag_list) i (drop i src)) (field_nodes src i) nil

abbrev pub member_items : List ℕ → Kind → ℕ → List Item → List Item
member_items src k i xs = by_braces k (tag_items src i xs) (field_items src i xs) []

abbrev pub own : Kind → Table
own k = by_braces k Table.tags Table.fields Table.fields

abbrev pub members_of : Kind → Walk → ℕ
members_of k n = counted (own k) n

-- where a declaration ends whose head ends at e
abbrev pub whole_end : List ℕ → Kind → ℕ → ℕ
whole_end src k e = by_braces k (closing src (tag_end src (past_blanks src e))) (closing src (field_end src (past_blanks src e))) e

-- ---- what the walk over them asks, and what it comes to
-- a tag matches at i
pub record Tagged (src : List ℕ) (i : ℕ) (n : Walk) : Type 0 where
  pub came : At src i n
  pub hits : hit (run (bytewise enum_tag) (drop i src)) ≡ true

abbrev pub GoesTags : List ℕ → ℕ → Walk → Walked → (Lent → Lent) → (Lent → Lent) → Type 0
GoesTags src i n r a b = GoesTo (tag_items src i) src (tag_end src i) n r a b

abbrev pub GoesFields : List ℕ → ℕ → Walk → Walked → (Lent → Lent) → (Lent → Lent) → Type 0
GoesFields src i n r a b = GoesTo (field_items src i) src (field_end src i) n r a b

-- the head ends at e; behind it a tag matches, if it is an enum's
pub record Membered (src : List ℕ) (e : ℕ) (k : Kind) (n : Walk) : Type 0 where
  pub came : At src e n
  pub tagged : k ≡ Enum → hit (run (bytewise enum_tag) (drop (past_blanks src e) src)) ≡ true

abbrev pub GoesMembers : List ℕ → ℕ → Kind → Walk → Walked → (Lent → Lent) → (Lent → Lent) → Type 0
GoesMembers src e k n r a b = GoesTo (member_items src k (past_blanks src e)) src (whole_end src k e) n r a b
