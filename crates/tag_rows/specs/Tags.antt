-- The tags of an enum in the words of their spans: what the walk meets in one of them, the forms of both lists, what writing asks.
use Rattle.std.specs.Prelude.{ℕ, ◌+◌, ◌≤◌, ◌<◌, ◌≡◌, true, length, drop, Option, None, Some}
use Rattle.std.proofs.Math.Path.{refl}
use Rattle.std.proofs.Common.{ap, sym, ◌∙◌}
use mathlib.Core.List.{List, [], ◌∷◌, ◌++◌, append-nil}
use Rattle.meaning.specs.Choice.{pick}
use Rattle.meaning.specs.Rules.{Rule, is}
use Rattle.meaning.specs.Peg.{bytewise, taken}
use Rattle.meaning.specs.Forest.{Forest, nil, tree, ◌⊕◌}
use Rattle.meaning.specs.Pdl.{identifier, alpha, enum_value, enum_value_list, enum_range, enum_other, enum_tag}
use Rattle.meaning.specs.Places.{place_at}
use Rattle.meaning.specs.Tables.{Table, Item, row, count}
use Rattle.meaning.specs.Walk.{Part, node, part, each, tag_row, parse_enum_value, parse_enum_range, parse_enum_other, parse_enum_tag}
use Rattle.grammar.specs.Matching.{eats}
use Rattle.spans.specs.declared.Span.{Span}
use Rattle.spans.specs.declared.TagValue.{TagValue}
use Rattle.spans.specs.declared.TagRange.{TagRange}
use Rattle.spans.specs.declared.TagOther.{TagOther}
use Rattle.spans.specs.declared.Tag.{Tag}
use Rattle.spans.specs.declared.Tag.TheVariants.{Value, Range, Other}
use Rattle.spans.specs.declared.Matched.{Matched}
use Rattle.spans.specs.Drawn.{leaf_at, list_at, draw_tag}
use Rattle.spans.specs.Answers.{MatchedPart, Tagged, Enumerated}
use Rattle.walk.specs.declared.Door.TheVariants.{Write}
use Rattle.walk.specs.declared.Number.{Number}
use Rattle.walk.specs.declared.kinds.TagKind.{TagKind}
use Rattle.walk.specs.declared.kinds.TagKind.TheVariants as kinds
use Rattle.walk.specs.Kinds.{tag_number}
use Rattle.walk.specs.declared.Walk.{Walk}
use Rattle.walk.specs.Terms.{number_at, span_number, integer_items, span_name, words_of_tag, Inside}
use Rattle.walk.specs.State.{At}
use Rattle.walk.specs.Lists.{Form, list_nodes, stop}

-- ---- one tag of n bytes at o, from its spans
-- its row, with its kind, its name, its numbers and how many rows follow that are its own
unfoldable pub row_words : List ℕ → ℕ → ℕ → TagKind → Span → Option Number → Option Number → ℕ → List ℕ
row_words src o n kind id v e inner = words_of_tag kind (place_at src o) (place_at src (o + n)) (span_name o id) v e inner

abbrev pub value_items : List ℕ → TagKind → ℕ → ℕ → TagValue → List Item
value_items src kind o n v =
    let x = span_number src o v.value in integer_items x ++ row Table.tags (row_words src o n kind v.id x None 0) ∷ []

abbrev pub other_items : List ℕ → ℕ → ℕ → TagOther → List Item
other_items src o n x = row Table.tags (row_words src o n kinds.Other x.id None None 0) ∷ []

-- what the walk meets in the nodes of values inside a range, and in the braces whose list is this part
abbrev pub values_items : List ℕ → Forest → List Item
values_items src w = each Rule.enum_value (λ q. parse_enum_value src 4 q) w

abbrev pub inner_items : List ℕ → ℕ → Option Span → List Item
inner_items src o list = values_items src (part Rule.enum_value_list (list_at enum_value_list o (drop o src) list)).kids

-- a range's numbers, its row, and the rows inside it
abbrev pub range_numbers : List ℕ → ℕ → TagRange → List Item
range_numbers src o x = integer_items (span_number src o x.start) ++ integer_items (span_number src o x.end)

abbrev pub range_row : List ℕ → ℕ → ℕ → TagRange → ℕ → List ℕ
range_row src o n x inner = row_words src o n kinds.Range x.id (span_number src o x.start) (span_number src o x.end) inner

abbrev pub range_items : List ℕ → ℕ → ℕ → TagRange → List Item
range_items src o n x =
    range_numbers src o x ++ row Table.tags (range_row src o n x (count Table.tags (inner_items src o x.tags))) ∷ inner_items src o x.tags

-- ---- so says the walk of the drawn nodes
value_items_lem : (src : List ℕ) (kind : TagKind) (o n : ℕ) (v : TagValue) (w : Forest)
    → parse_enum_value src (tag_number kind) (node o n (leaf_at Rule.identifier o v.id ⊕ leaf_at Rule.integer o v.value) w) ≡ value_items src kind o n v
unfolding parse_enum_value tag_row row_words words_of_tag number_at
value_items_lem src kind o n v w = refl

range_items_lem : (src : List ℕ) (o n : ℕ) (x : TagRange) (w : Forest)
    → parse_enum_range src
    (node o n
    (leaf_at Rule.identifier o x.id ⊕ leaf_at Rule.integer o x.start ⊕ leaf_at Rule.integer o x.end ⊕ list_at enum_value_list o (drop o src) x.tags)
    w)
    ≡ range_items src o n x
unfolding parse_enum_range tag_row row_words words_of_tag number_at
range_items_lem src o n x w = refl

other_items_lem : (src : List ℕ) (o n : ℕ) (x : TagOther) (w : Forest)
    → parse_enum_other src (node o n (leaf_at Rule.identifier o x.id) w) ≡ other_items src o n x
unfolding parse_enum_other tag_row row_words words_of_tag
other_items_lem src o n x w = refl

-- ---- both lists: an item takes a byte, and the walk goes over it alone
pub each_one : (k : Rule) (f : Part → List Item) (q : Rule) (s l : ℕ) (kids w : Forest) → f (node s l kids w) ≡ f (node s l kids nil)
    → each k f (tree q s l kids w) ≡ each k f (tree q s l kids nil) ++ each k f w
unfolding each
each_one k f q s l kids w e =
    ap (λ (xs : List Item). pick (is k q) xs [] ++ each k f w) e
    ∙ ap (λ (xs : List Item). xs ++ each k f w) (sym (append-nil (pick (is k q) (f (node s l kids nil)) [])))

pub each_none : (k : Rule) (f : Part → List Item) → each k f nil ≡ []
unfolding each
each_none k f = refl

pub eats_value : eats (bytewise enum_value) ≡ true
unfolding enum_value identifier alpha
eats_value = refl

pub eats_tag : eats (bytewise enum_tag) ≡ true
unfolding enum_tag enum_range enum_value enum_other identifier alpha
eats_tag = refl

one_value : (src : List ℕ) (s l : ℕ) (kids w : Forest) → parse_enum_value src 4 (node s l kids w) ≡ parse_enum_value src 4 (node s l kids nil)
unfolding parse_enum_value tag_row
one_value src s l kids w = refl

pub one_inside : (src : List ℕ) (o : ℕ) (t : List ℕ) (n : ℕ) (x : Tag) (w : Forest)
    → values_items src (draw_tag o t n x ⊕ w) ≡ values_items src (draw_tag o t n x) ++ values_items src w
one_inside src o t n (Value v) w = each_one Rule.enum_value (λ q. parse_enum_value src 4 q) Rule.enum_value o n _ w (one_value src o n _ w)
one_inside src o t n (Range x) w = each_one Rule.enum_value (λ q. parse_enum_value src 4 q) Rule.enum_range o n _ w (one_value src o n _ w)
one_inside src o t n (Other x) w = each_one Rule.enum_value (λ q. parse_enum_value src 4 q) Rule.enum_other o n _ w (one_value src o n _ w)

pub one_tag : (src : List ℕ) (o n : ℕ) (kids w : Forest) → parse_enum_tag src (node o n kids w) ≡ parse_enum_tag src (node o n kids nil)
unfolding parse_enum_tag
one_tag src o n kids w = refl

-- the values inside a range, and the tags of an enum
abbrev pub value_form : Form Tag
value_form =
    record {
      peg = enum_value;
      draw = λ c t o. draw_tag o t (taken c.at) c.value;
      Answered = Tagged enum_value;
      drawn = λ t c h. h.drawn;
      items = λ src xs w. values_items src w;
      some = eats_value;
      none = λ src xs. each_none Rule.enum_value (λ q. parse_enum_value src 4 q);
      one = λ src xs c t o w. one_inside src o t (taken c.at) c.value w;
    }

abbrev pub tag_form : Form Tag
tag_form =
    record {
      peg = enum_tag;
      draw = λ c t o. tree Rule.enum_tag o (taken c.at) (draw_tag o t (taken c.at) c.value) nil;
      Answered = Enumerated enum_tag;
      drawn = λ t c h. h.drawn;
      items = λ src xs w. each Rule.enum_tag (λ q. parse_enum_tag src q) w;
      some = eats_tag;
      none = λ src xs. each_none Rule.enum_tag (λ q. parse_enum_tag src q);
      one = λ src xs c t o w. each_one Rule.enum_tag (λ q. parse_enum_tag src q) Rule.enum_tag o (taken c.at) _ w (one_tag src o (taken c.at) _ w);
    }

-- the answer c at o, by its tag
module _ (src : List ℕ) (o : ℕ) (c : Matched Tag) where
  abbrev pub own_items : Form Tag → List Item
  own_items z = z.items src [] (z.draw c (drop o src) o)

  pub inside_value : (v : TagValue) → c.value ≡ Value v → own_items value_form ≡ value_items src kinds.ValueInRange o (taken c.at) v
  unfolding each
  inside_value v e = rw e (append-nil _ ∙ value_items_lem src kinds.ValueInRange o (taken c.at) v nil)

  pub inside_range : (x : TagRange) → c.value ≡ Range x → own_items value_form ≡ []
  unfolding each
  inside_range x e = rw e refl

  pub inside_other : (x : TagOther) → c.value ≡ Other x → own_items value_form ≡ []
  unfolding each
  inside_other x e = rw e refl

  pub tag_value : (v : TagValue) → c.value ≡ Value v → own_items tag_form ≡ value_items src kinds.Value o (taken c.at) v
  unfolding each parse_enum_tag
  tag_value v e = rw e (append-nil _ ∙ append-nil _ ∙ append-nil _ ∙ append-nil _ ∙ value_items_lem src kinds.Value o (taken c.at) v nil)

  pub tag_range : (x : TagRange) → c.value ≡ Range x → own_items tag_form ≡ range_items src o (taken c.at) x
  unfolding each parse_enum_tag
  tag_range x e = rw e (append-nil _ ∙ append-nil _ ∙ append-nil _ ∙ range_items_lem src o (taken c.at) x nil)

  pub tag_other : (x : TagOther) → c.value ≡ Other x → own_items tag_form ≡ other_items src o (taken c.at) x
  unfolding each parse_enum_tag
  tag_other x e = rw e (append-nil _ ∙ append-nil _ ∙ other_items_lem src o (taken c.at) x nil)

-- ---- what writing asks
-- the walk has come to a tag of len bytes, some, whose name has this span
pub record Placed (src : List ℕ) (at len : ℕ) (id : Span) (n : Walk) : Type 0 where
  pub came : At src at n
  pub some : 0 < len
  pub within : at + len ≤ length src
  pub name : Inside len id

pub record PlacedValue (src : List ℕ) (at len : ℕ) (v : TagValue) (n : Walk) : Type 0 where
  pub place : Placed src at len v.id n
  pub value : Inside len v.value

-- values are matched where a range's list says, which begins behind its first byte; and they end inside its bytes
pub record Braced (src : List ℕ) (at len : ℕ) (list : Option Span) : Type 0 where
  pub stands : MatchedPart enum_value_list (drop at src) list
  pub inside : (g : Span) → list ≡ Some g → (0 < g.start) × (stop value_form src (at + g.start) ≤ at + len)

pub record PlacedRange (src : List ℕ) (at len : ℕ) (x : TagRange) (n : Walk) : Type 0 where
  pub place : Placed src at len x.id n
  pub start : Inside len x.start
  pub end : Inside len x.end
  pub braces : Braced src at len x.tags

-- how many rows the values from `at` on have: a walk that writes is told, and nothing is written
pub record Counted (src : List ℕ) (at : ℕ) (n : Walk) (k : ℕ) (t t' : List ℕ) : Type 0 where
  pub rows : n.door ≡ Write → k ≡ count Table.tags (values_items src (list_nodes value_form src at))
  pub same : t' ≡ t
