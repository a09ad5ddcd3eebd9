-- What the walk makes of a declaration whose nodes its head's spans draw: its items, in the words of the head.
use Rattle.std.specs.Prelude.{ℕ, ◌+◌, ◌≡◌, false, Option, None, Some}
use Rattle.std.proofs.Math.Path.{refl}
use Rattle.std.proofs.Common.{ap, ap₂, ◌∙◌}
use mathlib.Core.List.{List, [], ◌∷◌, ◌++◌, append-nil}
use Rattle.meaning.specs.Choice.{pick}
use Rattle.meaning.specs.Rules.{Rule, is}
use Rattle.meaning.specs.Forest.{Forest, nil, tree, ◌⊕◌}
use Rattle.meaning.specs.Pdl.{constraint_list}
use Rattle.meaning.specs.Places.{place_at}
use Rattle.meaning.specs.Tables.{Table, Item, row, count, first_of}
use Rattle.meaning.specs.Rows.{declaration_words}
use Rattle.meaning.specs.Walk as W
use Rattle.meaning.specs.Walk.{node, part, following, each, place, name, unquoted, optional, number, parse_constraint_list, parse_enum_tag, parse_field_list, parse_declaration}
use Rattle.grammar.specs.Nodes.{⊕-assoc}
use Rattle.spans.specs.declared.Span.{Span}
use Rattle.spans.specs.declared.Header.{Header}
use Rattle.spans.specs.Drawn.{draw_part, list_at, draw_header}
use Rattle.walk.specs.Terms.{number_at, part_number, integer_items, span_name, name_words, number_words, part_name, other_name, words_of_declaration}
use Rattle.spans.specs.Optionals.{before, NotFirst, part_absent, not_first, part_here, part_behind}

-- a node of one rule, or none
pub data One (r : Rule) : Forest → Type 0 where
  none : One r nil
  one : (s l : ℕ) (kids : Forest) → One r (tree r s l kids nil)

-- what stands between a declaration's braces
pub data Members : Forest → Type 0 where
  nothing : Members nil
  tags : (s l : ℕ) (kids : Forest) → Members (tree Rule.enum_tag_list s l kids nil)
  fields : (s l : ℕ) (kids : Forest) → Members (tree Rule.field_list s l kids nil)

abbrev pub table_of : {w : Forest} → Members w → Table
table_of nothing = Table.fields
table_of (tags s l kids) = Table.tags
table_of (fields s l kids) = Table.fields

-- the items so far are xs
abbrev pub items_in : List ℕ → List Item → {w : Forest} → Members w → List Item
items_in src xs nothing = []
items_in src xs (tags s l kids) = each Rule.enum_tag (λ q. parse_enum_tag src q) kids
items_in src xs (fields s l kids) = parse_field_list src xs kids

-- the items of the head's constraints
abbrev pub header_constraints : List ℕ → ℕ → List ℕ → Header → List Item
header_constraints src o t h = parse_constraint_list src (part Rule.constraint_list (list_at constraint_list o t h.constraints)).kids

-- a declaration's items: cs are its constraints, ms its members; a and b are the counts before them, n and m their own
unfoldable pub declaration_items : List ℕ → ℕ → ℕ → ℕ → Header → List Item → List Item → ℕ → ℕ → ℕ → ℕ → List Item
declaration_items src kind o len h cs ms a n b m =
    integer_items (part_number src o h.width) ++ cs ++ ms
    ++ row Table.declarations
    (words_of_declaration kind (place_at src o) (place_at src (o + len)) (span_name o h.id) (other_name o h.parent h.function)
    (part_number src o h.width) (first_of a n) n (first_of b m) m)
    ∷ []

-- ---- what stands first among the nodes behind the head's tokens
not_first_members : (r : Rule) {w : Forest} → is r Rule.enum_tag_list ≡ false → is r Rule.field_list ≡ false → Members w → NotFirst r w
not_first_members r e f nothing = tt
not_first_members r e f (tags s l kids) = e
not_first_members r e f (fields s l kids) = f

not_first_one : (r q : Rule) {u : Forest} (w : Forest) → is r q ≡ false → One q u → NotFirst r w → NotFirst r (u ⊕ w)
not_first_one r q w e none h = h
not_first_one r q w e (one s l kids) h = e

-- ---- the head's constraints, and the members behind them
list_kids : {u : Forest} (w : Forest) → One Rule.constraint_list u → NotFirst Rule.constraint_list w → (part Rule.constraint_list (u ⊕ w)).kids
    ≡ (part Rule.constraint_list u).kids
list_kids w none h = ap (λ (p : W.Part). p.kids) (part_absent Rule.constraint_list w h)
list_kids w (one s l kids) h = refl

list_next : {u : Forest} (w : Forest) → One Rule.constraint_list u → NotFirst Rule.constraint_list w → (part Rule.constraint_list (u ⊕ w)).next ≡ w
list_next w none h = ap (λ (p : W.Part). p.next) (part_absent Rule.constraint_list w h)
list_next w (one s l kids) h = refl

-- ---- what the head's parts stand for
module _ (src : List ℕ) (o : ℕ) (w : Forest) where
  number_is : (v : Option Span) → number src (before o w v) ≡ integer_items (part_number src o v)
  unfolding number_at
  number_is None = refl
  number_is (Some s) = refl

  optional_is : (v : Option Span) → optional src (before o w v) ≡ number_words (part_number src o v)
  unfolding number_at
  optional_is None = refl
  optional_is (Some s) = refl

name_is : (o : ℕ) (w : Forest) (v : Option Span) → name (before o w v) ≡ name_words (part_name o v)
name_is o w None = refl
name_is o w (Some s) = refl

-- the function's text, or else the parent
abbrev other : W.Part → W.Part → List ℕ
other parent function = pick function.found (unquoted function) (name parent)

other_is : (o : ℕ) (u w : Forest) (p f : Option Span) → other (before o u p) (before o w f) ≡ name_words (other_name o p f)
other_is o u w p None = name_is o u p
other_is o u w p (Some s) = refl

-- ---- a declaration by what the walk takes of its head: the width's item, the words of the names and of the width, the
-- constraints' items, and the nodes behind them
unfoldable declaration_by : List ℕ → List Item → ℕ → ℕ → ℕ → List Item → List ℕ → List ℕ → List ℕ → List Item → Forest → List Item
declaration_by src xs kind o len int id second width cs w =
    let enum = part Rule.enum_tag_list w in
    let ts = each Rule.enum_tag (λ q. parse_enum_tag src q) enum.kids in
    let fs = parse_field_list src (xs ++ cs) (part Rule.field_list enum.next).kids in
    let own = pick enum.found Table.tags Table.fields in
    let n = count own (ts ++ fs) in
    let m = count Table.constraints cs in
    int ++ cs ++ ts ++ fs
    ++ row Table.declarations
    (declaration_words kind (place src o len) id second width (first_of (count own xs) n) n (first_of (count Table.constraints xs) m) m)
    ∷ []

module _ (src : List ℕ) (xs : List Item) (kind o len : ℕ) where
  by_parts : (u more : Forest) →
      let id = part Rule.identifier (following u) in
      let parent = part Rule.identifier id.next in
      let width = part Rule.integer parent.next in
      let function = part Rule.string width.next in
      let header = part Rule.constraint_list function.next in
      parse_declaration src xs kind (node o len u more)
      ≡ declaration_by src xs kind o len (number src width) (name id) (other parent function) (optional src width) (parse_constraint_list src header.kids)
      header.next
  unfolding parse_declaration declaration_by
  by_parts u more = refl

  same_by : (id : List ℕ) {i j : List Item} {p q a b : List ℕ} {cs ds : List Item} {v w : Forest} → i ≡ j → p ≡ q → a ≡ b → cs ≡ ds → v ≡ w
      → declaration_by src xs kind o len i id p a cs v ≡ declaration_by src xs kind o len j id q b ds w
  same_by id ints names widths lists nodes = cc

  by_members : (h : Header) (cs : List Item) {w : Forest} (m : Members w) →
      let width = part_number src o h.width in
      declaration_by src xs kind o len (integer_items width) (name_words (span_name o h.id)) (name_words (other_name o h.parent h.function))
      (number_words width) cs w
      ≡ declaration_items src kind o len h cs (items_in src (xs ++ cs) m) (count (table_of m) xs) (count (table_of m) (items_in src (xs ++ cs) m))
      (count Table.constraints xs) (count Table.constraints cs)
  unfolding declaration_by declaration_items words_of_declaration each parse_field_list
  by_members h cs nothing = simp append-nil
  by_members h cs (tags s l kids) = simp append-nil
  by_members h cs (fields s l kids) = simp append-nil

-- ---- the head's parts, one after the other; u are the nodes of its constraints, w those behind them
module _ (o : ℕ) (h : Header) (u w : Forest) where
  abbrev parent_nodes : Forest
  parent_nodes = draw_part Rule.identifier o h.parent

  abbrev width_nodes : Forest
  width_nodes = draw_part Rule.integer o h.width

  abbrev function_nodes : Forest
  function_nodes = draw_part Rule.string o h.function

  abbrev behind_width : Forest
  behind_width = function_nodes ⊕ (u ⊕ w)

  abbrev behind_parent : Forest
  behind_parent = width_nodes ⊕ behind_width

  abbrev behind_id : Forest
  behind_id = (parent_nodes ⊕ width_nodes ⊕ function_nodes ⊕ u) ⊕ w

  -- the parts that the walk takes
  abbrev parent : W.Part
  parent = part Rule.identifier behind_id

  abbrev width : W.Part
  width = part Rule.integer parent.next

  abbrev function : W.Part
  function = part Rule.string width.next

  in_order : behind_id ≡ parent_nodes ⊕ behind_parent
  in_order =
      ⊕-assoc parent_nodes (width_nodes ⊕ function_nodes ⊕ u) w
      ∙ ap (λ (x : Forest). parent_nodes ⊕ x) (⊕-assoc width_nodes (function_nodes ⊕ u) w ∙ ap (λ (x : Forest). width_nodes ⊕ x) (⊕-assoc function_nodes u w))

  module _ (l : One Rule.constraint_list u) (m : Members w) where
    -- none of the lists is one of these rules
    past : (r : Rule) → is r Rule.constraint_list ≡ false → is r Rule.enum_tag_list ≡ false → is r Rule.field_list ≡ false → NotFirst r (u ⊕ w)
    past r c e f = not_first_one r Rule.constraint_list w c l (not_first_members r e f m)

    parent_is : parent ≡ before o behind_parent h.parent
    parent_is =
        ap (part Rule.identifier) in_order
        ∙ part_here Rule.identifier o behind_parent h.parent refl
        (not_first Rule.identifier Rule.integer o behind_width h.width refl
        (not_first Rule.identifier Rule.string o (u ⊕ w) h.function refl (past Rule.identifier refl refl refl)))

    width_is : width ≡ before o behind_width h.width
    width_is =
        part_behind Rule.integer o behind_parent h.parent _ _ parent_is
        (part_here Rule.integer o behind_width h.width refl
        (not_first Rule.integer Rule.string o (u ⊕ w) h.function refl (past Rule.integer refl refl refl)))

    function_is : function ≡ before o (u ⊕ w) h.function
    function_is =
        part_behind Rule.string o behind_width h.width _ _ width_is
        (part_here Rule.string o (u ⊕ w) h.function refl (past Rule.string refl refl refl))

    header_is : part Rule.constraint_list function.next ≡ part Rule.constraint_list (u ⊕ w)
    header_is = part_behind Rule.constraint_list o (u ⊕ w) h.function _ _ function_is refl

-- ---- the whole declaration: the text t of its spans starts where it does, at o
pub declaration_items_lem : (src : List ℕ) (xs : List Item) (kind o len : ℕ) (t : List ℕ) (kw : Rule) (h : Header) {w : Forest} (m : Members w) (more : Forest)
    → One Rule.constraint_list (list_at constraint_list o t h.constraints) →
    let cs = header_constraints src o t h in
    parse_declaration src xs kind (node o len (draw_header kw o t h ⊕ w) more)
    ≡ declaration_items src kind o len h cs (items_in src (xs ++ cs) m) (count (table_of m) xs) (count (table_of m) (items_in src (xs ++ cs) m))
    (count Table.constraints xs) (count Table.constraints cs)
declaration_items_lem src xs kind o len t kw h {w} m more l =
    let u : Forest = list_at constraint_list o t h.constraints in
    let past_list : NotFirst Rule.constraint_list w = not_first_members Rule.constraint_list refl refl m in
    by_parts src xs kind o len (draw_header kw o t h ⊕ w) more
    ∙ same_by src xs kind o len (name_words (span_name o h.id))
    (ap (number src) (width_is o h u w l m) ∙ number_is src o (behind_width o h u w) h.width)
    (ap₂ other (parent_is o h u w l m) (function_is o h u w l m) ∙ other_is o (behind_parent o h u w) (u ⊕ w) h.parent h.function)
    (ap (optional src) (width_is o h u w l m) ∙ optional_is src o (behind_width o h u w) h.width)
    (ap (λ (p : W.Part). parse_constraint_list src p.kids) (header_is o h u w l m) ∙ ap (parse_constraint_list src) (list_kids w l past_list))
    (ap (λ (p : W.Part). p.next) (header_is o h u w l m) ∙ list_next w l past_list)
    ∙ by_members src xs kind o len h (header_constraints src o t h) m
