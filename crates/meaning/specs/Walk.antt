-- The Rust's walk over the grammar's nodes, parse_constraint to parse_toplevel: what it meets in its order, and the parts of
-- its rows (01, 'Rows').
use Rattle.std.specs.Prelude.{ℕ, zero, suc, ◌+◌, ◌-◌, List, [], ◌∷◌, ◌++◌, Bool, true, false, take, drop}
use Rattle.meaning.specs.Choice.{pick}
use Rattle.meaning.specs.Quoted.{bytes}
use Rattle.meaning.specs.Rules.{Rule, is}
use Rattle.meaning.specs.Peg.{prefixb}
use Rattle.meaning.specs.Forest.{Forest, nil, tree, clean}
use Rattle.meaning.specs.Places.{place_at}
use Rattle.meaning.specs.Convert.{convert, reason_of, value_of}
use Rattle.meaning.specs.Tables.{Table, Item, int, row, count, first_of}
use Rattle.meaning.specs.Rows.{place_words, declaration_words, field_words, tag_words, constraint_words, comment_words, endianness_words}

-- ---- taking children apart, as `expect` and `maybe` do: the next child if it is of the rule, and what is left then
pub record Part : Type 0 where
  pub found : Bool
  pub start : ℕ
  pub len : ℕ
  pub kids : Forest
  pub next : Forest

abbrev pub absent : Forest → Part
absent w = record { found = false; start = 0; len = 0; kids = nil; next = w }

abbrev pub node : ℕ → ℕ → Forest → Forest → Part
node s l k more = record { found = true; start = s; len = l; kids = k; next = more }

abbrev pub part : Rule → Forest → Part
part r nil = absent nil
part r (tree q s l k more) = pick (is r q) (node s l k more) (absent (tree q s l k more))

-- the next child, of the first of two rules or else of the second
abbrev pub or_part : Part → Rule → Part
or_part p r = pick p.found p (part r p.next)

abbrev pub following : Forest → Forest
following nil = nil
following (tree q s l k more) = more

-- the items of the nodes of a rule, side by side
unfoldable pub each : Rule → (Part → List Item) → Forest → List Item
each r f nil = []
each r f (tree q s l k more) = pick (is r q) (f (node s l k more)) [] ++ each r f more

-- a rule's place in a list, from 1; 0 if it is not there
abbrev pub kind_in : List Rule → Rule → ℕ → ℕ
kind_in [] r k = 0
kind_in (q ∷ qs) r k = pick (is q r) k (kind_in qs r (k + 1))

-- ---- words
-- the place of n bytes from offset o on
abbrev pub place : List ℕ → ℕ → ℕ → List ℕ
place src o n = place_words (place_at src o) (place_at src (o + n))

-- a name is offset and length, 0 0 if absent
abbrev pub name : Part → List ℕ
name p = p.start ∷ p.len ∷ []

-- a text without its quotes
abbrev pub unquoted : Part → List ℕ
unquoted p = (p.start + 1) ∷ (p.len - 2) ∷ []

abbrev pub text_of : List ℕ → Part → List ℕ
text_of src p = take p.len (drop p.start src)

abbrev pub value : List ℕ → Part → ℕ
value src p = pick p.found (value_of (convert (text_of src p))) 0

-- an optional number is a flag and a number, 0 0 if absent
abbrev pub optional : List ℕ → Part → List ℕ
optional src p = pick p.found 1 0 ∷ value src p ∷ []

-- the integer as the walk meets it
abbrev pub number : List ℕ → Part → List Item
number src p = pick p.found (int p.start (reason_of (convert (text_of src p))) ∷ []) []

unfoldable pub numbers : List ℕ → List Part → List Item
numbers src [] = []
numbers src (p ∷ ps) = number src p ++ numbers src ps

-- ---- parse_constraint: identifier, then identifier or integer
abbrev pub tag_of : Forest → Part
tag_of w = part Rule.identifier (part Rule.identifier w).next

abbrev pub value_part : Forest → Part
value_part w = part Rule.integer (part Rule.identifier w).next

unfoldable pub constraint_number : List ℕ → Part → List Item
constraint_number src p = number src (value_part p.kids)

-- kinds: integer 1, tag 2
unfoldable pub constraint_row : List ℕ → Part → List Item
constraint_row src p =
    row Table.constraints
    (constraint_words (pick (tag_of p.kids).found 2 1) (place src p.start p.len) (name (part Rule.identifier p.kids))
    (name (tag_of p.kids)) (value src (value_part p.kids)))
    ∷ []

unfoldable pub parse_constraint_list : List ℕ → Forest → List Item
parse_constraint_list src w = each Rule.constraint (λ p. constraint_number src p ++ constraint_row src p) w

-- ---- tags; kinds: value 1, range 2, other 3, value inside a range 4
unfoldable pub tag_row : List ℕ → ℕ → Part → Part → Part → ℕ → List Item
tag_row src kind p v e inner =
    row Table.tags
    (tag_words kind (place src p.start p.len) (name (part Rule.identifier p.kids)) (value src v) (value src e) inner)
    ∷ []

-- parse_enum_value: identifier, integer
unfoldable pub parse_enum_value : List ℕ → ℕ → Part → List Item
parse_enum_value src kind p = number src (value_part p.kids) ++ tag_row src kind p (value_part p.kids) (absent nil) 0

-- parse_enum_range: identifier, integer, integer, enum_value_list if it is there; the inner rows follow at once
unfoldable pub parse_enum_range : List ℕ → Part → List Item
parse_enum_range src p =
    let least = value_part p.kids in
    let most = part Rule.integer least.next in
    let inner = each Rule.enum_value (λ q. parse_enum_value src 4 q) (part Rule.enum_value_list most.next).kids in
    number src least ++ number src most ++ tag_row src 2 p least most (count Table.tags inner) ++ inner

-- parse_enum_other: identifier
unfoldable pub parse_enum_other : List ℕ → Part → List Item
parse_enum_other src p = tag_row src 3 p (absent nil) (absent nil) 0

-- parse_enum_tag: the child decides
unfoldable pub parse_enum_tag : List ℕ → Part → List Item
parse_enum_tag src p =
    each Rule.enum_value (λ q. parse_enum_value src 1 q) p.kids
    ++ each Rule.enum_range (λ q. parse_enum_range src q) p.kids
    ++ each Rule.enum_other (λ q. parse_enum_other src q) p.kids

-- ---- fields: what a description says; its integers in the walk's order
pub record Desc : Type 0 where
  pub kind : ℕ
  pub a : Part
  pub b : Part
  pub c : Part
  pub na : Part
  pub nb : Part
  pub ints : List Part
  pub group : Forest

abbrev pub no : Part
no = absent nil

abbrev pub desc : ℕ → Part → Part → Part → Part → Part → List Part → Forest → Desc
desc kind a b c na nb ints group = record { kind = kind; a = a; b = b; c = c; na = na; nb = nb; ints = ints; group = group }

-- the kinds whose parts are a name and a number behind it
abbrev pub sized : ℕ → Part → Desc
sized kind id = let n = part Rule.integer id.next in desc kind id no no n no (n ∷ []) nil

-- _fixed_ = V : W has width W as number a and value V as number b; _fixed_ = T : E has enum E as name a and tag T as name b
abbrev pub fixed : Forest → Desc
fixed w =
    let v = part Rule.integer w in
    let n = part Rule.integer v.next in
    let t = part Rule.identifier w in
    pick v.found (desc 8 no no no n v (v ∷ n ∷ []) nil) (desc 9 (part Rule.identifier t.next) t no no no [] nil)

-- id, type or width, size modifier or size
abbrev pub array : Part → Desc
array id =
    let t = part Rule.identifier id.next in
    let n = part Rule.integer id.next in
    let after = (or_part t Rule.integer).next in
    let s = part Rule.integer after in
    desc 11 id t (part Rule.size_modifier after) n s (n ∷ s ∷ []) nil

-- parse_field's match on the rule of the description, of which w are the children
unfoldable pub describe : Rule → Forest → Desc
describe r w =
    let id = part Rule.identifier w in
    let n = part Rule.integer w in
    pick (is Rule.checksum_field r) (desc 1 id no no no no [] nil)
    (pick (is Rule.padding_field r) (desc 2 no no no n no (n ∷ []) nil)
    (pick (is Rule.size_field r) (sized 3 (or_part (or_part id Rule.payload_identifier) Rule.body_identifier))
    (pick (is Rule.count_field r) (sized 4 id)
    (pick (is Rule.elementsize_field r) (sized 5 id)
    (pick (is Rule.body_field r) (desc 6 no no no no no [] nil)
    (pick (is Rule.payload_field r) (desc 7 no no (part Rule.size_modifier w) no no [] nil)
    (pick (is Rule.fixed_field r) (fixed w)
    (pick (is Rule.reserved_field r) (desc 10 no no no n no (n ∷ []) nil)
    (pick (is Rule.array_field r) (array id)
    (pick (is Rule.scalar_field r) (sized 12 id)
    (pick (is Rule.typedef_field r) (desc 13 id (part Rule.identifier id.next) no no no [] nil)
    (desc 14 id no no no no [] (part Rule.constraint_list id.next).kids))))))))))))

abbrev pub described : Forest → Desc
described nil = desc 0 no no no no no [] nil
described (tree r s l k more) = describe r k

-- a field's items; those so far are xs. The condition's integer comes first, its row last.
unfoldable pub parse_field : List ℕ → List Item → Part → List Item
parse_field src xs p =
    let d = described p.kids in
    let if = part Rule.constraint (following p.kids) in
    let before = count Table.constraints xs in
    let cs = parse_constraint_list src d.group in
    let n = count Table.constraints cs in
    let condition = pick if.found (constraint_number src if) [] in
    let description = numbers src d.ints ++ cs in
    condition ++ description
    ++ pick if.found (constraint_row src if) []
    ++ row Table.fields
    (field_words d.kind (place src p.start p.len) (name d.a) (name d.b) (name d.c) (optional src d.na) (optional src d.nb)
    (first_of before n) n (pick if.found (before + n + 1) 0))
    ∷ []

unfoldable pub parse_field_list : List ℕ → List Item → Forest → List Item
parse_field_list src xs nil = []
parse_field_list src xs (tree r s l k more) =
    let ys = parse_field src xs (node s l k more) in
    ys ++ parse_field_list src (xs ++ ys) more

-- ---- parse_toplevel
-- kinds of declarations; a test declaration has none
abbrev pub kinds : List Rule
kinds = Rule.enum_declaration ∷ Rule.packet_declaration ∷ Rule.struct_declaration ∷ Rule.group_declaration ∷ Rule.checksum_declaration
    ∷ Rule.custom_field_declaration ∷ []

-- a declaration's items; those so far are xs. After the keyword and the id each kind has some of: parent, width, function text,
-- constraints, tags, fields, in this order.
unfoldable pub parse_declaration : List ℕ → List Item → ℕ → Part → List Item
parse_declaration src xs kind p =
    let id = part Rule.identifier (following p.kids) in
    let parent = part Rule.identifier id.next in
    let width = part Rule.integer parent.next in
    let function = part Rule.string width.next in
    let header = part Rule.constraint_list function.next in
    let tags = part Rule.enum_tag_list header.next in
    let cs = parse_constraint_list src header.kids in
    let ts = each Rule.enum_tag (λ q. parse_enum_tag src q) tags.kids in
    let fs = parse_field_list src (xs ++ cs) (part Rule.field_list tags.next).kids in
    let own = pick tags.found Table.tags Table.fields in
    let n = count own (ts ++ fs) in
    let m = count Table.constraints cs in
    number src width ++ cs ++ ts ++ fs
    ++ row Table.declarations
    (declaration_words kind (place src p.start p.len) (name id) (pick function.found (unquoted function) (name parent)) (optional src width)
    (first_of (count own xs) n) n (first_of (count Table.constraints xs) m) m)
    ∷ []

-- the endianness line, test declarations and the end add nothing
abbrev pub parse_kind : List ℕ → List Item → ℕ → Part → List Item
parse_kind src xs zero p = []
parse_kind src xs (suc k) p = parse_declaration src xs (suc k) p

unfoldable pub parse_toplevel : List ℕ → List Item → Forest → List Item
parse_toplevel src xs nil = []
parse_toplevel src xs (tree r s l k more) =
    let ys = parse_kind src xs (kind_in kinds r 1) (node s l k more) in
    ys ++ parse_toplevel src (xs ++ ys) more

-- comments, wherever they stand; kinds: block 1, line 2
abbrev pub comment_row : List ℕ → ℕ → ℕ → List Item
comment_row src s l = row Table.comments (comment_words (pick (prefixb (bytes "/*") (drop s src)) 1 2) (place src s l)) ∷ []

unfoldable pub comments : List ℕ → Forest → List Item
comments src nil = []
comments src (tree r s l k more) = pick (is Rule.COMMENT r) (comment_row src s l) [] ++ comments src k ++ comments src more

-- all that the walk meets, in its order: comments are taken from the whole forest, all else from its children
abbrev pub items : List ℕ → Forest → List Item
items src w = comments src w ++ parse_toplevel src [] (part Rule.file (clean w)).kids

-- 1 little or 2 big
abbrev pub endianness : List ℕ → Forest → List ℕ
endianness src w =
    let line = part Rule.endianness_declaration (part Rule.file (clean w)).kids in
    endianness_words (pick (prefixb (bytes "little_endian_packets") (text_of src line)) 1 2) (place src line.start line.len)
