-- Fields in the order of their starts, and so their constraints: those of a group stand before the condition.
use Rattle.std.specs.Prelude.{◌≡◌, Bool, true, false, ℕ, ◌+◌, ◌≤◌, length}
use Rattle.std.proofs.Math.Path.{refl}
use Rattle.std.proofs.Common.{◌∙◌}
use mathlib.Core.List.{List, [], ◌∷◌, ◌++◌}
use native.Mathlib.Omega.{arith}
use Rattle.meaning.specs.Choice.{pick}
use Rattle.meaning.specs.Rules.{Rule, is}
use Rattle.meaning.specs.Forest.{Forest, nil, tree}
use Rattle.meaning.specs.Tables.{Table, Item, rows_of, count}
use Rattle.meaning.specs.Walk.{Part, node, part, following, each, number, numbers, value_part, constraint_number, constraint_row, parse_constraint_list, Desc, no, desc, sized, fixed, array, describe, described, parse_field, parse_field_list}
use Rattle.text.specs.PlaceLaws.{offset_is}
use Rattle.walk.specs.Steps.{count_append}
use Rattle.sound_rows.specs.Placement.{Known, Fit, bare, grown, higher, wider, upward}
use Rattle.sound_rows.specs.Slots.{Nodes, Made, nothing, some_fit, Slot, slot, slot_then, slot_or, found_node}
use Rattle.sound_rows.specs.Between.{Between, between_none, between-++, between_in, between_last, between_numbers}
use Rattle.sound_rows.proofs.BetweenTags.{constraint_number_between, constraint_row_between, constraints_between}
use Rattle.standing.specs.Kinds.{rules}

-- ---- items without a field
record Fieldless (xs : List Item) : Type 0 where
  none : count Table.fields xs ≡ 0

none-++ : {xs ys : List Item} → Fieldless xs → Fieldless ys → Fieldless (xs ++ ys)
none-++ {xs} {ys} h k = record { none = count_append Table.fields xs ys ∙ omega (arith, h.none, k.none) }

none_pick : (b : Bool) {xs : List Item} → Fieldless xs → Fieldless (pick b xs [])
unfolding rows_of
none_pick true h = h
none_pick false h = record { none = refl }

none_each : (r : Rule) (f : Part → List Item) → ((p : Part) → Fieldless (f p)) → (w : Forest) → Fieldless (each r f w)
unfolding each rows_of
none_each r f h nil = record { none = refl }
none_each r f h (tree q s l k more) = none-++ (none_pick (is r q) (h (node s l k more))) (none_each r f h more)

module _ (src : List ℕ) where
  none_number : (p : Part) → Fieldless (number src p)
  unfolding rows_of
  none_number p = none_pick p.found (record { none = refl })

  none_numbers : (ps : List Part) → Fieldless (numbers src ps)
  unfolding rows_of numbers
  none_numbers [] = record { none = refl }
  none_numbers (p ∷ ps) = none-++ (none_number p) (none_numbers ps)

  none_constraint_number : (p : Part) → Fieldless (constraint_number src p)
  unfolding constraint_number
  none_constraint_number p = none_number (value_part p.kids)

  none_constraint_row : (p : Part) → Fieldless (constraint_row src p)
  unfolding rows_of constraint_row
  none_constraint_row p = record { none = refl }

  none_constraints : (w : Forest) → Fieldless (parse_constraint_list src w)
  unfolding parse_constraint_list
  none_constraints w =
      none_each Rule.constraint (λ p. constraint_number src p ++ constraint_row src p) (λ p. none-++ (none_constraint_number p) (none_constraint_row p)) w

-- ---- descriptions: the names are made of nodes, and the group lies from lo to hi
record DescParts (P : Known) (lo hi : ℕ) (d : Desc) : Type 0 where
  a' : Made P d.a.start d.a.len
  b' : Made P d.b.start d.b.len
  c' : Made P d.c.start d.c.len
  group : Nodes P lo hi d.group

module _ {P : Known} {lo hi : ℕ} where
  parts_pick : (b : Bool) {d f : Desc} → DescParts P lo hi d → DescParts P lo hi f → DescParts P lo hi (pick b d f)
  parts_pick true h k = h
  parts_pick false h k = k

  -- so many names, and no group
  module _ (up : lo ≤ hi) (kind : ℕ) where
    one_name : {p : Part} (na nb : Part) (ints : List Part) → Made P p.start p.len → DescParts P lo hi (desc kind p no no na nb ints nil)
    one_name na nb ints h = record { a' = h; b' = nothing; c' = nothing; group = bare up }

    no_name : (na nb : Part) (ints : List Part) → DescParts P lo hi (desc kind no no no na nb ints nil)
    no_name na nb ints = record { a' = nothing; b' = nothing; c' = nothing; group = bare up }

    two_names : {p q : Part} (na nb : Part) (ints : List Part) → Made P p.start p.len → Made P q.start q.len
        → DescParts P lo hi (desc kind p q no na nb ints nil)
    two_names na nb ints h k = record { a' = h; b' = k; c' = nothing; group = bare up }

    parts_sized : {p : Part} → Made P p.start p.len → DescParts P lo hi (sized kind p)
    parts_sized {p} h = let n = part Rule.integer p.next in one_name n no (n ∷ []) h

  parts_fixed : {w : Forest} → Nodes P lo hi w → DescParts P lo hi (fixed w)
  parts_fixed {w} g =
      let v = part Rule.integer w in
      let n = part Rule.integer v.next in
      let t = slot Rule.identifier g in
      parts_pick v.found (no_name (upward g) 8 n v (v ∷ n ∷ [])) (two_names (upward g) 9 no no [] (slot_then Rule.identifier t).made t.made)

  parts_array : {p : Part} → lo ≤ hi → Slot P lo hi p → DescParts P lo hi (array p)
  parts_array {p} up id =
      let t = slot_then Rule.identifier id in
      let after = slot_or Rule.integer t in
      record { a' = id.made; b' = t.made; c' = (slot_then Rule.size_modifier after).made; group = bare up }

  parts_describe : (r : Rule) {w : Forest} → Nodes P lo hi w → DescParts P lo hi (describe r w)
  unfolding describe
  parts_describe r {w} g =
      let up : lo ≤ hi = upward g in
      let id = slot Rule.identifier g in
      let list = slot_then Rule.constraint_list id in
      let n = part Rule.integer w in
      parts_pick (is Rule.checksum_field r) (one_name up 1 no no [] id.made)
      (parts_pick (is Rule.padding_field r) (no_name up 2 n no (n ∷ []))
      (parts_pick (is Rule.size_field r) (parts_sized up 3 (slot_or Rule.body_identifier (slot_or Rule.payload_identifier id)).made)
      (parts_pick (is Rule.count_field r) (parts_sized up 4 id.made)
      (parts_pick (is Rule.elementsize_field r) (parts_sized up 5 id.made)
      (parts_pick (is Rule.body_field r) (no_name up 6 no no [])
      (parts_pick (is Rule.payload_field r) (record { a' = nothing; b' = nothing; c' = (slot Rule.size_modifier g).made; group = bare up })
      (parts_pick (is Rule.fixed_field r) (parts_fixed g)
      (parts_pick (is Rule.reserved_field r) (no_name up 10 n no (n ∷ []))
      (parts_pick (is Rule.array_field r) (parts_array up id)
      (parts_pick (is Rule.scalar_field r) (parts_sized up 12 id.made)
      (parts_pick (is Rule.typedef_field r) (two_names up 13 no no [] id.made (slot_then Rule.identifier id).made)
      (record { a' = id.made; b' = nothing; c' = nothing; group = higher id.low (wider (upward list.next) list.kids) }))))))))))))

-- a field's children: the description, and the condition behind it
record Parted (P : Known) (lo hi : ℕ) (kids : Forest) : Type 0 where
  mid : ℕ
  below : mid ≤ hi
  parts : DescParts P lo mid (described kids)
  condition : Nodes P mid hi (following kids)

parted : {P : Known} {lo hi : ℕ} {kids : Forest} → Nodes P lo hi kids → Parted P lo hi kids
parted {lo = lo} {hi} (bare h) = let z : hi ≤ hi = omega arith in record { mid = hi; below = z; parts = no_name h 0 no no []; condition = bare z }
parted (grown {r = r} {s} {l} {kids} f h i j) =
    let d = parts_describe r i in
    record { mid = s + l; below = upward j; parts = record { a' = d.a'; b' = d.b'; c' = d.c'; group = higher h d.group }; condition = j }

module _ (src : List ℕ) {P : Known} {t : Table} where
  -- a condition's items, where there is one
  if_there : {lo hi : ℕ} (p : Part) (f : Part → List Item) → lo ≤ hi → (p.found ≡ true → Between P t lo hi (f p))
      → Between P t lo hi (pick p.found (f p) [])
  if_there {lo} {hi} p f h k = go p.found k
    where
      go : (b : Bool) → (b ≡ true → Between P t lo hi (f p)) → Between P t lo hi (pick b (f p) [])
      go true k = k refl
      go false k = between_none h

  field_between : (xs : List Item) {r : Rule} {s l : ℕ} {kids : Forest} (more : Forest) → Fit rules P r s l kids → Nodes P s (s + l) kids → s + l ≤ length src
      → Between P t s (s + l) (parse_field src xs (node s l kids more))
  unfolding parse_field
  field_between xs {r} {s} {l} {kids} more f g e =
      let k = parted g in
      let d = described kids in
      let if = part Rule.constraint (following kids) in
      let at = slot Rule.constraint k.condition in
      let low : s ≤ s = omega arith in
      let up : k.mid ≤ s + l = k.below in
      let edge : at.edge ≤ s + l = upward at.next in
      let o = offset_is src s (omega (arith, e)) in
      let condition-number = if_there if (λ p. constraint_number src p) low (λ z. constraint_number_between src if low) in
      let condition-row = if_there if (λ p. constraint_row src p) up (λ z.
      between_in (at.there z).0 (omega (arith, (at.there z).1, edge))
      (constraint_row_between src if (found_node Rule.constraint k.condition z) (omega (arith, (at.there z).1, edge, e)))) in
      let group = between-++ (between_numbers src d.ints low) (constraints_between src k.parts.group (omega (arith, up, e))) in
      between_last Table.fields _ (between-++ (between-++ condition-number group) condition-row)
      (none-++ (none-++ (none_pick if.found (none_constraint_number src if)) (none-++ (none_numbers src d.ints) (none_constraints src d.group)))
      (none_pick if.found (none_constraint_row src if))).none
      (omega (arith, o)) (omega (arith, o, some_fit f))
      (k.parts.a', (k.parts.b', (k.parts.c', tt)))

  pub fields_between : (xs : List Item) {lo hi : ℕ} {w : Forest} → Nodes P lo hi w → hi ≤ length src → Between P t lo hi (parse_field_list src xs w)
  unfolding parse_field_list
  fields_between xs (bare h) e = between_none h
  fields_between xs (grown {s = s} {l} {kids} {more} f h i j) e =
      let z : s + l ≤ s + l = omega arith in
      between-++ (between_in h z (field_between xs more f i (omega (arith, upward j, e)))) (fields_between (xs ++ parse_field src xs (node s l kids more)) j e)
