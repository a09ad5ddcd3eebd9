-- Firsts, counts and conditions of an accepted source's rows lie within their tables.
use Rattle.std.specs.Prelude.{ℕ, zero, suc, ◌+◌, ◌≤◌, ◌<◌, ◌≡◌, refl, Bool, eqb, get_or}
use native.Mathlib.Omega.{arith}
use Rattle.std.proofs.Math.Path.{sym}
use Rattle.std.proofs.Common.{ap, subst, ◌∙◌, ne_eqb}
use Rattle.std.proofs.Math.Bool.{true, false}
use mathlib.Core.List.{List, [], ◌∷◌, ◌++◌}
use Rattle.meaning.specs.Choice.{pick}
use Rattle.meaning.specs.Quoted.{bytes}
use Rattle.meaning.specs.Rules.{Rule}
use Rattle.meaning.specs.Forest.{Forest, nil, tree, clean}
use Rattle.meaning.specs.Tables.{Table, Item, rows_of, count, first_of}
use Rattle.meaning.specs.Rows.{row_kind, declaration_first, declaration_count, declaration_first_constraint, declaration_constraint_count, declaration_words, field_first_constraint, field_constraint_count, field_condition}
use Rattle.meaning.specs.Moving.{members}
use Rattle.meaning.specs.Walk.{Part, node, part, following, each, place, name, unquoted, optional, number, numbers, constraint_number, constraint_row, parse_constraint_list, parse_enum_tag, described, parse_field, parse_field_list, kinds, kind_in, parse_declaration, parse_kind, parse_toplevel, comments, items}
use Rattle.meaning.specs.Reading.{Reading, refused, accepted, reading}
use Rattle.meaning.specs.Everything.{everything}
use Rattle.walk.specs.Steps.{count_append}
use Rattle.reading.specs.Sources.{whole, declared}
use Rattle.reading.specs.Acceptance.{Accepts}
use Rattle.sound_rows.specs.EveryRow.{Every, none, a_row, Free, every-++, every_pick, every_each, at_row, of_comments, of_number, of_numbers, of_constraint_number, of_constraint_row, of_constraints, of_enum_tag}
use Rattle.standing.specs.Kinds.{tags_part, Kinded}
use Rattle.standing.specs.Files.{to_core}
use Rattle.standing.specs.MovedDeclarations.{kind_is}
use Rattle.standing.specs.WholeSources.{declared_are}
use Rattle.standing.specs.Accepting.{whole_from, read}
use Rattle.reading.specs.Sorts as sorts

-- a row's indices lie within tables of n rows. 01, 'Rows', of a declaration: 'first and count (tag rows of an enum, else field rows);
-- first and count of constraint rows of the header'; of a field: 'first and count of a group's constraints; condition's constraint
-- row plus 1, or 0'
abbrev pub Within : (Table → ℕ) → Table → List ℕ → Type 0
Within n Table.declarations ws =
    (get_or ws declaration_first 0 + get_or ws declaration_count 0 ≤ n (members (get_or ws row_kind 0)))
    × (get_or ws declaration_first_constraint 0 + get_or ws declaration_constraint_count 0 ≤ n Table.constraints)
Within n Table.fields ws =
    (get_or ws field_first_constraint 0 + get_or ws field_constraint_count 0 ≤ n Table.constraints) × (get_or ws field_condition 0 ≤ n Table.constraints)
Within n Table.tags ws = Unit {0}
Within n Table.constraints ws = Unit {0}
Within n Table.comments ws = Unit {0}

free : (n : Table → ℕ) → Free (Within n)
free n = record { tags = λ ws. tt; constraints = λ ws. tt; comments = λ ws. tt }

-- tables of n rows hold the items so far, xs, and ys behind them
record Room (n : Table → ℕ) (xs ys : List Item) : Type 0 where
  pub at : (t : Table) → count t xs + count t ys ≤ n t

first_within : (x m : ℕ) → first_of x m + m ≤ x + m
first_within x zero = omega arith
first_within x (suc m) = omega arith

module _ (src : List ℕ) (n : Table → ℕ) where
  room_first : (xs ys zs : List Item) → Room n xs (ys ++ zs) → Room n xs ys
  room_first xs ys zs h = record { at = λ t. omega (arith, h.at t, count_append t ys zs) }

  room_next : (xs ys zs : List Item) → Room n xs (ys ++ zs) → Room n (xs ++ ys) zs
  room_next xs ys zs h = record { at = λ t. omega (arith, h.at t, count_append t ys zs, count_append t xs ys) }

  -- a condition is one row
  one_row : (b : Bool) (p : Part) → pick b 1 0 ≤ count Table.constraints (pick b (constraint_row src p) [])
  unfolding constraint_row rows_of
  one_row true p = omega arith
  one_row false p = omega arith

  condition_within : (b : Bool) (x m : ℕ) → x + m + pick b 1 0 ≤ n Table.constraints → pick b (x + m + 1) 0 ≤ n Table.constraints
  condition_within true x m h = h
  condition_within false x m h = omega arith

  -- a field's items: those of the constraints cs and of the condition c are among them
  among_field : (t : Table) (a b cs c z : List Item) → count t cs + count t c ≤ count t (a ++ (b ++ cs) ++ c ++ z)
  among_field t a b cs c z =
      omega (arith, count_append t (a ++ (b ++ cs) ++ c) z, count_append t (a ++ (b ++ cs)) c, count_append t a (b ++ cs), count_append t b cs)

  of_field : (xs : List Item) (p : Part) → Room n xs (parse_field src xs p) → Every (Within n) (parse_field src xs p)
  unfolding parse_field
  of_field xs p h =
      let d = described p.kids in
      let if = part Rule.constraint (following p.kids) in
      let cs = parse_constraint_list src d.group in
      let x = count Table.constraints xs in
      let m = count Table.constraints cs in
      let c = pick if.found (constraint_row src if) [] in
      let mine : m + count Table.constraints c ≤ count Table.constraints (parse_field src xs p) =
      among_field Table.constraints (pick if.found (constraint_number src if) []) (numbers src d.ints) cs c _ in
      let fits : x + m + pick if.found 1 0 ≤ n Table.constraints = omega (arith, h.at Table.constraints, mine, one_row if.found if) in
      every-++
      (every-++
      (every-++ (every_pick if.found (of_constraint_number (free n) src if))
      (every-++ (of_numbers (free n) src d.ints) (of_constraints (free n) src d.group)))
      (every_pick if.found (of_constraint_row (free n) src if)))
      (a_row (omega (arith, fits, first_within x m), condition_within if.found x m fits) none)

  of_fields : (w : Forest) (xs : List Item) → Room n xs (parse_field_list src xs w) → Every (Within n) (parse_field_list src xs w)
  unfolding parse_field_list
  of_fields nil xs h = none
  of_fields (tree r s l k more) xs h =
      let ys = parse_field src xs (node s l k more) in
      let zs = parse_field_list src (xs ++ ys) more in
      every-++ (of_field xs (node s l k more) (room_first xs ys zs h)) (of_fields more (xs ++ ys) (room_next xs ys zs h))

  -- ---- a declaration: its own members lie in the table that its kind says
  members_within : (t u : Table) (xs ys : List Item) → t ≡ u → count t xs + count t ys ≤ n t → first_of (count t xs) (count t ys) + count t ys ≤ n u
  members_within t u xs ys e h = omega (arith, ap n (sym e), h, first_within (count t xs) (count t ys))

  -- its row has a function text or a parent in the middle
  a_declaration : (b : Bool) (kind o l f c i m : ℕ) (id parent width text : Part)
      → f + c ≤ n (members kind) → i + m ≤ n Table.constraints
      → Within n Table.declarations
      (declaration_words kind (place src o l) (name id) (pick b (unquoted text) (name parent)) (optional src width) f c i m)
  a_declaration true kind o l f c i m id parent width text h k = (h, k)
  a_declaration false kind o l f c i m id parent width text h k = (h, k)

  among_declaration : (t : Table) (a cs ts fs z : List Item) → count t cs + count t (ts ++ fs) ≤ count t (a ++ cs ++ ts ++ fs ++ z)
  among_declaration t a cs ts fs z =
      omega (
        arith,
        count_append t (a ++ cs ++ ts ++ fs) z,
        count_append t (a ++ cs ++ ts) fs,
        count_append t (a ++ cs) ts,
        count_append t a cs,
        count_append t ts fs,
      )

  of_declaration : (xs : List Item) (kind : ℕ) (p : Part) → (tags_part p.kids).found ≡ eqb kind 1 → Room n xs (parse_declaration src xs kind p)
      → Every (Within n) (parse_declaration src xs kind p)
  unfolding parse_declaration
  of_declaration xs kind p e h =
      let id = part Rule.identifier (following p.kids) in
      let parent = part Rule.identifier id.next in
      let width = part Rule.integer parent.next in
      let function = part Rule.string width.next in
      let header = part Rule.constraint_list function.next in
      let tags = part Rule.enum_tag_list header.next in
      let cs = parse_constraint_list src header.kids in
      let ts = each Rule.enum_tag (λ q. parse_enum_tag src q) tags.kids in
      let w = (part Rule.field_list tags.next).kids in
      let fs = parse_field_list src (xs ++ cs) w in
      let own : Table = pick tags.found Table.tags Table.fields in
      let m = count Table.constraints cs in
      let mine : (t : Table) → count t cs + count t (ts ++ fs) ≤ count t (parse_declaration src xs kind p) =
      λ t. among_declaration t (number src width) cs ts fs _ in
      let there : (t : Table) → count t xs + count t cs + count t (ts ++ fs) ≤ n t = λ t. omega (arith, h.at t, mine t) in
      every-++
      (every-++
      (every-++ (every-++ (of_number (free n) src width) (of_constraints (free n) src header.kids))
      (every_each Rule.enum_tag (λ q. parse_enum_tag src q) (of_enum_tag (free n) src) tags.kids))
      (of_fields w (xs ++ cs) (record { at = λ t. omega (arith, there t, count_append t ts fs, count_append t xs cs) })))
      (a_row
      (a_declaration function.found kind p.start p.len _ _ _ _ id parent width function
      (members_within own (members kind) xs (ts ++ fs) (ap (λ (z : Bool). pick z Table.tags Table.fields) e) (omega (arith, there own)))
      (omega (arith, there Table.constraints, first_within (count Table.constraints xs) m)))
      none)

  of_kind : (xs : List Item) (k : ℕ) (p : Part) → (eqb k 0 ≡ false → (tags_part p.kids).found ≡ eqb k 1) → Room n xs (parse_kind src xs k p)
      → Every (Within n) (parse_kind src xs k p)
  of_kind xs zero p e h = none
  of_kind xs (suc k) p e h = of_declaration xs (suc k) p (e (ne_eqb (suc k) 0 (λ z. omega arith))) h

  of_toplevel : (w : Forest) (xs : List Item) → Kinded w → Room n xs (parse_toplevel src xs w) → Every (Within n) (parse_toplevel src xs w)
  unfolding parse_toplevel
  of_toplevel nil xs d h = none
  of_toplevel (tree r s l k more) xs d h =
      let ys = parse_kind src xs (kind_in kinds r 1) (node s l k more) in
      let zs = parse_toplevel src (xs ++ ys) more in
      every-++ (of_kind xs (kind_in kinds r 1) (node s l k more) (λ z. d.0 z ∙ sym (kind_is r)) (room_first xs ys zs h))
      (of_toplevel more (xs ++ ys) d.1 (room_next xs ys zs h))

-- ---- an accepted source
own_room : (s : List ℕ) → Room (λ t. count t (items s (whole s))) [] (declared s)
unfolding rows_of
own_room s = record { at = λ t. omega (arith, count_append t (comments s (whole s)) (declared s)) }

within : {src : List ℕ} → Accepts src → Every (Within (λ t. count t (items src (whole src)))) (items src (whole src))
within {src} a =
    let n : Table → ℕ = λ t. count t (items src (whole src)) in
    let x = whole_from a in
    let e = declared_are x.1 in
    every-++ (of_comments (free n) (sorts.of_comments src (whole src)))
    (subst (Every (Within n)) (sym e) (of_toplevel src n (clean x.0) [] (to_core x.1).kinds (subst (Room n []) e (own_room src))))

-- row k of a table
abbrev pub nth : Table → List Item → ℕ → List ℕ
nth t xs k = get_or (rows_of t xs) k []

-- THE INDICES: the rows that a row names are there
pub record Indexed (xs : List Item) : Type 0 where
  pub at : (t : Table) (k : ℕ) → k < count t xs → Within (λ u. count u xs) t (nth t xs k)

pub accepted_indexed : {src : List ℕ} → Accepts src → Indexed (items src (whole src))
accepted_indexed a = record { at = λ t k h. at_row t (within a) k h }

pub indexed : (src : List ℕ) {e : List ℕ} {xs : List Item} → reading src ≡ accepted e xs → Indexed xs
indexed src h = subst Indexed (read h).items (accepted_indexed (read h).accepts)

-- ---- worked: an enum of 3 tags, which are more than the 2 fields; a header, a group and a condition, whose constraint is the last
abbrev sample : List Item
sample = go (reading (bytes "big_endian_packets\nenum E : 8 { A = 1, B = 2, C = 3 } packet P (x = 1) { G { y = 2 }, z: 8 if x = 3 }"))
  where
    go : Reading → List Item
    go (refused n p r) = []
    go (accepted e xs) = xs

abbrev ends : Table → ℕ → ℕ → ℕ → ℕ
ends t k first count = get_or (nth t sample k) first 0 + get_or (nth t sample k) count 0

reached : ends Table.declarations 0 declaration_first declaration_count ∷ ends Table.declarations 1 declaration_first declaration_count
    ∷ ends Table.declarations 1 declaration_first_constraint declaration_constraint_count
    ∷ ends Table.fields 0 field_first_constraint field_constraint_count ∷ get_or (nth Table.fields sample 1) field_condition 0 ∷ []
    ≡ 3 ∷ 2 ∷ 1 ∷ 2 ∷ 3 ∷ []
unfolding everything
reached = refl

rows_there : count Table.tags sample ∷ count Table.fields sample ∷ count Table.constraints sample ∷ [] ≡ 3 ∷ 2 ∷ 3 ∷ []
unfolding everything
rows_there = refl
