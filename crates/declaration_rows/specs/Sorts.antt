-- Items by the tables of their rows: which tables they write, and that every row has its table's size.
use Rattle.std.specs.Prelude.{ℕ, ◌≡◌, Bool, true, false, length, Option, None, Some, Result, Ok, Err}
use Rattle.std.proofs.Common.{arith}
use Rattle.std.proofs.Math.Path.{refl}
use mathlib.Core.List.{List, [], ◌∷◌, ◌++◌}
use Rattle.meaning.specs.Choice.{pick}
use Rattle.meaning.specs.Rules.{Rule, is}
use Rattle.meaning.specs.Forest.{Forest, nil, tree}
use Rattle.meaning.specs.declared.ConversionError.{ConversionError}
use Rattle.meaning.specs.declared.ConversionError.TheVariants.{Empty, BadDigit, TooLarge}
use Rattle.meaning.specs.Convert.{convert, reason_of}
use Rattle.meaning.specs.Tables.{Table, size, Item, int, row, rows_of, count, first_bad}
use Rattle.meaning.specs.Walk.{Part, node, part, absent, following, each, text_of, number, numbers, value_part, constraint_number, constraint_row, parse_constraint_list, tag_row, parse_enum_value, parse_enum_range, parse_enum_other, parse_enum_tag, described, parse_field, parse_field_list}
use Rattle.walk.specs.State.{error_at}

-- integers, and rows of the tables that are ok
pub data Sorted (ok : Table → Bool) : List Item → Type 0 where
  none : Sorted ok []
  an_int : (p r : ℕ) {xs : List Item} → Sorted ok xs → Sorted ok (int p r ∷ xs)
  a_row : (t : Table) {ws : List ℕ} {xs : List Item} → ok t ≡ true → length ws ≡ size t → Sorted ok xs → Sorted ok (row t ws ∷ xs)

pub sorted-++ : {ok : Table → Bool} {xs ys : List Item} → Sorted ok xs → Sorted ok ys → Sorted ok (xs ++ ys)
sorted-++ none b = b
sorted-++ (an_int p r a) b = an_int p r (sorted-++ a b)
sorted-++ (a_row t n e a) b = a_row t n e (sorted-++ a b)

pub sorted_pick : {ok : Table → Bool} (b : Bool) {xs ys : List Item} → Sorted ok xs → Sorted ok ys → Sorted ok (pick b xs ys)
sorted_pick true a c = a
sorted_pick false a c = c

pub sorted_each : {ok : Table → Bool} (r : Rule) (f : Part → List Item) → ((p : Part) → Sorted ok (f p)) → (w : Forest) → Sorted ok (each r f w)
unfolding each
sorted_each r f h nil = none
sorted_each r f h (tree q s l k more) = sorted-++ (sorted_pick (is r q) (h (node s l k more)) none) (sorted_each r f h more)

-- ---- the same, where each integer has one of the converter's reasons, or 0
pub data Told (ok : Table → Bool) : List Item → Type 0 where
  no_item : Told ok []
  a_number : (p : ℕ) (v : Result ℕ ConversionError) {xs : List Item} → Told ok xs → Told ok (int p (reason_of v) ∷ xs)
  an_item : (t : Table) {ws : List ℕ} {xs : List Item} → ok t ≡ true → length ws ≡ size t → Told ok xs → Told ok (row t ws ∷ xs)

pub sorted : {ok : Table → Bool} {xs : List Item} → Told ok xs → Sorted ok xs
sorted no_item = none
sorted (a_number p v a) = an_int p (reason_of v) (sorted a)
sorted (an_item t n e a) = a_row t n e (sorted a)

pub told-++ : {ok : Table → Bool} {xs ys : List Item} → Told ok xs → Told ok ys → Told ok (xs ++ ys)
told-++ no_item b = b
told-++ (a_number p v a) b = a_number p v (told-++ a b)
told-++ (an_item t n e a) b = an_item t n e (told-++ a b)

pub told_pick : {ok : Table → Bool} (b : Bool) {xs ys : List Item} → Told ok xs → Told ok ys → Told ok (pick b xs ys)
told_pick true a c = a
told_pick false a c = c

pub told_each : {ok : Table → Bool} (r : Rule) (f : Part → List Item) → ((p : Part) → Told ok (f p)) → (w : Forest) → Told ok (each r f w)
unfolding each
told_each r f h nil = no_item
told_each r f h (tree q s l k more) = told-++ (told_pick (is r q) (h (node s l k more)) no_item) (told_each r f h more)

-- what the first bad integer says is then one of the converter's errors, or nothing
abbrev pub reason_at : Option ConversionError → ℕ
reason_at None = 0
reason_at (Some e) = reason_of (Err e)

pub error_back : {ok : Table → Bool} {xs : List Item} → Told ok xs → reason_at (error_at (first_bad xs).reason) ≡ (first_bad xs).reason
unfolding first_bad
error_back no_item = refl
error_back (a_number p (Ok n) a) = error_back a
error_back (a_number p (Err Empty) a) = refl
error_back (a_number p (Err BadDigit) a) = refl
error_back (a_number p (Err TooLarge) a) = refl
error_back (an_item t n e a) = error_back a

-- ---- the parts of a declaration: rows of fields, tags and constraints
module _ (ok : Table → Bool) (f : ok Table.fields ≡ true) (t : ok Table.tags ≡ true) (c : ok Table.constraints ≡ true) (src : List ℕ) where
  pub told_number : (p : Part) → Told ok (number src p)
  told_number p = told_pick p.found (a_number p.start (convert (text_of src p)) no_item) no_item

  told_numbers : (ps : List Part) → Told ok (numbers src ps)
  unfolding numbers
  told_numbers [] = no_item
  told_numbers (p ∷ ps) = told-++ (told_number p) (told_numbers ps)

  told_constraint_number : (p : Part) → Told ok (constraint_number src p)
  unfolding constraint_number
  told_constraint_number p = told_number (value_part p.kids)

  told_constraint_row : (p : Part) → Told ok (constraint_row src p)
  unfolding constraint_row
  told_constraint_row p = an_item Table.constraints c refl no_item

  pub told_constraints : (w : Forest) → Told ok (parse_constraint_list src w)
  unfolding parse_constraint_list
  told_constraints w =
      told_each Rule.constraint (λ p. constraint_number src p ++ constraint_row src p) (λ p. told-++ (told_constraint_number p) (told_constraint_row p)) w

  told_tag_row : (k : ℕ) (p v e : Part) (n : ℕ) → Told ok (tag_row src k p v e n)
  unfolding tag_row
  told_tag_row k p v e n = an_item Table.tags t refl no_item

  told_enum_value : (k : ℕ) (p : Part) → Told ok (parse_enum_value src k p)
  unfolding parse_enum_value
  told_enum_value k p = told-++ (told_number (value_part p.kids)) (told_tag_row k p (value_part p.kids) (absent nil) 0)

  told_enum_range : (p : Part) → Told ok (parse_enum_range src p)
  unfolding parse_enum_range
  told_enum_range p =
      let least = value_part p.kids in
      let most = part Rule.integer least.next in
      let w = (part Rule.enum_value_list most.next).kids in
      told-++
      (told-++ (told-++ (told_number least) (told_number most))
      (told_tag_row 2 p least most (count Table.tags (each Rule.enum_value (λ q. parse_enum_value src 4 q) w))))
      (told_each Rule.enum_value (λ q. parse_enum_value src 4 q) (λ q. told_enum_value 4 q) w)

  told_enum_other : (p : Part) → Told ok (parse_enum_other src p)
  unfolding parse_enum_other
  told_enum_other p = told_tag_row 3 p (absent nil) (absent nil) 0

  pub told_enum_tag : (p : Part) → Told ok (parse_enum_tag src p)
  unfolding parse_enum_tag
  told_enum_tag p =
      told-++
      (told-++ (told_each Rule.enum_value (λ q. parse_enum_value src 1 q) (λ q. told_enum_value 1 q) p.kids)
      (told_each Rule.enum_range (λ q. parse_enum_range src q) (λ q. told_enum_range q) p.kids))
      (told_each Rule.enum_other (λ q. parse_enum_other src q) (λ q. told_enum_other q) p.kids)

  told_field : (xs : List Item) (p : Part) → Told ok (parse_field src xs p)
  unfolding parse_field
  told_field xs p =
      let d = described p.kids in
      let if = part Rule.constraint (following p.kids) in
      told-++
      (told-++
      (told-++ (told_pick if.found (told_constraint_number if) no_item) (told-++ (told_numbers d.ints) (told_constraints d.group)))
      (told_pick if.found (told_constraint_row if) no_item))
      (an_item Table.fields f refl no_item)

  pub told_fields : (w : Forest) (xs : List Item) → Told ok (parse_field_list src xs w)
  unfolding parse_field_list
  told_fields nil xs = no_item
  told_fields (tree r s l k more) xs = told-++ (told_field xs (node s l k more)) (told_fields more (xs ++ parse_field src xs (node s l k more)))

  pub of_number : (p : Part) → Sorted ok (number src p)
  of_number p = sorted (told_number p)

  pub of_constraints : (w : Forest) → Sorted ok (parse_constraint_list src w)
  of_constraints w = sorted (told_constraints w)

  pub of_enum_tag : (p : Part) → Sorted ok (parse_enum_tag src p)
  of_enum_tag p = sorted (told_enum_tag p)

  pub of_fields : (w : Forest) (xs : List Item) → Sorted ok (parse_field_list src xs w)
  of_fields w xs = sorted (told_fields w xs)

-- ---- no declaration is a part of one
abbrev pub parts : Table → Bool
parts Table.declarations = false
parts Table.fields = true
parts Table.tags = true
parts Table.constraints = true
parts Table.comments = false

pub no_declarations : {xs : List Item} → Sorted parts xs → count Table.declarations xs ≡ 0
unfolding rows_of
no_declarations none = refl
no_declarations (an_int p r a) = no_declarations a
no_declarations (a_row Table.declarations e z a) = absurd (let q : ◌≡◌ {A = ℕ} 0 1 = cc in omega arith)
no_declarations (a_row Table.fields e z a) = no_declarations a
no_declarations (a_row Table.tags e z a) = no_declarations a
no_declarations (a_row Table.constraints e z a) = no_declarations a
no_declarations (a_row Table.comments e z a) = absurd (let q : ◌≡◌ {A = ℕ} 0 1 = cc in omega arith)
