-- What holds of every row among items; and the parts of the walk of which it holds if it asks nothing of tags, constraints and comments.
use Prim.Native.Nat.{ℕ, zero, suc, ◌<◌}
use Rattle.std.proofs.Common.{arith, sym}
use Rattle.std.specs.Prelude.{◌≡◌, Bool, get_or}
use Rattle.std.proofs.Math.Path.{refl, subst}
use Rattle.std.proofs.Math.Bool.{true, false}
use mathlib.Core.List.{List, [], ◌∷◌, ◌++◌}
use Rattle.std.proofs.Math.Dec.{eqb}
use Rattle.std.proofs.Math.ListN.{length}
use Rattle.meaning.specs.Choice.{pick}
use Rattle.meaning.specs.Rules.{Rule, is}
use Rattle.meaning.specs.Forest.{Forest, nil, tree}
use Rattle.meaning.specs.Convert.{convert, reason_of}
use Rattle.meaning.specs.Tables.{Table, Item, int, row, rows_of, count}
use Rattle.meaning.specs.Walk.{Part, node, part, absent, each, text_of, number, numbers, value_part, constraint_number, constraint_row, parse_constraint_list, tag_row, parse_enum_value, parse_enum_range, parse_enum_other, parse_enum_tag}
use Rattle.reading.specs.Sorts.{Commented, no_comment, a_comment}
use Rattle.standing.specs.MovedItems.{same_table}
use Rattle.meaning.specs.Tables as tables

-- of every row of a table, P
pub data Every (P : Table → List ℕ → Type 0) : List Item → Type 0 where
  none : Every P []
  an_int : (p r : ℕ) {xs : List Item} → Every P xs → Every P (int p r ∷ xs)
  a_row : {t : Table} {ws : List ℕ} {xs : List Item} → P t ws → Every P xs → Every P (row t ws ∷ xs)

module _ {P : Table → List ℕ → Type 0} where
  pub every-++ : {xs ys : List Item} → Every P xs → Every P ys → Every P (xs ++ ys)
  every-++ none b = b
  every-++ (an_int p r a) b = an_int p r (every-++ a b)
  every-++ (a_row h a) b = a_row h (every-++ a b)

  pub every_pick : (b : Bool) {xs : List Item} → Every P xs → Every P (pick b xs [])
  every_pick true a = a
  every_pick false a = none

  pub every_each : (r : Rule) (f : Part → List Item) → ((p : Part) → Every P (f p)) → (w : Forest) → Every P (each r f w)
  unfolding each
  every_each r f h nil = none
  every_each r f h (tree q s l k more) = every-++ (every_pick (is r q) (h (node s l k more))) (every_each r f h more)

  -- so of row k of a table
  pub at_row : (t : Table) {xs : List Item} → Every P xs → (k : ℕ) → k < count t xs → P t (get_or (rows_of t xs) k [])
  unfolding rows_of
  at_row t none k l = absurd (omega arith)
  at_row t (an_int p r a) k l = at_row t a k l
  at_row t (a_row {t = u} {ws} {xs} h a) k l = go (eqb (tables.number t) (tables.number u)) refl k (at_row t a) l
    where
      go : (b : Bool) → eqb (tables.number t) (tables.number u) ≡ b → (k : ℕ) → ((i : ℕ) → i < count t xs → P t (get_or (rows_of t xs) i []))
          → k < length (pick b (ws ∷ rows_of t xs) (rows_of t xs)) → P t (get_or (pick b (ws ∷ rows_of t xs) (rows_of t xs)) k [])
      go true e zero ih l = subst (λ (v : Table). P v ws) (sym (same_table t u e)) h
      go true e (suc k) ih l = ih k (omega arith)
      go false e k ih l = ih k l

-- ---- it asks nothing of these tables
pub record Free (P : Table → List ℕ → Type 0) : Type 0 where
  pub tags : (ws : List ℕ) → P Table.tags ws
  pub constraints : (ws : List ℕ) → P Table.constraints ws
  pub comments : (ws : List ℕ) → P Table.comments ws

pub of_comments : {P : Table → List ℕ → Type 0} → Free P → {xs : List Item} → Commented xs → Every P xs
of_comments f no_comment = none
of_comments f (a_comment {ws} n a) = a_row (f.comments ws) (of_comments f a)

-- the parts of a declaration
module _ {P : Table → List ℕ → Type 0} (f : Free P) (src : List ℕ) where
  pub of_number : (p : Part) → Every P (number src p)
  of_number p = every_pick p.found (an_int p.start (reason_of (convert (text_of src p))) none)

  pub of_numbers : (ps : List Part) → Every P (numbers src ps)
  unfolding numbers
  of_numbers [] = none
  of_numbers (p ∷ ps) = every-++ (of_number p) (of_numbers ps)

  pub of_constraint_number : (p : Part) → Every P (constraint_number src p)
  unfolding constraint_number
  of_constraint_number p = of_number (value_part p.kids)

  pub of_constraint_row : (p : Part) → Every P (constraint_row src p)
  unfolding constraint_row
  of_constraint_row p = a_row (f.constraints _) none

  pub of_constraints : (w : Forest) → Every P (parse_constraint_list src w)
  unfolding parse_constraint_list
  of_constraints w =
      every_each Rule.constraint (λ p. constraint_number src p ++ constraint_row src p) (λ p. every-++ (of_constraint_number p) (of_constraint_row p)) w

  of_tag_row : (k : ℕ) (p v e : Part) (n : ℕ) → Every P (tag_row src k p v e n)
  unfolding tag_row
  of_tag_row k p v e n = a_row (f.tags _) none

  of_enum_value : (k : ℕ) (p : Part) → Every P (parse_enum_value src k p)
  unfolding parse_enum_value
  of_enum_value k p = every-++ (of_number (value_part p.kids)) (of_tag_row k p (value_part p.kids) (absent nil) 0)

  of_enum_range : (p : Part) → Every P (parse_enum_range src p)
  unfolding parse_enum_range
  of_enum_range p =
      let least = value_part p.kids in
      let most = part Rule.integer least.next in
      let w = (part Rule.enum_value_list most.next).kids in
      let inner = each Rule.enum_value (λ q. parse_enum_value src 4 q) w in
      every-++ (every-++ (every-++ (of_number least) (of_number most)) (of_tag_row 2 p least most (count Table.tags inner)))
      (every_each Rule.enum_value (λ q. parse_enum_value src 4 q) (of_enum_value 4) w)

  of_enum_other : (p : Part) → Every P (parse_enum_other src p)
  unfolding parse_enum_other
  of_enum_other p = of_tag_row 3 p (absent nil) (absent nil) 0

  pub of_enum_tag : (p : Part) → Every P (parse_enum_tag src p)
  unfolding parse_enum_tag
  of_enum_tag p =
      every-++
      (every-++ (every_each Rule.enum_value (λ q. parse_enum_value src 1 q) (of_enum_value 1) p.kids)
      (every_each Rule.enum_range (λ q. parse_enum_range src q) of_enum_range p.kids))
      (every_each Rule.enum_other (λ q. parse_enum_other src q) of_enum_other p.kids)
