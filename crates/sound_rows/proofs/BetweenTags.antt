-- Constraints and tags in the order of their starts. A range tag's row comes before its inner rows, which start behind its name.
use Rattle.std.specs.Prelude.{◌≡◌, refl, Bool, ℕ, ◌+◌, ◌≤◌, eqb, length}
use Rattle.std.proofs.Common.{sym, subst, eqb-true}
use Rattle.std.proofs.Math.Bool.{true, false}
use mathlib.Core.List.{List, [], ◌++◌}
use native.Mathlib.Omega.{arith}
use Rattle.meaning.specs.Choice.{pick}
use Rattle.meaning.specs.Rules.{Rule, order, is}
use Rattle.meaning.specs.Forest.{Forest, nil, tree}
use Rattle.meaning.specs.Tables.{Table, Item, count}
use Rattle.meaning.specs.Walk.{Part, absent, node, part, each, value_part, constraint_number, constraint_row, parse_constraint_list, tag_row, parse_enum_value, parse_enum_range, parse_enum_other, parse_enum_tag}
use Rattle.text.specs.PlaceLaws.{offset_is}
use Rattle.text.specs.ChoiceLaws.{never}
use Rattle.sound_rows.specs.Placement.{Known, fitting, bare, grown, upward}
use Rattle.sound_rows.specs.Slots.{Nodes, Node, some, slot, slot_then, behind_first}
use Rattle.sound_rows.specs.Between.{Between, Spans, between_none, between-++, between_in, between_row, between_number, between_each}
use Rattle.standing.specs.Kinds.{rules}

-- a node of one rule is of no other
apart : (x y q : Rule) → is y x ≡ false → is x q ≡ true → is y q ≡ false
apart x y q d e = subst (λ (o : ℕ). eqb (order y) o ≡ false) (eqb-true (order x) (order q) e) d

module _ (src : List ℕ) {P : Known} {t : Table} where
  pub constraint_number_between : {lo hi : ℕ} (p : Part) → lo ≤ hi → Between P t lo hi (constraint_number src p)
  unfolding constraint_number
  constraint_number_between p h = between_number src (value_part p.kids) h

  pub constraint_row_between : Spans (length src) P t Rule.constraint (constraint_row src)
  unfolding constraint_row
  constraint_row_between p h e =
      let o = offset_is src p.start (omega (arith, e)) in
      let id = slot Rule.identifier h.kids in
      let tag = slot_then Rule.identifier id in
      between_row Table.constraints _ (omega (arith, o)) (omega (arith, o, some h)) (id.made, (tag.made, tt))

  pub constraints_between : {lo hi : ℕ} {w : Forest} → Nodes P lo hi w → hi ≤ length src → Between P t lo hi (parse_constraint_list src w)
  unfolding parse_constraint_list
  constraints_between g e =
      between_each Rule.constraint (λ p. constraint_number src p ++ constraint_row src p)
      (λ p h i.
      let z : p.start ≤ p.start = omega arith in
      between-++ (constraint_number_between p z) (constraint_row_between p h i)) g e

  -- ---- tags
  tag_row_between : {r : Rule} (kind : ℕ) (p v e : Part) (inner : ℕ) → Node P r p → p.start + p.len ≤ length src
      → Between P t p.start (p.start + 1) (tag_row src kind p v e inner)
  unfolding tag_row
  tag_row_between kind p v e inner h i =
      let o = offset_is src p.start (omega (arith, i)) in
      between_row Table.tags _ (omega (arith, o)) (omega (arith, o)) ((slot Rule.identifier h.kids).made, tt)

  enum_value_between : (kind : ℕ) → Spans (length src) P t Rule.enum_value (parse_enum_value src kind)
  unfolding parse_enum_value
  enum_value_between kind p h e =
      let a : p.start ≤ p.start = omega arith in
      let b : p.start + 1 ≤ p.start + p.len = omega (arith, some h) in
      between-++ (between_number src (value_part p.kids) a) (between_in a b (tag_row_between kind p (value_part p.kids) (absent nil) 0 h e))

  enum_range_between : Spans (length src) P t Rule.enum_range (parse_enum_range src)
  unfolding parse_enum_range
  enum_range_between p h e =
      let a : p.start ≤ p.start = omega arith in
      let least = slot Rule.integer (behind_first Rule.identifier h.kids h.fits) in
      let most = slot_then Rule.integer least in
      let list = slot_then Rule.enum_value_list most in
      let b : p.start + 1 ≤ most.edge = omega (arith, least.low, most.low) in
      let c : list.edge ≤ p.start + p.len = upward list.next in
      let from = value_part p.kids in
      let to = part Rule.integer from.next in
      let inner = each Rule.enum_value (λ q. parse_enum_value src 4 q) (part Rule.enum_value_list to.next).kids in
      between-++
      (between-++ (between-++ (between_number src from a) (between_number src to a)) (tag_row_between 2 p from to (count Table.tags inner) h e))
      (between_in b c (between_each Rule.enum_value (λ q. parse_enum_value src 4 q) (enum_value_between 4) list.kids (omega (arith, c, e))))

  enum_other_between : Spans (length src) P t Rule.enum_other (parse_enum_other src)
  unfolding parse_enum_other
  enum_other_between p h e =
      let a : p.start ≤ p.start = omega arith in
      let b : p.start + 1 ≤ p.start + p.len = omega (arith, some h) in
      between_in a b (tag_row_between 3 p (absent nil) (absent nil) 0 h e)

  -- a single node of another rule adds nothing
  other_node : (r q : Rule) (f : Part → List Item) (s l : ℕ) (kids : Forest) {lo hi : ℕ} → is r q ≡ false → lo ≤ hi
      → Between P t lo hi (each r f (tree q s l kids nil))
  unfolding each
  other_node r q f s l kids {lo} {hi} e h = go (is r q) e
    where
      go : (b : Bool) → b ≡ false → Between P t lo hi (pick b (f (node s l kids nil)) [] ++ [])
      go true e = never (sym e)
      go false e = between_none h

  pub enum_tag_between : Spans (length src) P t Rule.enum_tag (parse_enum_tag src)
  unfolding parse_enum_tag each
  enum_tag_between p h e = go h.kids h.fits e
    where
      values : Forest → List Item
      values w = each Rule.enum_value (λ q. parse_enum_value src 1 q) w

      ranges : Forest → List Item
      ranges w = each Rule.enum_range (λ q. parse_enum_range src q) w

      others : Forest → List Item
      others w = each Rule.enum_other (λ q. parse_enum_other src q) w

      go : {lo hi : ℕ} {w : Forest} → Nodes P lo hi w → fitting (order Rule.enum_tag) (rules w) ≡ true → hi ≤ length src
          → Between P t lo hi (values w ++ ranges w ++ others w)
      go (bare k) d e = between_none k
      go (grown a b i (grown a' b' i' j')) d e = never d
      go {lo} {hi} (grown {r = q} {s} {l} {kids} a b i (bare k)) d e = by (is Rule.enum_value q) (is Rule.enum_range q) refl refl
        where
          w : Forest
          w = tree q s l kids nil

          g : Nodes P lo hi w
          g = grown a b i (bare k)

          low : lo ≤ lo
          low = omega arith

          high : hi ≤ hi
          high = omega arith

          by : (x y : Bool) → is Rule.enum_value q ≡ x → is Rule.enum_range q ≡ y → Between P t lo hi (values w ++ ranges w ++ others w)
          by true y f f' =
              between-++ (between-++ (between_each Rule.enum_value (λ z. parse_enum_value src 1 z) (enum_value_between 1) g e)
              (other_node Rule.enum_range q (λ z. parse_enum_range src z) s l kids (apart Rule.enum_value Rule.enum_range q refl f) high))
              (other_node Rule.enum_other q (λ z. parse_enum_other src z) s l kids (apart Rule.enum_value Rule.enum_other q refl f) high)
          by false true f f' =
              between-++ (between-++ (other_node Rule.enum_value q (λ z. parse_enum_value src 1 z) s l kids f low)
              (between_each Rule.enum_range (λ z. parse_enum_range src z) enum_range_between g e))
              (other_node Rule.enum_other q (λ z. parse_enum_other src z) s l kids (apart Rule.enum_range Rule.enum_other q refl f') high)
          by false false f f' =
              between-++ (between-++ (other_node Rule.enum_value q (λ z. parse_enum_value src 1 z) s l kids f low)
              (other_node Rule.enum_range q (λ z. parse_enum_range src z) s l kids f' low))
              (between_each Rule.enum_other (λ z. parse_enum_other src z) enum_other_between g e)
