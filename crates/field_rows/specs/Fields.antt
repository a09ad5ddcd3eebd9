-- The form of a list of fields, what one field's rows ask of the walk that has come there, and what its condition leaves.
use Rattle.std.specs.Prelude.{ℕ, ◌+◌, ◌-◌, ◌≤◌, ◌<◌, ◌≡◌, refl, List, [], ◌++◌, true, length, eqb, Option, None, Some}
use Rattle.std.proofs.Common.{ap, sym, ◌∙◌, append-nil}
use Rattle.meaning.specs.Choice.{pick}
use Rattle.meaning.specs.Rules.{Rule}
use Rattle.meaning.specs.Peg.{bytewise}
use Rattle.meaning.specs.Forest.{Forest, nil, tree, ◌⊕◌}
use Rattle.meaning.specs.Pdl.{identifier, alpha, checksum_field, padding_field, size_field, count_field, elementsize_field, body_field, payload_field, fixed_field, reserved_field, array_field, scalar_field, typedef_field, group_field, field_desc, field}
use Rattle.meaning.specs.Tables.{Table, Item, Lent}
use Rattle.meaning.specs.Walk.{node, parse_field, parse_field_list}
use Rattle.grammar.specs.Matching.{eats}
use Rattle.spans.specs.declared.Constraint.{Constraint}
use Rattle.spans.specs.declared.Matched.{Matched}
use Rattle.spans.specs.declared.Field.{Field}
use Rattle.spans.specs.Drawn.{draw_field}
use Rattle.spans.specs.Answers.{Fielded}
use Rattle.walk.specs.declared.Described.{Described}
use Rattle.walk.specs.declared.Number.{Number}
use Rattle.walk.specs.Kinds.{field_number}
use Rattle.walk.specs.declared.Walk.{Walk}
use Rattle.walk.specs.State.{counted, after_number, Wrote, At}
use Rattle.walk.specs.Insides.{InsideConstraint}
use Rattle.walk.specs.Lists.{Form}
use Rattle.constraint_rows.specs.Constraints.{row_end}
use Rattle.field_rows.specs.Items.{cond_number, cond_rows}

-- ---- a list of fields
pub eats_field : eats (bytewise field) ≡ true
unfolding field field_desc checksum_field padding_field size_field count_field elementsize_field body_field payload_field fixed_field reserved_field
    array_field scalar_field typedef_field group_field identifier alpha
eats_field = refl

pub no_field : (src : List ℕ) (xs : List Item) → parse_field_list src xs nil ≡ []
unfolding parse_field_list
no_field src xs = refl

-- a field says nothing of what follows it
same_field : (src : List ℕ) (xs : List Item) (s l : ℕ) (kids w : Forest) → parse_field src xs (node s l kids w) ≡ parse_field src xs (node s l kids nil)
unfolding parse_field
same_field src xs s l kids w = refl

pub own_items : (src : List ℕ) (xs : List Item) (r : Rule) (s l : ℕ) (kids : Forest)
    → parse_field_list src xs (tree r s l kids nil) ≡ parse_field src xs (node s l kids nil)
unfolding parse_field_list
own_items src xs r s l kids = append-nil _

one_more : (src : List ℕ) (xs : List Item) (r : Rule) (s l : ℕ) (kids w : Forest) → parse_field_list src xs (tree r s l kids w)
    ≡ parse_field src xs (node s l kids nil) ++ parse_field_list src (xs ++ parse_field src xs (node s l kids nil)) w
unfolding parse_field_list
one_more src xs r s l kids w = ap (λ (ys : List Item). ys ++ parse_field_list src (xs ++ ys) w) (same_field src xs s l kids w)

pub field_more : (src : List ℕ) (xs : List Item) (f : Matched Field) (t : List ℕ) (o : ℕ) (w : Forest) → parse_field_list src xs (draw_field o t f ⊕ w)
    ≡ parse_field_list src xs (draw_field o t f) ++ parse_field_list src (xs ++ parse_field_list src xs (draw_field o t f)) w
field_more src xs f t o w =
    one_more src xs Rule.field o _ _ w
    ∙ ap (λ (ys : List Item). ys ++ parse_field_list src (xs ++ ys) w) (sym (own_items src xs Rule.field o _ _))

abbrev pub field_form : Form Field
field_form =
    record {
      peg = field;
      draw = λ f t o. draw_field o t f;
      Answered = Fielded;
      drawn = λ t f h. h.drawn;
      items = λ src xs w. parse_field_list src xs w;
      some = eats_field;
      none = no_field;
      one = field_more;
    }

-- ---- the state after a description's numbers
abbrev pub noted_desc : Described → Walk → Walk
noted_desc d n = pick (eqb (field_number d.kind) 8) (after_number d.na (after_number d.nb n)) (after_number d.nb (after_number d.na n))

-- ---- what writing asks
-- ---- a condition, whose number is v: the walk has come to where it stands
abbrev pub AtCondition : List ℕ → ℕ → Option Constraint → Walk → Type 0
AtCondition src at None n = Unit {0}
AtCondition src at (Some c) n = At src (at + c.span.start) n × (InsideConstraint (length src - at) c × (counted Table.constraints n < length src))

pub record Conditioned (src : List ℕ) (at : ℕ) (cond : Option Constraint) (v : Option Number) (n : Walk) : Type 0 where
  pub within : at ≤ length src
  pub number : v ≡ cond_number src at cond
  pub stands : AtCondition src at cond n

-- and comes to where it ends
abbrev pub PastCondition : List ℕ → ℕ → Option Constraint → Walk → Walk → Type 0
PastCondition src at None n r = r ≡ n
PastCondition src at (Some c) n r = (hi : ℕ) → row_end at c ≤ hi → hi ≤ length src → counted Table.constraints n < hi → At src hi r

pub record GoesCondition (src : List ℕ) (at : ℕ) (cond : Option Constraint) (n r : Walk) (a b : Lent → Lent) : Type 0 where
  pub wrote : Wrote (cond_rows src at cond) n r a b
  pub came : PastCondition src at cond n r
