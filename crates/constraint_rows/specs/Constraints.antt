-- A constraint in the words of its spans: its row, what writing it needs, and the form of a list of constraints.
use Rattle.std.specs.Prelude.{ℕ, ◌+◌, ◌-◌, ◌≤◌, ◌<◌, ◌≡◌, refl, List, [], ◌∷◌, ◌++◌, true, length, Option}
use Rattle.std.proofs.Common.{ap, ap₂, sym, ◌∙◌, append-nil}
use Rattle.meaning.specs.Peg.{bytewise}
use Rattle.meaning.specs.Forest.{Forest, nil, ◌⊕◌}
use Rattle.meaning.specs.Pdl.{identifier, alpha, constraint}
use Rattle.meaning.specs.Places.{place_at}
use Rattle.meaning.specs.Tables.{Table, Item, row, Lent}
use Rattle.meaning.specs.Walk.{each, parse_constraint_list}
use Rattle.grammar.specs.Matching.{eats}
use Rattle.spans.specs.declared.Constraint.{Constraint}
use Rattle.spans.specs.Drawn.{draw_constraint}
use Rattle.spans.specs.Answers.{Constrained}
use Rattle.walk.specs.declared.Number.{Number}
use Rattle.walk.specs.declared.Walk.{Walk}
use Rattle.walk.specs.Insides.{InsideConstraint}
use Rattle.walk.specs.Terms.{integer_items, operand_number, span_name, operand_name, constraint_kind, words_of_constraint}
use Rattle.walk.specs.DrawnItems.{constraint_items, constraint_words}
use Rattle.walk.specs.State.{counted, Wrote, At}
use Rattle.walk.specs.Lists.{Form}

-- its row, of the text that stands at o
unfoldable pub row_words : List ℕ → ℕ → Constraint → List ℕ
row_words src o c =
    words_of_constraint (constraint_kind c.value) (place_at src (o + c.span.start)) (place_at src (o + c.span.start + c.span.len)) (span_name o c.id)
    (operand_name o c.value) (operand_number src o c.value)

abbrev pub row_end : ℕ → Constraint → ℕ
row_end o c = o + c.span.start + c.span.len

-- what the walk meets in it: its number, and its row
abbrev pub items_of : List ℕ → ℕ → Constraint → List Item
items_of src o c = integer_items (operand_number src o c.value) ++ row Table.constraints (row_words src o c) ∷ []

pub one_item : (src : List ℕ) (o : ℕ) (c : Constraint) (w : Forest)
    → parse_constraint_list src (draw_constraint o c ⊕ w) ≡ items_of src o c ++ parse_constraint_list src w
unfolding parse_constraint_list each row_words
one_item src o c w =
    ap₂ (λ (xs ys : List Item). xs ++ ys ++ parse_constraint_list src w)
    (constraint_items src o (o + c.span.start) c.span.len c.id w c.value)
    (constraint_words src o (o + c.span.start) c.span.len c.id w c.value)

pub none_item : (src : List ℕ) → parse_constraint_list src nil ≡ []
unfolding parse_constraint_list each
none_item src = refl

pub own_items : (src : List ℕ) (o : ℕ) (c : Constraint) → parse_constraint_list src (draw_constraint o c) ≡ items_of src o c
own_items src o c = one_item src o c nil ∙ ap (λ (xs : List Item). items_of src o c ++ xs) (none_item src) ∙ append-nil _

pub eats_constraint : eats (bytewise constraint) ≡ true
unfolding constraint identifier alpha
eats_constraint = refl

-- ---- a list of them
abbrev pub constraint_form : Form Constraint
constraint_form =
    record {
      peg = constraint;
      draw = λ c t o. draw_constraint o c.value;
      Answered = Constrained;
      drawn = λ t c h. h.drawn;
      items = λ src xs w. parse_constraint_list src w;
      some = eats_constraint;
      none = λ src xs. none_item src;
      one = λ src xs c t o w. one_item src o c.value w
          ∙ ap (λ (ys : List Item). ys ++ parse_constraint_list src w) (sym (own_items src o c.value));
    }

-- ---- what writing asks
-- it has come to where the constraint stands, whose spans lie inside the text at `at`; v is its number
pub record Placed (src : List ℕ) (at : ℕ) (c : Constraint) (v : Option Number) (n : Walk) : Type 0 where
  pub within : at ≤ length src
  pub came : At src (at + c.span.start) n
  pub number : v ≡ operand_number src at c.value
  pub inside : InsideConstraint (length src - at) c
  pub spare : counted Table.constraints n < length src

-- and goes over its row: up to any bound that has a byte for it
pub record GoesRow (src : List ℕ) (at : ℕ) (c : Constraint) (n r : Walk) (a b : Lent → Lent) : Type 0 where
  pub wrote : Wrote (row Table.constraints (row_words src at c) ∷ []) n r a b
  pub came : (hi : ℕ) → row_end at c ≤ hi → hi ≤ length src → counted Table.constraints n < hi → At src hi r
