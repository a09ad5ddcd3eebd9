-- The kinds of a description that start with a name, drawn from what they share.
use Rattle.std.specs.Prelude.{ℕ, ◌≡◌, List}
use Rattle.std.proofs.Common.{arith, ap₂, sym, ◌∙◌}
use Rattle.std.proofs.Math.Path.{refl, ap}
use Rattle.meaning.specs.declared.Match.{Match}
use Rattle.meaning.specs.declared.Match.TheVariants.{Missed, Took}
use Rattle.meaning.specs.Choice.{pick}
use Rattle.meaning.specs.Rules.{Rule}
use Rattle.meaning.specs.Peg.{Peg, seq, opt, join, hit, taken, bytewise}
use Rattle.meaning.specs.Forest.{Forest, nil, tree, ◌⊕◌}
use Rattle.meaning.specs.Pdl.{text, ◌~◌, ◌∣◌, skip, identifier, integer, size_modifier, constraint_list, array_field, scalar_field, typedef_field, group_field}
use Rattle.grammar.specs.Matching.{Reads, Steps, stay}
use Rattle.grammar.specs.Picks.{pick_true}
use Rattle.grammar.specs.Fits.{lift_0}
use Rattle.grammar.specs.Steps.{link, start, reads_rule}
use Rattle.grammar.specs.Nodes.{nil_right}
use Rattle.grammar.specs.Drawing.{Draws, Follows, then, whole, draws_rule, second, other, retold}
use Rattle.spans.specs.declared.Matched.{Matched}
use Rattle.spans.specs.declared.FieldDesc.{FieldDesc}
use Rattle.spans.specs.declared.Span.{Span}
use Rattle.spans.specs.declared.Operand.{Operand}
use Rattle.spans.specs.declared.ArraySize.{ArraySize}
use Rattle.spans.specs.declared.ArraySize.TheVariants.{Unknown}
use Rattle.spans.specs.Spans.{span_of}
use Rattle.spans.specs.Drawn.{leaf_at, draw_operand, draw_array_size}
use Rattle.spans.specs.Parts.{gap, mark, name, number}
use Rattle.spans.specs.Answers.{Continues, Free, Described}
use Rattle.grammar.specs.Shared.{afresh, halted, second_rule}
use Rattle.fields.specs.Kinds.{EarlierMark, answers_later}
use Rattle.grammar.specs.Behind.{behind, behind_or, behind_both, last}

-- in the order of the choice
unfoldable pub named_fields : Peg
named_fields = array_field ∣ (scalar_field ∣ typedef_field) ∣ group_field

-- behind a choice that missed they are its last parts
pub or_named : {a : Peg} {t : List ℕ} {x : Match} {d r : Matched FieldDesc} (f : ℕ) → Reads a t x → x ≡ Missed f → Described named_fields t d
    → EarlierMark f d r
    → Described (a ∣ array_field ∣ scalar_field ∣ typedef_field ∣ group_field) t r
unfolding named_fields
or_named {a} {t} f h e k m =
    answers_later f k m
    (λ w v. last t (behind_or t _ (behind_both t _ _ (behind t f (bytewise a) (bytewise array_field) (sym h.is ∙ e)))) v m.later)

-- ---- an array from its element on
-- a name, a colon and an element
abbrev pub typed : Peg
typed = identifier ~ text ":" ~ (integer ∣ identifier)

-- blanks, and a size in brackets
abbrev pub brackets : Peg
brackets = seq skip (text "[") ~ opt (size_modifier ∣ integer) ~ text "]"

-- r goes on from x over these, and so does each expression that ends at x
pub record Bracketed (x : Match) (t : List ℕ) (r : Matched ArraySize) : Type 0 where
  pub answers : Continues x brackets t r.at (λ z o. draw_array_size o z) Free Unknown r.value
  pub on : {m : Match} {a : Peg} {v : ℕ → Forest} → Follows m a t x v
      → Follows m (a ~ text "[" ~ opt (size_modifier ∣ integer) ~ text "]") t r.at (λ o. v o ⊕ draw_array_size o r.value)

-- what ends at x with its brackets, whose size is kept where they took
pub closed : {m x l y r : Match} {a : Peg} {t : List ℕ} {v : ℕ → Forest} {kept : ArraySize} (found : ArraySize) → Follows m a t x v
    → Follows x (seq skip (text "[")) t l (λ o. nil) → Follows l (seq skip (opt (size_modifier ∣ integer))) t y (λ o. draw_array_size o found)
    → Follows y (seq skip (text "]")) t r (λ o. nil) → kept ≡ pick (hit r) found Unknown
    → Follows m (a ~ text "[" ~ opt (size_modifier ∣ integer) ~ text "]") t r (λ o. v o ⊕ draw_array_size o kept)
closed {r = r} {v = v} found f left size right e =
    retold (then (then (then f left) size) right)
    (λ h o.
    nil_right ((v o ⊕ nil) ⊕ draw_array_size o found)
    ∙ ap₂ ◌⊕◌ (nil_right (v o)) (ap (λ (z : ArraySize). draw_array_size o z) (sym (e ∙ pick_true (hit r) found Unknown h))))

-- an array is an element with brackets
pub arrayed : {t : List ℕ} {x : Match} {r : Matched ArraySize} {v : ℕ → Forest} → Follows (Took 0 0) typed t x v → Bracketed x t r
    → Draws array_field t r.at (λ o. tree Rule.array_field o (taken r.at) (v o ⊕ draw_array_size o r.value) nil)
unfolding array_field
arrayed f b = draws_rule Rule.array_field refl (whole (b.on f))

-- where d answers b, and its match is that of an element with the name id, r answers an array or b
pub record OrArray (d : Matched FieldDesc) (id : Span) (element : Operand) (t : List ℕ) (r : Matched FieldDesc) : Type 0 where
  pub or : {b c : Peg} (n f : ℕ) → d.at ≡ Took n f → Follows (Took 0 0) typed t d.at (λ o. leaf_at Rule.identifier o id ⊕ draw_operand o element)
      → Described b t d → Described (array_field ∣ b ∣ c) t r

-- ---- a name that ends at a, a colon, and blanks up to b
pub record Front (t : List ℕ) (a b : Match) (id : Span) : Type 0 where
  pub colon : Match
  pub name_is : Follows (Took 0 0) identifier t a (λ o. leaf_at Rule.identifier o id)
  pub colon_is : Follows a (seq skip (text ":")) t colon (λ o. nil)
  pub blanks_are : Follows colon skip t b (λ o. nil)

pub front : {t : List ℕ} {a k b : Match} {id : Span} → Steps (Took 0 0) identifier t a → id ≡ span_of (Took 0 0) a → Steps a (seq skip (text ":")) t k
    → Steps k skip t b → Front t a b id
front {k = k} ha e hk hb =
    record {
      colon = k;
      name_is = retold (name ha) (λ h o. ap (leaf_at Rule.identifier o) (sym e));
      colon_is = mark hk;
      blanks_are = gap hb;
    }

module _ {t : List ℕ} {a b : Match} {id : Span} (f : Front t a b id) where
  -- the name with what stands behind the colon
  pub with : {g : Peg} {x : Match} {w : ℕ → Forest} → Follows b g t x w
      → Follows (Took 0 0) (identifier ~ text ":" ~ g) t x (λ o. leaf_at Rule.identifier o id ⊕ w o)
  with h = then (then f.name_is f.colon_is) (then f.blanks_are h)

  pub scalar : {x : Match} {w : ℕ → Forest} → Follows b integer t x w
      → Draws scalar_field t x (λ o. tree Rule.scalar_field o (taken x) (leaf_at Rule.identifier o id ⊕ w o) nil)
  unfolding scalar_field
  scalar h = draws_rule Rule.scalar_field refl (whole (with h))

  -- a type, where no width stands
  module _ {x c y : Match} {w : ℕ → Forest} (i : ℕ) (width : Steps b integer t x) (e : x ≡ Missed i) (q : c ≡ stay b x)
      (type : Follows c identifier t y w) where
    pub typedef : Draws (scalar_field ∣ typedef_field) t y (λ o. tree Rule.typedef_field o (taken y) (leaf_at Rule.identifier o id ⊕ w o) nil)
    unfolding typedef_field
    typedef =
        let z = afresh i f.blanks_are.steps.fits width e q type in
        second_rule Rule.typedef_field refl i (scalar (number width)).reads e (whole (with z.follows)) z.is

    -- and a group, where no type stands either
    pub group : {d r : Match} {v : ℕ → Forest} (g : ℕ) → y ≡ Missed g → d ≡ stay a y
        → Follows d (seq skip (opt (text "{" ~ opt constraint_list ~ text "}"))) t r v
        → Draws named_fields t r (λ o. tree Rule.group_field o (taken r) (leaf_at Rule.identifier o id ⊕ v o) nil)
    unfolding named_fields array_field group_field
    group g h k braces =
        let again : y ≡ join 0 g y = h ∙ ap Missed (omega (arith, lift_0 g)) ∙ ap (join 0 g) (sym h) in
        let element = other i width e q type in
        let no-array = reads_rule Rule.array_field (start (halted g (halted g (halted g (with element).steps h) h) h)) in
        let z = afresh g f.name_is.steps.fits (link f.colon_is.steps (link f.blanks_are.steps element.steps)) h k braces in
        second_rule Rule.group_field refl g (second g no-array h typedef again).reads h (whole (then f.name_is z.follows)) z.is
