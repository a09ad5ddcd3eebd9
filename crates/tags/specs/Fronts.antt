-- The front that all tags share, a name and `=` up to what stands behind the blanks, and what each kind of tag draws from there.
use Rattle.std.specs.Prelude.{ℕ, ◌≡◌, List, Option, None}
use Rattle.std.proofs.Common.{arith, sym, ◌∙◌}
use Rattle.std.proofs.Math.Path.{refl, ap, ap₂}
use Rattle.meaning.specs.declared.Match.{Match}
use Rattle.meaning.specs.declared.Match.TheVariants.{Missed, Took}
use Rattle.meaning.specs.Rules.{Rule}
use Rattle.meaning.specs.Peg.{Peg, seq, opt, join, hit, taken}
use Rattle.meaning.specs.Forest.{Forest, nil, ◌⊕◌}
use Rattle.meaning.specs.Pdl.{text, ◌~◌, ◌∣◌, skip, identifier, integer, enum_value, enum_value_list, enum_range, enum_other}
use Rattle.grammar.specs.Matching.{Steps, stay}
use Rattle.grammar.specs.Hits.{no_hit}
use Rattle.grammar.specs.Fits.{lift_0}
use Rattle.grammar.specs.Steps.{start, reads_rule}
use Rattle.grammar.specs.Drawing.{Draws, Follows, whole, then, draws_rule, first, second, retold}
use Rattle.spans.specs.declared.Matched.{Matched}
use Rattle.spans.specs.declared.Span.{Span}
use Rattle.spans.specs.declared.Tag.{Tag}
use Rattle.spans.specs.declared.Tag.TheVariants.{Value, Range, Other}
use Rattle.spans.specs.Spans.{span_of}
use Rattle.spans.specs.Drawn.{leaf_at, list_at, draw_tag}
use Rattle.spans.specs.Parts.{gap, sign, mark, number}
use Rattle.spans.specs.Answers.{Continues, MatchedPart, Tagged}
use Rattle.grammar.specs.Shared.{halted, back, afresh, second_rule}

-- the name id and `=`; b ends behind the blanks
pub record Front (t : List ℕ) (b : Match) (id : Span) : Type 0 where
  pub name : Match
  pub equals : Match
  pub name_is : Follows (Took 0 0) identifier t name (λ o. leaf_at Rule.identifier o id)
  pub equals_is : Follows name (seq skip (text "=")) t equals (λ o. nil)
  pub blanks_are : Follows equals skip t b (λ o. nil)

-- the values in braces behind a range, or none
abbrev inner : Peg
inner = opt (text "{" ~ enum_value_list ~ text "}")

-- r goes on from m over them, and tags says where their list is
abbrev pub InBraces : Match → List ℕ → Match → Option Span → Type 0
InBraces m t r tags = Continues m inner t r (λ p o. list_at enum_value_list o t p) (λ p. MatchedPart enum_value_list t p) None tags

-- r answers a range whose first value ends at low, and goes on from there
abbrev behind_low : Peg
behind_low = seq (seq skip (text "..")) (seq skip (seq integer (seq skip inner)))

pub record Ranged (label : Matched Span) (low : Match) (t : List ℕ) (r : Matched Tag) : Type 0 where
  pub goes : Steps low behind_low t r.at
  pub answers : Front t label.at label.value → Steps label.at integer t low → Tagged enum_range t r

module _ {t : List ℕ} {b : Match} {id : Span} (f : Front t b id) where
  with : {g : Peg} {x : Match} {w : ℕ → Forest} → Follows b g t x w
      → Follows (Took 0 0) (identifier ~ text "=" ~ g) t x (λ o. leaf_at Rule.identifier o id ⊕ w o)
  with h = then (then f.name_is f.equals_is) (then f.blanks_are h)

  pub other : {x : Match} → Steps b (text "..") t x → Draws enum_other t x (λ o. draw_tag o t (taken x) (Other (record { id = id })))
  unfolding enum_other
  other s = draws_rule Rule.enum_other refl (whole (with (sign s)))

  module _ {low : Match} {v : Span} (s : Steps b integer t low) (starts : v ≡ span_of b low) where
    valued : Follows (Took 0 0) (identifier ~ text "=" ~ integer) t low (λ o. leaf_at Rule.identifier o id ⊕ leaf_at Rule.integer o v)
    valued = retold (with (number s)) (λ h o. rw starts)

    pub value : Draws enum_value t low (λ o. draw_tag o t (taken low) (Value (record { id = id; value = v })))
    unfolding enum_value
    value = draws_rule Rule.enum_value refl (whole valued)

    -- where no integer stands, only the name for all others is left
    pub no_value : {y r : Match} (g : ℕ) → low ≡ Missed g → y ≡ stay b low → Steps y (text "..") t r
        → Draws (enum_range ∣ enum_value ∣ enum_other) t r (λ o. draw_tag o t (taken r) (Other (record { id = id })))
    unfolding enum_range enum_other
    no_value g e q k =
        let again : low ≡ join 0 g low = e ∙ ap Missed (omega (arith, lift_0 g)) ∙ ap (join 0 g) (sym e) in
        let no_range = reads_rule Rule.enum_range (start (halted g (halted g (halted g valued.steps e) e) e)) in
        let z = afresh g f.blanks_are.steps.fits s e q (sign k) in
        second_rule Rule.enum_other refl g (second g no_range e value again).reads e (whole (with z.follows)) z.is

    -- where no range stands behind the first value, that is the tag's
    pub no_range : {x r : Match} {w : ℕ → Forest} (g n i : ℕ) → low ≡ Took n i → Draws enum_range t x w → Steps low behind_low t x → x ≡ Missed g
        → r ≡ stay low x → Draws (enum_range ∣ enum_value ∣ enum_other) t r (λ o. draw_tag o t (taken r) (Value (record { id = id; value = v })))
    unfolding enum_value
    no_range g n i l d k e q =
        first n g (second_rule Rule.enum_value refl g d.reads e (whole valued) (q ∙ back g k e)) (q ∙ ap₂ stay l e)

    -- ---- a second integer, which ends at high
    module _ {d c high : Match} {w : Span} (dots : Steps low (seq skip (text "..")) t d) (blanks : Steps d skip t c) (h : Steps c integer t high)
        (ends : w ≡ span_of c high) where
      ranged : Follows (Took 0 0) (identifier ~ text "=" ~ integer ~ text ".." ~ integer) t high
          (λ o. leaf_at Rule.identifier o id ⊕ leaf_at Rule.integer o v ⊕ leaf_at Rule.integer o w)
      ranged = retold (then (then valued (mark dots)) (then (gap blanks) (number h))) (λ k o. rw ends)

      pub range : {m r : Match} {tags : Option Span} → Steps high skip t m → InBraces m t r tags
          → Draws enum_range t r (λ o. draw_tag o t (taken r) (Range (record { id = id; start = v; end = w; tags = tags })))
      unfolding enum_range
      range k l = draws_rule Rule.enum_range refl (whole (then ranged (then (gap k) l.drawn)))

      -- where none stands, no range does
      pub no_end : {x : ℕ → Forest} (g : ℕ) → high ≡ Missed g → Draws enum_range t high x
      unfolding enum_range
      no_end g e = record { reads = reads_rule Rule.enum_range (start (halted g ranged.steps e)); draws = λ k. no_hit g (sym (ap hit e) ∙ k) }
