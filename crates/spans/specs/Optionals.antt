-- A part that may be absent, as the walk takes it from the nodes, whatever follows it.
use Rattle.std.specs.Prelude.{ℕ, ◌+◌, ◌≡◌, refl, Bool, true, false, Option, None, Some}
use Rattle.std.proofs.Common.{ap, ◌∙◌}
use Rattle.meaning.specs.Choice.{pick}
use Rattle.meaning.specs.Rules.{Rule, is}
use Rattle.meaning.specs.Forest.{Forest, nil, tree, ◌⊕◌}
use Rattle.meaning.specs.Walk as W
use Rattle.spans.specs.declared.Span.{Span}
use Rattle.spans.specs.Drawn.{draw_part}

-- a part of the text at o, as the walk takes it before w
abbrev pub before : ℕ → Forest → Option Span → W.Part
before o w None = W.absent w
before o w (Some s) = W.node (o + s.start) s.len nil w

-- the first node, if there is one, is not of the rule r
abbrev pub NotFirst : Rule → Forest → Type 0
NotFirst r nil = Unit {0}
NotFirst r (tree q s l k more) = is r q ≡ false

module _ (r : Rule) where
  -- no part where another rule's node, or none, stands first
  pub part_absent : (w : Forest) → NotFirst r w → W.part r w ≡ W.absent w
  part_absent nil h = refl
  part_absent (tree q s l k more) h = ap (λ (b : Bool). pick b (W.node s l k more) (W.absent (tree q s l k more))) h

  pub not_first : (k : Rule) (o : ℕ) (w : Forest) (v : Option Span) → is r k ≡ false → NotFirst r w → NotFirst r (draw_part k o v ⊕ w)
  not_first k o w None n h = h
  not_first k o w (Some s) n h = n

  -- a part of the rule, or what follows
  pub part_here : (o : ℕ) (w : Forest) (v : Option Span) → is r r ≡ true → NotFirst r w → W.part r (draw_part r o v ⊕ w) ≡ before o w v
  part_here o w None e h = part_absent w h
  part_here o w (Some s) e h = ap (λ (b : Bool). pick b (W.node (o + s.start) s.len nil w) (W.absent (tree r (o + s.start) s.len nil w))) e

next_is : (o : ℕ) (w : Forest) (v : Option Span) → (before o w v).next ≡ w
next_is o w None = refl
next_is o w (Some s) = refl

-- what stands behind a part
pub part_behind : (r : Rule) (o : ℕ) (w : Forest) (v : Option Span) (p q : W.Part) → p ≡ before o w v → W.part r w ≡ q → W.part r p.next ≡ q
part_behind r o w v p q e f = ap (λ (x : W.Part). W.part r x.next) e ∙ ap (W.part r) (next_is o w v) ∙ f
