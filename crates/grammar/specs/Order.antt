-- Nodes in the order of the source: those behind the first one start behind its start.
use Rattle.std.specs.Prelude.{ℕ, ◌+◌, ◌≤◌, ◌≡◌, refl, List, Bool, true, false, drop}
use Rattle.std.proofs.Common.{arith, ap, subst, sym}
use Rattle.meaning.specs.Choice.{pick}
use Rattle.meaning.specs.Rules.{Rule, is}
use Rattle.meaning.specs.Peg.{Peg, seq, alt, rule, run, hit, taken}
use Rattle.meaning.specs.Forest.{Forest, nil, tree, ◌⊕◌, nodes}
use Rattle.meaning.specs.Walk.{following}
use Rattle.grammar.specs.Matching.{eats}
use Rattle.grammar.specs.Hits.{hit_before, hit_behind}
use Rattle.grammar.specs.Stars.{hit_pos}
use Rattle.grammar.specs.Nodes.{nodes_missed, nodes_seq, nodes_rule, nodes_alt}
use Rattle.grammar.specs.Limits.{Limits, nodes_limits}

-- ---- nodes that start at lo or behind it, side by side
abbrev pub From : ℕ → Forest → Type 0
From lo nil = Unit {0}
From lo (tree r s l k more) = (lo ≤ s) × From lo more

from_limits : (lo a b : ℕ) (w : Forest) → lo ≤ a → Limits a b w → From lo w
from_limits lo a b nil e h = tt
from_limits lo a b (tree r s l k more) e h = let x : a ≤ s = h.0 in (omega arith, from_limits lo a b more e h.1.1.1)

from-⊕ : (lo : ℕ) (v w : Forest) → From lo v → From lo w → From lo (v ⊕ w)
from-⊕ lo nil w h k = k
from-⊕ lo (tree r s l kids more) w h k = (h.0, from-⊕ lo more w h.1 k)

from_following : (lo : ℕ) (v w : Forest) → From lo (following v) → From lo w → From lo (following (v ⊕ w))
from_following lo nil nil h k = tt
from_following lo nil (tree r s l kids more) h k = k.1
from_following lo (tree r s l kids more) w h k = from-⊕ lo more w h k

-- an expression whose first node has a byte: all others stand behind its start
pub record Led (g : Peg) : Type 0 where
  pub some : eats g ≡ true
  pub behind : (o : ℕ) (t : List ℕ) → hit (run g t) ≡ true → From (o + 1) (following (nodes g o t))

pub led_rule : (r : Rule) (g : Peg) → is Rule.COMMENT r ≡ false → eats g ≡ true → Led (rule r g)
unfolding run
led_rule r g c e = record { some = e; behind = λ o t h. subst (λ (w : Forest). From (o + 1) (following w)) (sym (nodes_rule r g o t c h)) tt }

pub led_seq : {a b : Peg} → Led a → Led (seq a b)
unfolding run
led_seq {a} {b} l =
    record {
      some = ap (λ (x : Bool). pick x true (eats b)) l.some;
      behind = λ o t h.
          let ha : hit (run a t) ≡ true = hit_before (run a t) (λ u. run b u) t h in
          let hb : hit (run b (drop (taken (run a t)) t)) ≡ true = hit_behind (run a t) (λ u. run b u) t h in
          subst (λ (w : Forest). From (o + 1) (following w)) (sym (nodes_seq a b o t ha hb))
          (from_following (o + 1) (nodes a o t) (nodes b (o + taken (run a t)) (drop (taken (run a t)) t)) (l.behind o t ha)
          (from_limits (o + 1) (o + taken (run a t)) _ (nodes b (o + taken (run a t)) (drop (taken (run a t)) t))
          (omega (arith, hit_pos a t l.some ha)) (nodes_limits b (o + taken (run a t)) (drop (taken (run a t)) t))));
    }

-- the children of the first node
abbrev pub kids_of : Forest → Forest
kids_of nil = nil
kids_of (tree r s l k more) = k

-- and so it is with the children of a rule, and of a choice of rules
abbrev pub Rooted : Peg → Type 0
Rooted g = (o : ℕ) (t : List ℕ) → From (o + 1) (following (kids_of (nodes g o t)))

pub rooted_rule : (r : Rule) {g : Peg} → is Rule.COMMENT r ≡ false → Led g → Rooted (rule r g)
unfolding run
rooted_rule r {g} c l o t = go (hit (run g t)) refl
  where
    go : (b : Bool) → hit (run g t) ≡ b → From (o + 1) (following (kids_of (nodes (rule r g) o t)))
    go true h = subst (λ (w : Forest). From (o + 1) (following (kids_of w))) (sym (nodes_rule r g o t c h)) (l.behind o t h)
    go false h = subst (λ (w : Forest). From (o + 1) (following (kids_of w))) (sym (nodes_missed (rule r g) o t h)) tt

pub rooted_alt : (a b : Peg) → Rooted a → Rooted b → Rooted (alt a b)
rooted_alt a b x y o t = subst (λ (w : Forest). From (o + 1) (following (kids_of w))) (sym (nodes_alt a b o t)) (go (hit (run a t)))
  where
    go : (c : Bool) → From (o + 1) (following (kids_of (pick c (nodes a o t) (nodes b o t))))
    go true = x o t
    go false = y o t
