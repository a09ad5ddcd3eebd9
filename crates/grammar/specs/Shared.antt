-- A choice whose parts begin alike: what they share is matched once, and each part goes on from there with the mark of the parts
-- that missed before it.
use Rattle.std.specs.Prelude.{ℕ, ◌+◌, max, ◌≡◌, refl, List, false, drop}
use Rattle.std.proofs.Common.{arith, ap, ap₂, sym, ◌∙◌}
use Rattle.meaning.specs.declared.Match.{Match}
use Rattle.meaning.specs.declared.Match.TheVariants.{Missed, Took}
use Rattle.meaning.specs.Rules.{Rule, is}
use Rattle.meaning.specs.Peg.{Peg, seq, alt, rule, lift, join, after, run, bytewise, hit, taken}
use Rattle.meaning.specs.Forest.{Forest, nil, tree, nodes}
use Rattle.grammar.specs.Matching.{Within, Reads, Steps, stay}
use Rattle.grammar.specs.Hits.{hit_join, taken_here}
use Rattle.grammar.specs.Fits.{lift_0, join_join}
use Rattle.grammar.specs.Steps.{steps, link}
use Rattle.grammar.specs.Drawing.{Draws, Follows, draws_rule, second, redrawn}

-- ---- what is not tried
-- behind a part that missed
pub halted : {m : Match} {a b : Peg} {t : List ℕ} {x : Match} (f : ℕ) → Steps m a t x → x ≡ Missed f → Steps m (seq a b) t x
halted {b = b} {t = t} {x = x} f s e =
    link s (steps x b t x s.fits (e ∙ ap (λ (z : Match). after z (λ u. run (bytewise b) u) t) (sym e)))

-- ---- a match with a mark of its own place
-- m keeps its place after a try from there that came as far as g
stay_join : (m : Match) (p : List ℕ → Match) (t : List ℕ) (g : ℕ) → after m p t ≡ Missed g → stay m (Missed g) ≡ join 0 g m
stay_join (Missed f) p t g h = let e : f ≡ g = cc in ap Missed (omega (arith, e, lift_0 f))
stay_join (Took n f) p t g h = go (p (drop n t)) h
  where
    go : (x : Match) → join n f x ≡ Missed g → Took n g ≡ Took (0 + n) (max g (lift 0 f))
    go (Missed i) e = let r : max f (lift n i) ≡ g = cc in ap₂ Took (omega arith) (omega (arith, r, lift_0 f))
    go (Took k i) e = cc

pub back : {m : Match} {a : Peg} {t : List ℕ} {x : Match} (g : ℕ) → Steps m a t x → x ≡ Missed g → stay m x ≡ join 0 g m
back {m} {a} {t} g s e = ap (stay m) e ∙ stay_join m (λ u. run (bytewise a) u) t g (sym s.is ∙ e)

-- what goes on from there has the mark too
after_join : (m : Match) (q : List ℕ → Match) (t : List ℕ) (g : ℕ) → after (join 0 g m) q t ≡ join 0 g (after m q t)
after_join (Missed f) q t g = refl
after_join (Took n f) q t g =
    let z : 0 + n ≡ n = omega arith in
    ap (λ (i : ℕ). join (0 + n) (max g (lift 0 f)) (q (drop i t))) z ∙ sym (join_join 0 g n f (q (drop n t)))

-- r is what b takes where m ends, with the mark g of what was tried there before
pub record Afresh (m : Match) (g : ℕ) (b : Peg) (t : List ℕ) (r : Match) (w : ℕ → Forest) : Type 0 where
  pub alone : Match
  pub follows : Follows m b t alone w
  pub is : r ≡ join 0 g alone

pub afresh : {m : Match} {a b : Peg} {t : List ℕ} {x y r : Match} {w : ℕ → Forest} (g : ℕ) → Within m t → Steps m a t x → x ≡ Missed g → y ≡ stay m x
    → Follows y b t r w → Afresh m g b t r w
afresh {m} {a} {b} {t} {x} {y} {r} {w} g i s e q f =
    let here : y ≡ join 0 g m = q ∙ back g s e in
    let same : r ≡ join 0 g (after m (λ u. run (bytewise b) u) t)
    = f.steps.is ∙ ap (λ (z : Match). after z (λ u. run (bytewise b) u) t) here ∙ after_join m (λ u. run (bytewise b) u) t g in
    let place : taken m ≡ taken y = sym (taken_here g m) ∙ ap taken (sym here) in
    record {
      alone = after m (λ u. run (bytewise b) u) t;
      follows =
          record {
            steps = steps m b t _ i refl;
            draws = λ h o.
                ap (λ (n : ℕ). nodes (bytewise b) (o + n) (drop n t)) place
                ∙ f.draws (ap hit same ∙ hit_join 0 g (after m (λ u. run (bytewise b) u) t) ∙ h) o;
          };
      is = same;
    }

-- a rule that is tried after others that missed
pub second_rule : {a b : Peg} {t : List ℕ} {x y r : Match} {w : ℕ → Forest} (k : Rule) → is Rule.COMMENT k ≡ false → (g : ℕ) → Reads a t x → x ≡ Missed g
    → Draws b t y w → r ≡ join 0 g y → Draws (alt a (rule k b)) t r (λ o. tree k o (taken r) (w o) nil)
second_rule {y = y} {w = w} k c g h e d q =
    second g h e (redrawn (draws_rule k c d) (λ z o. ap (λ (n : ℕ). tree k o n (w o) nil) (sym (taken_here g y) ∙ ap taken (sym q)))) q
