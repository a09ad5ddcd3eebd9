-- A part that missed in front of a choice leaves its mark and nothing else; and an optional part that missed leaves no node.
use Rattle.std.specs.Prelude.{ℕ, ◌≤◌, max, ◌≡◌, List, Bool, true, false}
use Rattle.std.proofs.Common.{arith, ap₂, ◌∙◌}
use Rattle.std.proofs.Math.Path.{refl, ap, sym}
use Rattle.meaning.specs.declared.Match.{Match}
use Rattle.meaning.specs.declared.Match.TheVariants.{Missed, Took}
use Rattle.meaning.specs.Choice.{pick, either}
use Rattle.meaning.specs.Peg.{Peg, alt, opt, lift, join, or_else, run, bytewise, hit}
use Rattle.meaning.specs.Forest.{Forest, nil, nodes}
use Rattle.grammar.specs.Matching.{Within, Steps, stay}
use Rattle.grammar.specs.Picks.{pick_true, pick_false, pick_same}
use Rattle.grammar.specs.Hits.{hit_join, hit_alt}
use Rattle.grammar.specs.Fits.{join_join}
use Rattle.grammar.specs.Steps.{reads}
use Rattle.grammar.specs.Nodes.{nodes_alt}
use Rattle.grammar.specs.Drawing.{Draws, Follows, drawn, maybe, retold}

-- an optional part that missed leaves no node
pub skipped : {m : Match} {g : Peg} {t : List ℕ} {x r : Match} (f : ℕ) → Within m t → Steps m g t x → x ≡ Missed f → r ≡ stay m x
    → Follows m (opt g) t r (λ o. nil)
skipped f i s e q = retold (maybe i (drawn s) q) (λ h o. pick_false _ _ _ (ap hit e))

-- ---- b is a behind a part that missed with the mark f
pub record Behind (f : ℕ) (a b : Peg) (t : List ℕ) : Type 0 where
  pub runs : run b t ≡ join 0 f (run a t)
  pub same_nodes : hit (run a t) ≡ true → (o : ℕ) → nodes b o t ≡ nodes a o t

or_join : (f : ℕ) (x : Match) (q : List ℕ → Match) (t : List ℕ) → or_else (join 0 f x) q t ≡ join 0 f (or_else x q t)
or_join f (Missed g) q t = sym (join_join 0 f 0 g (q t))
or_join f (Took n g) q t = refl

module _ (t : List ℕ) where
  pub behind : (f : ℕ) (a b : Peg) → run a t ≡ Missed f → Behind f b (alt a b) t
  unfolding run
  behind f a b e =
      record {
        runs = ap (λ (x : Match). or_else x (λ u. run b u) t) e;
        same_nodes = λ h o. nodes_alt a b o t ∙ pick_false _ _ _ (ap hit e);
      }

  -- with one more part
  pub behind_or : {f : ℕ} {a b : Peg} (c : Peg) → Behind f a b t → Behind f (alt a c) (alt b c) t
  unfolding run
  behind_or {f} {a} {b} c h =
      record {
        runs = ap (λ (x : Match). or_else x (λ u. run c u) t) h.runs ∙ or_join f (run a t) (λ u. run c u) t;
        same_nodes = λ k o.
            nodes_alt b c o t
            ∙ pick_same _ _ _ _ _ (ap hit h.runs ∙ hit_join 0 f (run a t)) (λ z. h.same_nodes z o)
            ∙ sym (nodes_alt a c o t);
      }

  -- with one more part that cannot match, where the mark is there already
  pub behind_none : {f : ℕ} {a b : Peg} (c : Peg) → 1 ≤ f → Behind f a b t → run c t ≡ Missed 1 → Behind f a (alt b c) t
  unfolding run
  behind_none {f} {a} {b} c i h e =
      record {
        runs = ap (λ (x : Match). or_else x (λ u. run c u) t) h.runs ∙ go (run a t);
        same_nodes = λ k o. nodes_alt b c o t ∙ pick_true _ _ _ (ap hit h.runs ∙ hit_join 0 f (run a t) ∙ k) ∙ h.same_nodes k o;
      }
    where
      go : (x : Match) → or_else (join 0 f x) (λ u. run c u) t ≡ join 0 f x
      go (Missed g) = ap (join 0 (max f (lift 0 g))) e ∙ ap Missed (omega arith)
      go (Took n g) = refl

  -- a choice of choices is one choice
  or_or : (a b c : Peg) → run (alt (alt a b) c) t ≡ run (alt a (alt b c)) t
  unfolding run
  or_or a b c = go (run a t)
    where
      go : (x : Match) → or_else (or_else x (λ u. run b u) t) (λ u. run c u) t ≡ or_else x (λ u. or_else (run b u) (λ v. run c v) u) t
      go (Missed i) = or_join i (run b t) (λ u. run c u) t
      go (Took n i) = refl

  nodes_or : (a b c : Peg) (o : ℕ) → nodes (alt (alt a b) c) o t ≡ nodes (alt a (alt b c)) o t
  nodes_or a b c o =
      nodes_alt (alt a b) c o t
      ∙ ap₂ (λ (x : Bool) (v : Forest). pick x v (nodes c o t)) (hit_alt a b t) (nodes_alt a b o t)
      ∙ go (hit (run a t)) (hit (run b t))
      ∙ ap (pick (hit (run a t)) (nodes a o t)) (sym (nodes_alt b c o t))
      ∙ sym (nodes_alt a (alt b c) o t)
    where
      go : (x y : Bool) → pick (either x y) (pick x (nodes a o t) (nodes b o t)) (nodes c o t) ≡ pick x (nodes a o t) (pick y (nodes b o t) (nodes c o t))
      go true y = refl
      go false y = refl

  pub behind_both : {f : ℕ} {a b : Peg} (c d : Peg) → Behind f a b t → Behind f (alt a (alt c d)) (alt (alt b c) d) t
  behind_both {f} {a} {b} c d h =
      let k = behind_or d (behind_or c h) in
      record {
        runs = k.runs ∙ ap (join 0 f) (or_or a c d);
        same_nodes = λ z o. k.same_nodes (ap hit (or_or a c d) ∙ z) o ∙ nodes_or a c d o;
      }

  -- so b draws what a does, only later
  pub last : {f : ℕ} {a b : Peg} {x r : Match} {w : ℕ → Forest} → Behind f (bytewise a) (bytewise b) t → Draws a t x w → r ≡ join 0 f x → Draws b t r w
  last {f} {a} {b} {x} {r} {w} h d e =
      record {
        reads = reads b t r (e ∙ ap (join 0 f) d.reads.is ∙ sym h.runs);
        draws = λ k o.
            let j : hit x ≡ true = sym (hit_join 0 f x) ∙ ap hit (sym e) ∙ k in
            h.same_nodes (ap hit (sym d.reads.is) ∙ j) o ∙ d.draws j o;
      }
