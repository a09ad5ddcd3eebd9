-- Matches with the nodes that they leave: what a rule's straight-line code has at hand draws the rule's forest.
use Rattle.std.specs.Prelude.{ℕ, ◌+◌, ◌-◌, max, ◌≡◌, refl, List, true, false, drop}
use Rattle.std.proofs.Common.{arith, ap, ap₂, sym, ◌∙◌, drop-drop}
use Rattle.meaning.specs.declared.Match.{Match}
use Rattle.meaning.specs.declared.Match.TheVariants.{Missed, Took}
use Rattle.meaning.specs.Choice.{pick}
use Rattle.meaning.specs.Rules.{Rule, is}
use Rattle.meaning.specs.Peg.{Peg, seq, alt, opt, rule, lift, join, after, or_else, run, bytewise, hit, taken}
use Rattle.meaning.specs.Forest.{Forest, nil, tree, ◌⊕◌, nodes}
use Rattle.grammar.specs.Matching.{Within, Reads, Steps, stay}
use Rattle.grammar.specs.Picks.{pick_false, pick_same}
use Rattle.grammar.specs.Hits.{hit_join, hit_after, hit_before, hit_behind, taken_after}
use Rattle.grammar.specs.Steps.{link, start, reads_rule, steps_rule, option, choice, tried, join_0}
use Rattle.grammar.specs.Fits.{join_join}
use Rattle.grammar.specs.Nodes.{nodes_seq, nodes_rule, nodes_opt, nodes_alt}

-- the match r of g leaves the nodes w, wherever the text stands
pub record Draws (g : Peg) (t : List ℕ) (r : Match) (w : ℕ → Forest) : Type 0 where
  pub reads : Reads g t r
  pub draws : hit r ≡ true → (o : ℕ) → nodes (bytewise g) o t ≡ w o

-- r goes on from m over g, and leaves the nodes w; o is where the text starts, not where m ends
pub record Follows (m : Match) (g : Peg) (t : List ℕ) (r : Match) (w : ℕ → Forest) : Type 0 where
  pub steps : Steps m g t r
  pub draws : hit r ≡ true → (o : ℕ) → nodes (bytewise g) (o + taken m) (drop (taken m) t) ≡ w o

-- ---- from the start
pub from_start : {g : Peg} {t : List ℕ} {r : Match} → Reads g t r → Steps (Took 0 0) g t r
from_start {g} {t} {r} h = record { is = h.is ∙ join_0 (run (bytewise g) t); fits = h.fits }

pub whole : {g : Peg} {t : List ℕ} {r : Match} {w : ℕ → Forest} → Follows (Took 0 0) g t r w → Draws g t r w
whole {g} {t} {r} {w} f =
    record { reads = start f.steps; draws = λ h o. ap (λ (i : ℕ). nodes (bytewise g) i t) (omega arith) ∙ f.draws h o }

-- what is drawn of a text, as a step from its start
pub opened : {g : Peg} {t : List ℕ} {r : Match} {w : ℕ → Forest} → Draws g t r w → Follows (Took 0 0) g t r w
opened {g} {t} {r} {w} d =
    record { steps = from_start d.reads; draws = λ h o. ap (λ (i : ℕ). nodes (bytewise g) i t) (omega arith) ∙ d.draws h o }

-- ---- single parts
pub drawn : {m : Match} {g : Peg} {t : List ℕ} {r : Match} → Steps m g t r → Follows m g t r (λ o. nodes (bytewise g) (o + taken m) (drop (taken m) t))
drawn s = record { steps = s; draws = λ h o. refl }

pub blank : {m : Match} {g : Peg} {t : List ℕ} {r : Match} → ((o : ℕ) (u : List ℕ) → nodes (bytewise g) o u ≡ nil) → Steps m g t r → Follows m g t r (λ o. nil)
blank {m} {g} {t} {r} e s = record { steps = s; draws = λ h o. e (o + taken m) (drop (taken m) t) }

pub part_taken : (m : Match) (g : Peg) (t : List ℕ) (r : Match) → Steps m g t r → hit r ≡ true → taken (run (bytewise g) (drop (taken m) t)) ≡ taken r - taken m
part_taken m g t r s h =
    let e : taken r ≡ taken m + taken (run (bytewise g) (drop (taken m) t))
    = ap taken s.is ∙ taken_after m (λ u. run (bytewise g) u) t (ap hit (sym s.is) ∙ h) in
    omega (arith, e)

pub part_hit : (m : Match) (g : Peg) (t : List ℕ) (r : Match) → Steps m g t r → hit r ≡ true → hit (run (bytewise g) (drop (taken m) t)) ≡ true
part_hit m g t r s h = hit_behind m (λ u. run (bytewise g) u) t (ap hit (sym s.is) ∙ h)

-- a token is one node
pub leaf : {m : Match} {g : Peg} {t : List ℕ} {r : Match} {k : Rule}
    → ((o : ℕ) (u : List ℕ) → hit (run (bytewise g) u) ≡ true → nodes (bytewise g) o u ≡ tree k o (taken (run (bytewise g) u)) nil nil)
    → Steps m g t r → Follows m g t r (λ o. tree k (o + taken m) (taken r - taken m) nil nil)
leaf {m} {g} {t} {r} {k} e s =
    record {
      steps = s;
      draws = λ h o.
          e (o + taken m) (drop (taken m) t) (part_hit m g t r s h)
          ∙ ap (λ (n : ℕ). tree k (o + taken m) n nil nil) (part_taken m g t r s h);
    }

-- ---- one part after another
pub then : {m : Match} {a b : Peg} {t : List ℕ} {x r : Match} {v w : ℕ → Forest} → Follows m a t x v → Follows x b t r w
    → Follows m (seq a b) t r (λ o. v o ⊕ w o)
then {m} {a} {b} {t} {x} {r} {v} {w} f g =
    record { steps = link f.steps g.steps; draws = λ h o. go h o (hit_before x (λ u. run (bytewise b) u) t (ap hit (sym g.steps.is) ∙ h)) }
  where
    go : hit r ≡ true → (o : ℕ) → hit x ≡ true → nodes (bytewise (seq a b)) (o + taken m) (drop (taken m) t) ≡ v o ⊕ w o
    go h o hx =
        let ha = part_hit m a t x f.steps hx in
        let n : ℕ = taken (run (bytewise a) (drop (taken m) t)) in
        let e : taken x ≡ taken m + taken (run (bytewise a) (drop (taken m) t))
        = ap taken f.steps.is ∙ taken_after m (λ u. run (bytewise a) u) t (ap hit (sym f.steps.is) ∙ hx) in
        let d : drop (taken (run (bytewise a) (drop (taken m) t))) (drop (taken m) t) ≡ drop (taken x) t
        = drop-drop (taken (run (bytewise a) (drop (taken m) t))) (taken m) t ∙ ap (λ (i : ℕ). drop i t) (sym e) in
        let hb : hit (run (bytewise b) (drop (taken (run (bytewise a) (drop (taken m) t))) (drop (taken m) t))) ≡ true
        = ap (λ (u : List ℕ). hit (run (bytewise b) u)) d ∙ part_hit x b t r g.steps h in
        nodes_seq (bytewise a) (bytewise b) (o + taken m) (drop (taken m) t) ha hb
        ∙ ap₂ ◌⊕◌ (f.draws hx o)
        (ap₂ (λ (i : ℕ) (u : List ℕ). nodes (bytewise b) i u) (omega (arith, e)) d ∙ g.draws h o)

-- ---- a rule's own node
pub draws_rule : {g : Peg} {t : List ℕ} {r : Match} {w : ℕ → Forest} (k : Rule) → is Rule.COMMENT k ≡ false → Draws g t r w
    → Draws (rule k g) t r (λ o. tree k o (taken r) (w o) nil)
draws_rule {g} {t} {r} {w} k c d =
    record {
      reads = reads_rule k d.reads;
      draws = λ h o.
          nodes_rule k (bytewise g) o t c (ap hit (sym d.reads.is) ∙ h)
          ∙ ap₂ (λ (n : ℕ) (v : Forest). tree k o n v nil) (ap taken (sym d.reads.is)) (d.draws h o);
    }

pub node : {m : Match} {g : Peg} {t : List ℕ} {r : Match} {w : ℕ → Forest} (k : Rule) → is Rule.COMMENT k ≡ false → Follows m g t r w
    → Follows m (rule k g) t r (λ o. tree k (o + taken m) (taken r - taken m) (w o) nil)
node {m} {g} {t} {r} {w} k c f =
    record {
      steps = steps_rule k f.steps;
      draws = λ h o.
          nodes_rule k (bytewise g) (o + taken m) (drop (taken m) t) c (part_hit m g t r f.steps h)
          ∙ ap₂ (λ (n : ℕ) (v : Forest). tree k (o + taken m) n v nil) (part_taken m g t r f.steps h) (f.draws h o);
    }

-- ---- a part that may be missing
stay_hit : (m x : Match) → hit (stay m x) ≡ true → hit m ≡ true
stay_hit (Missed f) x e = e
stay_hit (Took n f) x e = refl

pub maybe : {m : Match} {g : Peg} {t : List ℕ} {x r : Match} {w : ℕ → Forest} → Within m t → Follows m g t x w → r ≡ stay m x
    → Follows m (opt g) t r (λ o. pick (hit x) (w o) nil)
maybe {m} {g} {t} {x} {r} {w} i f e =
    record {
      steps = option i f.steps e;
      draws = λ h o.
          nodes_opt (bytewise g) (o + taken m) (drop (taken m) t)
          ∙ pick_same _ _ _ _ nil
          (sym (hit_after m (λ u. run (bytewise g) u) t (stay_hit m x (ap hit (sym e) ∙ h))) ∙ ap hit (sym f.steps.is))
          (λ z. f.draws z o);
    }

-- ---- a choice, from the start
pub first : {a b : Peg} {t : List ℕ} {x : Match} {v : ℕ → Forest} (n f : ℕ) → Draws a t x v → x ≡ Took n f → Draws (alt a b) t x v
first {a} {b} {t} {x} {v} n f d e =
    record {
      reads = choice d.reads (record { is = rw e; fits = d.reads.fits });
      draws = λ h o.
          nodes_alt (bytewise a) (bytewise b) o t
          ∙ pick_same _ true _ _ (nodes (bytewise b) o t) (ap hit (sym d.reads.is ∙ e)) (λ z. d.draws h o);
    }

pub second : {a b : Peg} {t : List ℕ} {x y r : Match} {w : ℕ → Forest} (f : ℕ) → Reads a t x → x ≡ Missed f → Draws b t y w → r ≡ join 0 f y
    → Draws (alt a b) t r w
second {a} {b} {t} {x} {y} {r} {w} f d e k q =
    record {
      reads = choice d (tried f d.fits e k.reads q);
      draws = λ h o.
          nodes_alt (bytewise a) (bytewise b) o t
          ∙ pick_false _ _ _ (ap hit (sym d.is ∙ e))
          ∙ k.draws (sym (hit_join 0 f y) ∙ ap hit (sym q) ∙ h) o;
    }

-- ---- a choice, from a match
alt_hit : (m : Match) (p q : List ℕ → Match) (t : List ℕ) (k g : ℕ) → after m p t ≡ Took k g → Took k g ≡ after m (λ u. or_else (p u) q u) t
alt_hit (Missed f) p q t k g h = cc
alt_hit (Took n f) p q t k g h = go (p (drop n t)) h
  where
    go : (x : Match) → join n f x ≡ Took k g → Took k g ≡ join n f (or_else x q (drop n t))
    go (Missed i) e = cc
    go (Took j i) e = sym e

alt_miss : (m : Match) (p q : List ℕ → Match) (t : List ℕ) (g : ℕ) → after m p t ≡ Missed g → after (stay m (Missed g)) q t ≡ after m (λ u. or_else (p u) q u) t
alt_miss (Missed f) p q t g h = refl
alt_miss (Took n f) p q t g h = go (p (drop n t)) h
  where
    go : (x : Match) → join n f x ≡ Missed g → join n g (q (drop n t)) ≡ join n f (or_else x q (drop n t))
    go (Missed i) e = let r : max f (lift n i) ≡ g = cc in ap₂ (λ (a b : ℕ). join a b (q (drop n t))) (omega arith) (sym r)
        ∙ sym (join_join n f 0 i (q (drop n t)))
    go (Took j i) e = cc

pub one : {m : Match} {a b : Peg} {t : List ℕ} {x : Match} {v : ℕ → Forest} (k g : ℕ) → Follows m a t x v → x ≡ Took k g → Follows m (alt a b) t x v
unfolding run
one {m} {a} {b} {t} {x} {v} k g f e =
    record {
      steps = record { is = e ∙ alt_hit m (λ u. run (bytewise a) u) (λ u. run (bytewise b) u) t k g (sym f.steps.is ∙ e); fits = f.steps.fits };
      draws = λ h o.
          nodes_alt (bytewise a) (bytewise b) (o + taken m) (drop (taken m) t)
          ∙ pick_same _ true _ _ _ (part_hit m a t x f.steps h) (λ z. f.draws h o);
    }

-- a missed where m had come, and b goes on from there
missed_part : (m : Match) (p : List ℕ → Match) (t : List ℕ) (g : ℕ) → hit m ≡ true → after m p t ≡ Missed g → hit (p (drop (taken m) t)) ≡ false
missed_part m p t g h e = sym (hit_after m p t h) ∙ ap hit e

stay_taken : (m : Match) (g : ℕ) → taken (stay m (Missed g)) ≡ taken m
stay_taken (Missed f) g = refl
stay_taken (Took n f) g = refl

pub other : {m : Match} {a b : Peg} {t : List ℕ} {x y r : Match} {w : ℕ → Forest} (g : ℕ) → Steps m a t x → x ≡ Missed g → y ≡ stay m x → Follows y b t r w
    → Follows m (alt a b) t r w
unfolding run
other {m} {a} {b} {t} {x} {y} {r} {w} g s e q f =
    let j : taken m ≡ taken y = sym (ap taken (q ∙ ap (stay m) e) ∙ stay_taken m g) in
    record {
      steps =
          record {
            is = f.steps.is ∙ ap (λ (z : Match). after z (λ u. run (bytewise b) u) t) (q ∙ ap (stay m) e)
                ∙ alt_miss m (λ u. run (bytewise a) u) (λ u. run (bytewise b) u) t g (sym s.is ∙ e);
            fits = f.steps.fits;
          };
      draws = λ h o.
          nodes_alt (bytewise a) (bytewise b) (o + taken m) (drop (taken m) t)
          ∙ pick_false _ _ _ (missed_part m (λ u. run (bytewise a) u) t g (stay_hit m x (ap hit (sym q)
          ∙ hit_before y (λ u. run (bytewise b) u) t (ap hit (sym f.steps.is) ∙ h))) (sym s.is ∙ e))
          ∙ ap (λ (i : ℕ). nodes (bytewise b) (o + i) (drop i t)) j
          ∙ f.draws h o;
    }

-- ---- the same nodes, told otherwise
pub retold : {m : Match} {g : Peg} {t : List ℕ} {r : Match} {v w : ℕ → Forest} → Follows m g t r v → (hit r ≡ true → (o : ℕ) → v o ≡ w o) → Follows m g t r w
retold f e = record { steps = f.steps; draws = λ h o. f.draws h o ∙ e h o }

pub redrawn : {g : Peg} {t : List ℕ} {r : Match} {v w : ℕ → Forest} → Draws g t r v → (hit r ≡ true → (o : ℕ) → v o ≡ w o) → Draws g t r w
redrawn d e = record { reads = d.reads; draws = λ h o. d.draws h o ∙ e h o }
