-- The nodes that a match leaves, part by part: each law once for every expression.
use Rattle.std.specs.Prelude.{ℕ, ◌+◌, ◌≡◌, refl, List, Bool, true, false, drop}
use Rattle.std.proofs.Common.{ap, ◌∙◌}
use Rattle.meaning.specs.declared.Match.{Match}
use Rattle.meaning.specs.Choice.{pick}
use Rattle.meaning.specs.Rules.{Rule, is}
use Rattle.meaning.specs.Peg.{Peg, seq, alt, star, opt, rule, run, hit, taken}
use Rattle.meaning.specs.Forest.{Forest, nil, tree, ◌⊕◌, Out, missed, took, outcome, join_o, after_o, or_else_o, maybe_o, again_o, note_o, eval, forest, clean, nodes}
use Rattle.grammar.specs.Matching.{eats}
use Rattle.grammar.specs.Hits.{no_hit, no_miss, hit_star}
use Rattle.grammar.specs.Agree.{same}
use Rattle.grammar.specs.Stars.{unroll_o}

-- ---- forests
pub nil_right : (w : Forest) → w ⊕ nil ≡ w
nil_right nil = refl
nil_right (tree r s l k more) = ap (tree r s l k) (nil_right more)

pub ⊕-assoc : (u v w : Forest) → (u ⊕ v) ⊕ w ≡ u ⊕ (v ⊕ w)
⊕-assoc nil v w = refl
⊕-assoc (tree r s l k more) v w = ap (tree r s l k) (⊕-assoc more v w)

pub clean-⊕ : (v w : Forest) → clean (v ⊕ w) ≡ clean v ⊕ clean w
clean-⊕ nil w = refl
clean-⊕ (tree r s l k more) w = go (is Rule.COMMENT r) (clean-⊕ more w)
  where
    go : (b : Bool) → clean (more ⊕ w) ≡ clean more ⊕ clean w
        → pick b (clean (more ⊕ w)) (tree r s l (clean k) (clean (more ⊕ w))) ≡ pick b (clean more) (tree r s l (clean k) (clean more)) ⊕ clean w
    go true e = e
    go false e = ap (tree r s l (clean k)) e

-- ---- what each kind of expression leaves
clean_join : (n f : ℕ) (w : Forest) (x : Out) → hit (outcome x) ≡ true → clean (forest (join_o n f w x)) ≡ clean w ⊕ clean (forest x)
clean_join n f w (missed g) e = no_hit g e
clean_join n f w (took k g v) e = clean-⊕ w v

clean_after : (x : Out) (q : ℕ → List ℕ → Out) (o : ℕ) (t : List ℕ) → hit (outcome x) ≡ true
    → hit (outcome (q (o + taken (outcome x)) (drop (taken (outcome x)) t))) ≡ true
    → clean (forest (after_o x q o t)) ≡ clean (forest x) ⊕ clean (forest (q (o + taken (outcome x)) (drop (taken (outcome x)) t)))
clean_after (missed f) q o t e h = no_hit f e
clean_after (took n f w) q o t e h = clean_join n f w (q (o + n) (drop n t)) h

hit_same : (g : Peg) (o : ℕ) (t : List ℕ) → hit (run g t) ≡ true → hit (outcome (eval g o t)) ≡ true
hit_same g o t h = ap hit (same g o t) ∙ h

-- nothing, where it misses
pub nodes_missed : (g : Peg) (o : ℕ) (t : List ℕ) → hit (run g t) ≡ false → nodes g o t ≡ nil
unfolding nodes
nodes_missed g o t h = go (eval g o t) (ap hit (same g o t) ∙ h)
  where
    go : (x : Out) → hit (outcome x) ≡ false → clean (forest x) ≡ nil
    go (missed f) e = refl
    go (took n f w) e = no_miss n f e

pub nodes_seq : (a b : Peg) (o : ℕ) (t : List ℕ) → hit (run a t) ≡ true → hit (run b (drop (taken (run a t)) t)) ≡ true
    → nodes (seq a b) o t ≡ nodes a o t ⊕ nodes b (o + taken (run a t)) (drop (taken (run a t)) t)
unfolding nodes eval
nodes_seq a b o t h k =
    let e : taken (outcome (eval a o t)) ≡ taken (run a t) = ap taken (same a o t) in
    let q : hit (outcome (eval b (o + taken (outcome (eval a o t))) (drop (taken (outcome (eval a o t))) t))) ≡ true
    = rw e (hit_same b (o + taken (run a t)) (drop (taken (run a t)) t) k) in
    clean_after (eval a o t) (λ i u. eval b i u) o t (hit_same a o t h) q
    ∙ ap (λ (n : ℕ). clean (forest (eval a o t)) ⊕ clean (forest (eval b (o + n) (drop n t)))) e

clean_note : (r : Rule) (o : ℕ) (x : Out) → is Rule.COMMENT r ≡ false → hit (outcome x) ≡ true
    → clean (forest (note_o r o x)) ≡ tree r o (taken (outcome x)) (clean (forest x)) nil
clean_note r o (missed f) e h = no_hit f h
clean_note r o (took n f w) e h = rw e

pub nodes_rule : (r : Rule) (g : Peg) (o : ℕ) (t : List ℕ) → is Rule.COMMENT r ≡ false → hit (run g t) ≡ true
    → nodes (rule r g) o t ≡ tree r o (taken (run g t)) (nodes g o t) nil
unfolding nodes eval
nodes_rule r g o t e h =
    clean_note r o (eval g o t) e (hit_same g o t h) ∙ ap (λ (m : Match). tree r o (taken m) (clean (forest (eval g o t))) nil) (same g o t)

clean_maybe : (x : Out) → clean (forest (maybe_o x)) ≡ pick (hit (outcome x)) (clean (forest x)) nil
clean_maybe (missed f) = refl
clean_maybe (took n f w) = refl

pub nodes_opt : (g : Peg) (o : ℕ) (t : List ℕ) → nodes (opt g) o t ≡ pick (hit (run g t)) (nodes g o t) nil
unfolding nodes eval
nodes_opt g o t = clean_maybe (eval g o t) ∙ ap (λ (m : Match). pick (hit m) (clean (forest (eval g o t))) nil) (same g o t)

clean_or : (x : Out) (q : ℕ → List ℕ → Out) (o : ℕ) (t : List ℕ)
    → clean (forest (or_else_o x q o t)) ≡ pick (hit (outcome x)) (clean (forest x)) (clean (forest (q o t)))
clean_or (took n f w) q o t = refl
clean_or (missed f) q o t = go (q o t)
  where
    go : (y : Out) → clean (forest (join_o 0 f nil y)) ≡ clean (forest y)
    go (missed g) = refl
    go (took k g v) = refl

pub nodes_alt : (a b : Peg) (o : ℕ) (t : List ℕ) → nodes (alt a b) o t ≡ pick (hit (run a t)) (nodes a o t) (nodes b o t)
unfolding nodes eval
nodes_alt a b o t =
    clean_or (eval a o t) (λ i u. eval b i u) o t
    ∙ ap (λ (m : Match). pick (hit m) (clean (forest (eval a o t))) (clean (forest (eval b o t)))) (same a o t)

clean_again : (x : Out) (q : ℕ → List ℕ → Out) (o : ℕ) (t : List ℕ) → ((i : ℕ) (u : List ℕ) → hit (outcome (q i u)) ≡ true)
    → clean (forest (again_o x q o t)) ≡ pick (hit (outcome x)) (clean (forest x) ⊕ clean (forest (q (o + taken (outcome x)) (drop (taken (outcome x)) t)))) nil
clean_again (missed f) q o t h = refl
clean_again (took n f w) q o t h = clean_join n f w (q (o + n) (drop n t)) (h (o + n) (drop n t))

pub nodes_star : (p : Peg) (o : ℕ) (t : List ℕ) → eats p ≡ true
    → nodes (star p) o t ≡ pick (hit (run p t)) (nodes p o t ⊕ nodes (star p) (o + taken (run p t)) (drop (taken (run p t)) t)) nil
unfolding nodes
nodes_star p o t e =
    ap (λ (x : Out). clean (forest x)) (unroll_o p e o t)
    ∙ clean_again (eval p o t) (λ i u. eval (star p) i u) o t (λ i u. hit_same (star p) i u (hit_star p u))
    ∙ ap
    (λ (m : Match). pick (hit m) (clean (forest (eval p o t)) ⊕ clean (forest (eval (star p) (o + taken m) (drop (taken m) t)))) nil)
    (same p o t)
