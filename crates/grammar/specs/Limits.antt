-- Every node of a match lies inside what the match takes, and a match inside its text, for every expression.
use Rattle.std.specs.Prelude.{ℕ, zero, suc, ◌+◌, ◌-◌, ◌≤◌, ◌≡◌, List, Bool, true, false, length, drop}
use Rattle.std.proofs.Common.{arith, subst, sym, length-drop}
use Rattle.meaning.specs.declared.Match.{Match}
use Rattle.meaning.specs.declared.Match.TheVariants.{Missed, Took}
use Rattle.meaning.specs.Choice.{pick}
use Rattle.meaning.specs.Rules.{Rule, is}
use Rattle.meaning.specs.Peg.{Peg, lit, range, any, any_byte, end, neg, seq, alt, star, opt, quiet, rule, prefixb, one_byte, one_letter, at_end, within, run, bytewise, hit, taken}
use Rattle.meaning.specs.Utf8.{character}
use Rattle.meaning.specs.Forest.{Forest, nil, tree, ◌⊕◌, Out, missed, took, outcome, leaf, join_o, after_o, or_else_o, maybe_o, turned_o, hushed_o, again_o, note_o, many_o, eval, forest, clean, nodes}
use Rattle.grammar.specs.Matching.{Reads}
use Rattle.grammar.specs.Fits.{within_taken, within_run}
use Rattle.grammar.specs.Agree.{same}
use Rattle.grammar.specs.Drawing.{Draws}

-- all nodes of a forest lie from lo to hi
abbrev pub Limits : ℕ → ℕ → Forest → Type 0
Limits lo hi nil = Unit {0}
Limits lo hi (tree r s l k more) = (lo ≤ s) × ((s + l ≤ hi) × (Limits lo hi k × Limits lo hi more))

pub wider : (a b c d : ℕ) (w : Forest) → c ≤ a → b ≤ d → Limits a b w → Limits c d w
wider a b c d nil p q h = tt
wider a b c d (tree r s l k more) p q h =
    let x : a ≤ s = h.0 in
    let y : s + l ≤ b = h.1.0 in
    (omega arith, (omega arith, (wider a b c d k p q h.1.1.0, wider a b c d more p q h.1.1.1)))

pub limits-⊕ : (a b : ℕ) (v w : Forest) → Limits a b v → Limits a b w → Limits a b (v ⊕ w)
limits-⊕ a b nil w h k = k
limits-⊕ a b (tree r s l kids more) w h k = (h.0, (h.1.0, (h.1.1.0, limits-⊕ a b more w h.1.1.1 k)))

-- a part of a forest
pub limits_left : (a b : ℕ) (v w : Forest) → Limits a b (v ⊕ w) → Limits a b v
limits_left a b nil w h = tt
limits_left a b (tree r s l k more) w h = (h.0, (h.1.0, (h.1.1.0, limits_left a b more w h.1.1.1)))

pub limits_right : (a b : ℕ) (v w : Forest) → Limits a b (v ⊕ w) → Limits a b w
limits_right a b nil w h = h
limits_right a b (tree r s l k more) w h = limits_right a b more w h.1.1.1

pub limits_clean : (a b : ℕ) (w : Forest) → Limits a b w → Limits a b (clean w)
limits_clean a b nil h = tt
limits_clean a b (tree r s l k more) h = go (is Rule.COMMENT r) (limits_clean a b k h.1.1.0) (limits_clean a b more h.1.1.1)
  where
    go : (c : Bool) → Limits a b (clean k) → Limits a b (clean more) → Limits a b (pick c (clean more) (tree r s l (clean k) (clean more)))
    go true x y = y
    go false x y = (h.0, (h.1.0, (x, y)))

-- an outcome at offset o holds its nodes
abbrev LimitsO : ℕ → Out → Type 0
LimitsO o (missed f) = Unit {0}
LimitsO o (took n f w) = Limits o (o + n) w

limits_leaf : (o : ℕ) (m : Match) → LimitsO o (leaf m)
limits_leaf o (Missed f) = tt
limits_leaf o (Took n f) = tt

limits_join : (o n f : ℕ) (w : Forest) (x : Out) → Limits o (o + n) w → LimitsO (o + n) x → LimitsO o (join_o n f w x)
limits_join o n f w (missed g) h k = tt
limits_join o n f w (took j g v) h k =
    limits-⊕ o (o + (n + j)) w v (wider o (o + n) o (o + (n + j)) w (omega arith) (omega arith) h)
    (wider (o + n) (o + n + j) o (o + (n + j)) v (omega arith) (omega arith) k)

limits_after : (o : ℕ) (x : Out) (p : ℕ → List ℕ → Out) (t : List ℕ) → LimitsO o x → ((i : ℕ) (u : List ℕ) → LimitsO i (p i u)) → LimitsO o (after_o x p o t)
limits_after o (missed f) p t h q = tt
limits_after o (took n f w) p t h q = limits_join o n f w (p (o + n) (drop n t)) h (q (o + n) (drop n t))

limits_or : (o : ℕ) (x : Out) (p : ℕ → List ℕ → Out) (t : List ℕ) → LimitsO o x → LimitsO o (p o t) → LimitsO o (or_else_o x p o t)
limits_or o (missed f) p t h q = go (p o t) q
  where
    go : (y : Out) → LimitsO o y → LimitsO o (join_o 0 f nil y)
    go (missed g) k = tt
    go (took j g v) k = wider o (o + j) o (o + (0 + j)) v (omega arith) (omega arith) k
limits_or o (took n f w) p t h q = h

limits_again : (o : ℕ) (x : Out) (p : ℕ → List ℕ → Out) (t : List ℕ) → LimitsO o x → ((i : ℕ) (u : List ℕ) → LimitsO i (p i u)) → LimitsO o (again_o x p o t)
limits_again o (missed f) p t h q = tt
limits_again o (took n f w) p t h q = limits_join o n f w (p (o + n) (drop n t)) h (q (o + n) (drop n t))

limits_many : (k : ℕ) (p : ℕ → List ℕ → Out) → ((i : ℕ) (u : List ℕ) → LimitsO i (p i u)) → (o : ℕ) (t : List ℕ) → LimitsO o (many_o k p o t)
unfolding many_o
limits_many zero p h o t = tt
limits_many (suc k) p h o t = limits_again o (p o t) (λ i u. many_o k p i u) t (h o t) (λ i u. limits_many k p h i u)

limits_maybe : (o : ℕ) (x : Out) → LimitsO o x → LimitsO o (maybe_o x)
limits_maybe o (missed f) h = tt
limits_maybe o (took n f w) h = h

limits_turned : (o : ℕ) (x : Out) → LimitsO o (turned_o x)
limits_turned o (missed f) = tt
limits_turned o (took n f w) = tt

limits_hushed : (o : ℕ) (x : Out) → LimitsO o x → LimitsO o (hushed_o x)
limits_hushed o (missed f) h = tt
limits_hushed o (took n f w) h = h

limits_note : (r : Rule) (o : ℕ) (x : Out) → LimitsO o x → LimitsO o (note_o r o x)
limits_note r o (missed f) h = tt
limits_note r o (took n f w) h = (omega arith, (omega arith, (h, tt)))

limits_eval : (g : Peg) (o : ℕ) (t : List ℕ) → LimitsO o (eval g o t)
unfolding eval
limits_eval (lit l) o t = limits_leaf o (pick (prefixb l t) (Took (length l) 0) (Missed 1))
limits_eval (range lo hi) o t = limits_leaf o (one_byte (within lo hi) t)
limits_eval any o t = limits_leaf o (one_letter (character t))
limits_eval any_byte o t = limits_leaf o (one_byte (λ x. true) t)
limits_eval end o t = limits_leaf o (at_end t)
limits_eval (neg p) o t = limits_turned o (eval p o t)
limits_eval (seq a b) o t = limits_after o (eval a o t) (λ i u. eval b i u) t (limits_eval a o t) (λ i u. limits_eval b i u)
limits_eval (alt a b) o t = limits_or o (eval a o t) (λ i u. eval b i u) t (limits_eval a o t) (limits_eval b o t)
limits_eval (star p) o t = limits_many (suc (length t)) (λ i u. eval p i u) (λ i u. limits_eval p i u) o t
limits_eval (opt p) o t = limits_maybe o (eval p o t) (limits_eval p o t)
limits_eval (quiet p) o t = limits_hushed o (eval p o t) (limits_eval p o t)
limits_eval (rule r p) o t = limits_note r o (eval p o t) (limits_eval p o t)

-- the nodes of a match lie inside it
pub nodes_limits : (g : Peg) (o : ℕ) (t : List ℕ) → Limits o (o + taken (run g t)) (nodes g o t)
unfolding nodes
nodes_limits g o t =
    limits_clean o (o + taken (run g t)) (forest (eval g o t))
    (subst (λ (m : Match). Limits o (o + taken m) (forest (eval g o t))) (same g o t) (go (eval g o t) (limits_eval g o t)))
  where
    go : (x : Out) → LimitsO o x → Limits o (o + taken (outcome x)) (forest x)
    go (missed f) h = tt
    go (took n f w) h = h

pub draws_limits : {g : Peg} {t : List ℕ} {r : Match} {w : ℕ → Forest} → Draws g t r w → hit r ≡ true → (o : ℕ) → Limits o (o + taken r) (w o)
draws_limits {g} {t} {r} {w} d h o =
    subst (λ (v : Forest). Limits o (o + taken r) v) (d.draws h o)
    (subst (λ (m : Match). Limits o (o + taken m) (nodes (bytewise g) o t)) (sym d.reads.is) (nodes_limits (bytewise g) o t))

-- a match at i in a source
pub took_inside : {g : Peg} (src : List ℕ) {r : Match} (i : ℕ) → i ≤ length src → Reads g (drop i src) r → taken r ≤ length src - i
took_inside {g} src {r} i e h = omega (arith, within_taken r (drop i src) h.fits, length-drop i src)

pub run_inside : (src : List ℕ) (i : ℕ) (g : Peg) → i ≤ length src → i + taken (run (bytewise g) (drop i src)) ≤ length src
run_inside src i g e =
    omega (arith, within_taken (run (bytewise g) (drop i src)) (drop i src) (within_run (bytewise g) (drop i src)), length-drop i src)
