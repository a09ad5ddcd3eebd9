-- Silence: an expression with no rule but comments leaves no node, and a rule of one leaves exactly its own.
use Rattle.std.specs.Prelude.{ℕ, zero, suc, ◌+◌, ◌≡◌, refl, List, Bool, true, false, length, drop}
use Rattle.std.proofs.Common.{ap, ap₂, ◌∙◌}
use Rattle.meaning.specs.declared.Match.{Match}
use Rattle.meaning.specs.declared.Match.TheVariants.{Missed, Took}
use Rattle.meaning.specs.Choice.{pick, both}
use Rattle.meaning.specs.Utf8.{character}
use Rattle.meaning.specs.Rules.{Rule, is}
use Rattle.meaning.specs.Peg.{Peg, lit, range, any, any_byte, end, neg, seq, alt, star, opt, quiet, rule, prefixb, one_byte, one_letter, at_end, within, run, hit, taken}
use Rattle.meaning.specs.Forest.{Forest, nil, tree, ◌⊕◌, Out, missed, took, outcome, leaf, join_o, after_o, or_else_o, maybe_o, turned_o, hushed_o, again_o, note_o, many_o, eval, forest, clean, nodes}
use Rattle.grammar.specs.Picks.{both_1, both_2}
use Rattle.grammar.specs.Agree.{same}
use Rattle.grammar.specs.Nodes.{clean-⊕}

-- no rule but comments, as a test
abbrev pub silent : Peg → Bool
silent (lit l) = true
silent (range lo hi) = true
silent any = true
silent any_byte = true
silent end = true
silent (neg p) = true
silent (seq a b) = both (silent a) (silent b)
silent (alt a b) = both (silent a) (silent b)
silent (star p) = silent p
silent (opt p) = silent p
silent (quiet p) = silent p
silent (rule r p) = is Rule.COMMENT r

-- ---- what is cleaned to nothing
abbrev Bare : Out → Type 0
Bare x = clean (forest x) ≡ nil

bare_leaf : (m : Match) → Bare (leaf m)
bare_leaf (Missed f) = refl
bare_leaf (Took n f) = refl

bare_join : (n f : ℕ) (w : Forest) (x : Out) → clean w ≡ nil → Bare x → Bare (join_o n f w x)
bare_join n f w (missed g) e h = refl
bare_join n f w (took k g v) e h = clean-⊕ w v ∙ ap₂ ◌⊕◌ e h

bare_after : (x : Out) (p : ℕ → List ℕ → Out) (o : ℕ) (t : List ℕ) → Bare x → ((i : ℕ) (u : List ℕ) → Bare (p i u)) → Bare (after_o x p o t)
bare_after (missed f) p o t e h = refl
bare_after (took n f w) p o t e h = bare_join n f w (p (o + n) (drop n t)) e (h (o + n) (drop n t))

bare_or_else : (x : Out) (p : ℕ → List ℕ → Out) (o : ℕ) (t : List ℕ) → Bare x → Bare (p o t) → Bare (or_else_o x p o t)
bare_or_else (missed f) p o t e h = bare_join 0 f nil (p o t) refl h
bare_or_else (took n f w) p o t e h = e

bare_again : (x : Out) (p : ℕ → List ℕ → Out) (o : ℕ) (t : List ℕ) → Bare x → ((i : ℕ) (u : List ℕ) → Bare (p i u)) → Bare (again_o x p o t)
bare_again (missed f) p o t e h = refl
bare_again (took n f w) p o t e h = bare_join n f w (p (o + n) (drop n t)) e (h (o + n) (drop n t))

bare_many : (k : ℕ) (p : ℕ → List ℕ → Out) → ((i : ℕ) (u : List ℕ) → Bare (p i u)) → (o : ℕ) (t : List ℕ) → Bare (many_o k p o t)
unfolding many_o
bare_many zero p h o t = refl
bare_many (suc k) p h o t = bare_again (p o t) (λ i u. many_o k p i u) o t (h o t) (λ i u. bare_many k p h i u)

bare_maybe : (x : Out) → Bare x → Bare (maybe_o x)
bare_maybe (missed f) e = refl
bare_maybe (took n f w) e = e

bare_turned : (x : Out) → Bare (turned_o x)
bare_turned (missed f) = refl
bare_turned (took n f w) = refl

bare_hushed : (x : Out) → Bare x → Bare (hushed_o x)
bare_hushed (missed f) e = refl
bare_hushed (took n f w) e = e

bare_note : (r : Rule) (o : ℕ) (x : Out) → is Rule.COMMENT r ≡ true → Bare (note_o r o x)
bare_note r o (missed f) e = refl
bare_note r o (took n f w) e = ap (λ (b : Bool). pick b nil (tree r o n (clean w) nil)) e

bare : (g : Peg) → silent g ≡ true → (o : ℕ) (t : List ℕ) → Bare (eval g o t)
unfolding eval
bare (lit l) e o t = bare_leaf (pick (prefixb l t) (Took (length l) 0) (Missed 1))
bare (range lo hi) e o t = bare_leaf (one_byte (within lo hi) t)
bare any e o t = bare_leaf (one_letter (character t))
bare any_byte e o t = bare_leaf (one_byte (λ x. true) t)
bare end e o t = bare_leaf (at_end t)
bare (neg p) e o t = bare_turned (eval p o t)
bare (seq a b) e o t =
    bare_after (eval a o t) (λ i u. eval b i u) o t (bare a (both_1 (silent a) (silent b) e) o t) (λ i u. bare b (both_2 (silent a) (silent b) e) i u)
bare (alt a b) e o t =
    bare_or_else (eval a o t) (λ i u. eval b i u) o t (bare a (both_1 (silent a) (silent b) e) o t) (bare b (both_2 (silent a) (silent b) e) o t)
bare (star p) e o t = bare_many (suc (length t)) (λ i u. eval p i u) (λ i u. bare p e i u) o t
bare (opt p) e o t = bare_maybe (eval p o t) (bare p e o t)
bare (quiet p) e o t = bare_hushed (eval p o t) (bare p e o t)
bare (rule r p) e o t = bare_note r o (eval p o t) e

-- ---- the two laws
pub none_of : (g : Peg) → silent g ≡ true → (o : ℕ) (t : List ℕ) → nodes g o t ≡ nil
unfolding nodes
none_of g e o t = bare g e o t

pub leaf_of : (r : Rule) (p : Peg) → is Rule.COMMENT r ≡ false → silent p ≡ true → (o : ℕ) (t : List ℕ)
    → hit (run (rule r p) t) ≡ true → nodes (rule r p) o t ≡ tree r o (taken (run (rule r p) t)) nil nil
unfolding nodes eval run
leaf_of r p c e o t h = rw (← same p o t) (go (eval p o t) (bare p e o t) (rw (← same p o t) at h))
  where
    go : (x : Out) → Bare x → hit (outcome x) ≡ true → clean (forest (note_o r o x)) ≡ tree r o (taken (outcome x)) nil nil
    go (missed f) b q = cc
    go (took n f w) b q = ap (λ (d : Bool). pick d nil (tree r o n (clean w) nil)) c ∙ ap (λ (k : Forest). tree r o n k nil) b
