-- `run` is `eval` without its forest, for every expression and text.
use Rattle.std.specs.Prelude.{ℕ, zero, suc, ◌+◌, ◌≡◌, refl, List, true, length, drop}
use Rattle.std.proofs.Common.{ap, ◌∙◌}
use Rattle.meaning.specs.declared.Match.{Match}
use Rattle.meaning.specs.declared.Match.TheVariants.{Missed, Took}
use Rattle.meaning.specs.Choice.{pick}
use Rattle.meaning.specs.Utf8.{character}
use Rattle.meaning.specs.Rules.{Rule}
use Rattle.meaning.specs.Peg.{Peg, lit, range, any, any_byte, end, neg, seq, alt, star, opt, quiet, rule, prefixb, join, after, or_else, maybe, turned, hushed, again, many, one_byte, one_letter, at_end, within, run}
use Rattle.meaning.specs.Forest.{Forest, nil, Out, missed, took, outcome, leaf, join_o, after_o, or_else_o, maybe_o, turned_o, hushed_o, again_o, note_o, many_o, eval}

leaf_is : (m : Match) → outcome (leaf m) ≡ m
leaf_is (Missed f) = refl
leaf_is (Took n f) = refl

join_is : (n f : ℕ) (w : Forest) (o : Out) → outcome (join_o n f w o) ≡ join n f (outcome o)
join_is n f w (missed g) = refl
join_is n f w (took k g v) = refl

after_is : (x : Out) (p : ℕ → List ℕ → Out) (q : List ℕ → Match) (o : ℕ) (t : List ℕ) → ((i : ℕ) (u : List ℕ) → outcome (p i u) ≡ q u)
    → outcome (after_o x p o t) ≡ after (outcome x) q t
after_is (missed f) p q o t h = refl
after_is (took n f w) p q o t h = join_is n f w (p (o + n) (drop n t)) ∙ ap (join n f) (h (o + n) (drop n t))

or_else_is : (x : Out) (p : ℕ → List ℕ → Out) (q : List ℕ → Match) (o : ℕ) (t : List ℕ) → outcome (p o t) ≡ q t
    → outcome (or_else_o x p o t) ≡ or_else (outcome x) q t
or_else_is (missed f) p q o t h = join_is 0 f nil (p o t) ∙ ap (join 0 f) h
or_else_is (took n f w) p q o t h = refl

pub again_is : (x : Out) (p : ℕ → List ℕ → Out) (q : List ℕ → Match) (o : ℕ) (t : List ℕ) → ((i : ℕ) (u : List ℕ) → outcome (p i u) ≡ q u)
    → outcome (again_o x p o t) ≡ again (outcome x) q t
again_is (missed f) p q o t h = refl
again_is (took n f w) p q o t h = join_is n f w (p (o + n) (drop n t)) ∙ ap (join n f) (h (o + n) (drop n t))

maybe_is : (o : Out) → outcome (maybe_o o) ≡ maybe (outcome o)
maybe_is (missed f) = refl
maybe_is (took n f w) = refl

turned_is : (o : Out) → outcome (turned_o o) ≡ turned (outcome o)
turned_is (missed f) = refl
turned_is (took n f w) = refl

hushed_is : (o : Out) → outcome (hushed_o o) ≡ hushed (outcome o)
hushed_is (missed f) = refl
hushed_is (took n f w) = refl

note_is : (r : Rule) (o : ℕ) (x : Out) → outcome (note_o r o x) ≡ outcome x
note_is r o (missed f) = refl
note_is r o (took n f w) = refl

many_is : (k : ℕ) (p : ℕ → List ℕ → Out) (q : List ℕ → Match) → ((i : ℕ) (u : List ℕ) → outcome (p i u) ≡ q u) → (o : ℕ) (t : List ℕ)
    → outcome (many_o k p o t) ≡ many k q t
unfolding many_o many
many_is zero p q h o t = refl
many_is (suc k) p q h o t = again_is (p o t) (λ i u. many_o k p i u) (λ u. many k q u) o t (λ i u. many_is k p q h i u)
    ∙ ap (λ (m : Match). again m (λ u. many k q u) t) (h o t)

pub same : (g : Peg) (o : ℕ) (t : List ℕ) → outcome (eval g o t) ≡ run g t
unfolding eval run
same (lit l) o t = leaf_is (pick (prefixb l t) (Took (length l) 0) (Missed 1))
same (range lo hi) o t = leaf_is (one_byte (within lo hi) t)
same any o t = leaf_is (one_letter (character t))
same any_byte o t = leaf_is (one_byte (λ x. true) t)
same end o t = leaf_is (at_end t)
same (neg p) o t = turned_is (eval p o t) ∙ ap turned (same p o t)
same (seq a b) o t = after_is (eval a o t) (λ i u. eval b i u) (λ u. run b u) o t (λ i u. same b i u)
    ∙ ap (λ (m : Match). after m (λ u. run b u) t) (same a o t)
same (alt a b) o t = or_else_is (eval a o t) (λ i u. eval b i u) (λ u. run b u) o t (same b o t) ∙ ap (λ (m : Match). or_else m (λ u. run b u) t) (same a o t)
same (star p) o t = many_is (suc (length t)) (λ i u. eval p i u) (λ u. run p u) (λ i u. same p i u) o t
same (opt p) o t = maybe_is (eval p o t) ∙ ap maybe (same p o t)
same (quiet p) o t = hushed_is (eval p o t) ∙ ap hushed (same p o t)
same (rule r p) o t = note_is r o (eval p o t) ∙ same p o t
