-- The meaning with its forest: what each rule matched, in source order; starts are offsets in the source.
use Rattle.std.specs.Prelude.{ℕ, zero, suc, ◌+◌, max, List, true, length, drop}
use Rattle.meaning.specs.declared.Match.{Match}
use Rattle.meaning.specs.declared.Match.TheVariants.{Missed, Took}
use Rattle.meaning.specs.Choice.{pick}
use Rattle.meaning.specs.Utf8.{character}
use Rattle.meaning.specs.Rules.{Rule, is}
use Rattle.meaning.specs.Peg.{Peg, lit, range, any, any_byte, end, neg, seq, alt, star, opt, quiet, rule, prefixb, lift, one_byte, one_letter, at_end, within}

-- first child, next sibling: rule, start, length, children, what follows
pub data Forest : Type 0 where
  nil : Forest
  tree : Rule → ℕ → ℕ → Forest → Forest → Forest

infixr 20 ◌⊕◌
abbrev pub ◌⊕◌ : Forest → Forest → Forest
nil ⊕ w = w
tree r s l kids more ⊕ w = tree r s l kids (more ⊕ w)

pub data Out : Type 0 where
  missed : ℕ → Out
  took : ℕ → ℕ → Forest → Out

abbrev pub outcome : Out → Match
outcome (missed f) = Missed f
outcome (took n f w) = Took n f

abbrev pub leaf : Match → Out
leaf (Missed f) = missed f
leaf (Took n f) = took n f nil

abbrev pub join_o : ℕ → ℕ → Forest → Out → Out
join_o n f w (missed g) = missed (max f (lift n g))
join_o n f w (took k g v) = took (n + k) (max f (lift n g)) (w ⊕ v)

-- o is the offset of t, here and below
abbrev pub after_o : Out → (ℕ → List ℕ → Out) → ℕ → List ℕ → Out
after_o (missed f) p o t = missed f
after_o (took n f w) p o t = join_o n f w (p (o + n) (drop n t))

abbrev pub or_else_o : Out → (ℕ → List ℕ → Out) → ℕ → List ℕ → Out
or_else_o (missed f) q o t = join_o 0 f nil (q o t)
or_else_o (took n f w) q o t = took n f w

abbrev pub maybe_o : Out → Out
maybe_o (missed f) = took 0 f nil
maybe_o (took n f w) = took n f w

abbrev pub turned_o : Out → Out
turned_o (missed f) = took 0 0 nil
turned_o (took n f w) = missed 0

abbrev pub hushed_o : Out → Out
hushed_o (missed f) = missed 0
hushed_o (took n f w) = took n 0 w

abbrev pub again_o : Out → (ℕ → List ℕ → Out) → ℕ → List ℕ → Out
again_o (missed f) q o t = took 0 f nil
again_o (took n f w) q o t = join_o n f w (q (o + n) (drop n t))

abbrev pub note_o : Rule → ℕ → Out → Out
note_o r o (missed f) = missed f
note_o r o (took n f w) = took n f (tree r o n w nil)

unfoldable pub many_o : ℕ → (ℕ → List ℕ → Out) → ℕ → List ℕ → Out
many_o zero p o t = took 0 0 nil
many_o (suc k) p o t = again_o (p o t) (λ i u. many_o k p i u) o t

unfoldable pub eval : Peg → ℕ → List ℕ → Out
eval (lit l) o t = leaf (pick (prefixb l t) (Took (length l) 0) (Missed 1))
eval (range lo hi) o t = leaf (one_byte (within lo hi) t)
eval any o t = leaf (one_letter (character t))
eval any_byte o t = leaf (one_byte (λ x. true) t)
eval end o t = leaf (at_end t)
eval (neg p) o t = turned_o (eval p o t)
eval (seq a b) o t = after_o (eval a o t) (λ i u. eval b i u) o t
eval (alt a b) o t = or_else_o (eval a o t) (λ i u. eval b i u) o t
eval (star p) o t = many_o (suc (length t)) (λ i u. eval p i u) o t
eval (opt p) o t = maybe_o (eval p o t)
eval (quiet p) o t = hushed_o (eval p o t)
eval (rule r p) o t = note_o r o (eval p o t)

abbrev pub forest : Out → Forest
forest (missed f) = nil
forest (took n f w) = w

-- the forest without its comments, which the Rust's `children` passes over
abbrev pub clean : Forest → Forest
clean nil = nil
clean (tree r s l k more) = pick (is Rule.COMMENT r) (clean more) (tree r s l (clean k) (clean more))

-- the nodes that g leaves of the text t, which stands at offset o
unfoldable pub nodes : Peg → ℕ → List ℕ → Forest
nodes g o t = clean (forest (eval g o t))
