-- What an entry answers of a rule, from what the rule's matcher answers.
use Prim.Native.Nat.{ℕ, zero, suc, ◌+◌, ◌≤◌}
use native.Mathlib.Omega.{arith}
use mathlib.Core.Path.{◌≡◌, refl, sym, ap, subst, ◌∙◌}
use mathlib.Core.List.{List, [], ◌∷◌}
use mathlib.Core.Bool.{Bool, true, false}
use lib.ListN.{length, get_or, get_or-eq_default}
use lib.Dec.{eqb}
use Rattle.meaning.specs.declared.Match.{Match}
use Rattle.meaning.specs.declared.Match.TheVariants.{Missed, Took}
use Rattle.meaning.specs.Choice.{pick, both, either}
use Rattle.meaning.specs.Peg.{Peg, lit, range, neg, alt, join, or_else, within, run, bytewise}
use Rattle.meaning.specs.Pdl.{text, WHITESPACE, alpha, digit, hexdigit, alphanum, EOI}
use Rattle.grammar.specs.Matching.{Reads}
use Rattle.grammar.specs.Steps.{reads}
use Rattle.lexis.specs.declared.bytes.Class.{Class}
use Rattle.lexis.specs.declared.bytes.Class.TheVariants.{Space, Alpha, Alphanum, Digit, Hexdigit}
use Rattle.lexis.specs.Classes.{classed, one_of}
use Rattle.front.specs.Numbers.{printed, ruled, extent}

-- ---- the extent of a match
pub extent_took : (m : Match) (n f : ℕ) → m ≡ Took n f → n + 1 ≡ extent m
extent_took m n f e = sym (ap extent e)

pub measured : {g : Peg} {t : List ℕ} {m : Match} {x : ℕ} → x ≡ extent m → Reads g t m → x ≡ extent (run (bytewise g) t)
measured e h = e ∙ ap extent h.is

-- ---- a rule by its number k
abbrev rule_at : ℕ → Peg
rule_at k = get_or printed k (neg (text ""))

pub numbered : (k : ℕ) {n : ℕ} {t : List ℕ} {m : Match} → n ≡ k → Reads (rule_at k) t m → Reads (ruled n) t m
unfolding ruled
numbered k {n} {t} {m} e h = subst (λ (i : ℕ). Reads (rule_at i) t m) (sym e) h

pub extent_is : (k : ℕ) {n x : ℕ} (t : List ℕ) → n ≡ k → x ≡ extent (run (bytewise (rule_at k)) t) → x ≡ extent (run (bytewise (ruled n)) t)
unfolding ruled
extent_is k {n} {x} t e q = q ∙ ap (λ (i : ℕ). extent (run (bytewise (rule_at i)) t)) (sym e)

-- n is none of i numbers from b on, as a match with an arm for each says
abbrev None : ℕ → ℕ → ℕ → Type 0
None b zero n = Unit
None b (suc i) n = None b i n × (n ≡ b + i → ⊥)

pub above : (b i n : ℕ) → b ≤ n → None b i n → b + i ≤ n
above b zero n h r = omega arith
above b (suc i) n h r = let k : b + i ≤ n = above b i n h r.0 in let d : n ≡ b + i → ⊥ = r.1 in omega arith

pub beyond : (n : ℕ) (t : List ℕ) → 60 ≤ n → Reads (ruled n) t (Missed 0)
unfolding ruled run
beyond n t h = rw (get_or-eq_default printed (neg (text "")) h) (reads (neg (text "")) t (Missed 0) refl)

-- ---- the end of input
pub end_here : (t : List ℕ) → length t ≡ 0 → Reads EOI t (Took 0 0)
unfolding EOI run
end_here [] e = reads EOI [] (Took 0 0) refl
end_here (x ∷ t) e = absurd (omega arith)

pub end_later : (t : List ℕ) → (length t ≡ 0 → ⊥) → Reads EOI t (Missed 1)
unfolding EOI run
end_later [] n = absurd (n refl)
end_later (x ∷ t) n = reads EOI (x ∷ t) (Missed 1) refl

-- ---- one byte of a class
join_extent : (f : ℕ) (m : Match) → extent (join 0 f m) ≡ extent m
join_extent f (Missed g) = refl
join_extent f (Took k g) = omega arith

or_extent : (d e : Bool) (m : Match) (q : List ℕ → Match) (t : List ℕ) → extent m ≡ pick d 2 0 → extent (q t) ≡ pick e 2 0
    → extent (or_else m q t) ≡ pick (either d e) 2 0
or_extent true e (Missed f) q t h k = absurd (omega arith)
or_extent true e (Took n f) q t h k = h
or_extent false e (Missed f) q t h k = join_extent f (q t) ∙ k
or_extent false e (Took n f) q t h k = absurd (omega arith)

-- p takes one byte where d holds, else it misses
record One (p : Peg) (t : List ℕ) (d : Bool) : Type 0 where
  is : extent (run p t) ≡ pick d 2 0

one_alt : {a b : Peg} {t : List ℕ} {d e : Bool} → One a t d → One b t e → One (alt a b) t (either d e)
unfolding run
one_alt {a} {b} {t} {d} {e} h k = record { is = or_extent d e (run a t) (λ u. run b u) t h.is k.is }

pick_extent : (d : Bool) → extent (pick d (Took 1 0) (Missed 1)) ≡ pick d 2 0
pick_extent true = refl
pick_extent false = refl

one_range : (lo hi x : ℕ) (t : List ℕ) → One (range lo hi) (x ∷ t) (within lo hi x)
unfolding run
one_range lo hi x t = record { is = pick_extent (within lo hi x) }

both_true : (d : Bool) → both d true ≡ d
both_true true = refl
both_true false = refl

one_byte_lem : (b x : ℕ) (t : List ℕ) → One (lit (b ∷ [])) (x ∷ t) (eqb b x)
unfolding run
one_byte_lem b x t = record { is = rw (both_true (eqb b x)) (pick_extent (eqb b x)) }

one_class : (k : Class) (x : ℕ) (t : List ℕ) → One (bytewise (one_of k)) (x ∷ t) (classed k x)
unfolding WHITESPACE alpha digit hexdigit alphanum
one_class Space x t = one_alt (one_alt (one_alt (one_byte_lem 32 x t) (one_byte_lem 10 x t)) (one_byte_lem 13 x t)) (one_byte_lem 9 x t)
one_class Alpha x t = one_alt (one_range 97 122 x t) (one_range 65 90 x t)
one_class Alphanum x t =
    one_alt (one_alt (one_alt (one_range 97 122 x t) (one_range 65 90 x t)) (one_range 48 57 x t)) (one_byte_lem 95 x t)
one_class Digit x t = one_range 48 57 x t
one_class Hexdigit x t = one_alt (one_alt (one_range 48 57 x t) (one_range 97 102 x t)) (one_range 65 70 x t)

pub one_none : (k : Class) (t : List ℕ) → length t ≡ 0 → 0 ≡ extent (run (bytewise (one_of k)) t)
unfolding WHITESPACE alpha digit hexdigit alphanum run
one_none Space [] e = refl
one_none Alpha [] e = refl
one_none Alphanum [] e = refl
one_none Digit [] e = refl
one_none Hexdigit [] e = refl
one_none k (x ∷ t) e = absurd (omega arith)

pub one_is : (k : Class) (t : List ℕ) (b : Bool) → (length t ≡ 0 → ⊥) → b ≡ classed k (get_or t 0 0) → b ≡ true → 2 ≡ extent (run (bytewise (one_of k)) t)
one_is k [] b n e h = absurd (n refl)
one_is k (x ∷ t) b n e h = sym ((one_class k x t).is ∙ rw (sym e ∙ h))

pub one_not : (k : Class) (t : List ℕ) (b : Bool) → (length t ≡ 0 → ⊥) → b ≡ classed k (get_or t 0 0) → b ≡ false → 0 ≡ extent (run (bytewise (one_of k)) t)
one_not k [] b n e h = absurd (n refl)
one_not k (x ∷ t) b n e h = sym ((one_class k x t).is ∙ rw (sym e ∙ h))
