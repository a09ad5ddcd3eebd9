-- The turns of a text: byte by byte, and all bytes before one.
use Rattle.std.specs.Prelude.{ℕ, ◌+◌, ◌-◌, ◌≤◌, ◌<◌, ◌≡◌, refl, List, [], ◌∷◌, Bool, true, false, length, take, drop, get_or, eqb, None, Some, slice_get}
use Rattle.std.specs.List.{starts_with}
use Rattle.std.proofs.Common.{arith, ap, sym, ◌∙◌, length-drop, drop_of_length-le, drop-cons, ne_eqb}
use Rattle.meaning.specs.declared.Match.{Match}
use Rattle.meaning.specs.declared.Match.TheVariants.{Missed, Took}
use Rattle.meaning.specs.Choice.{pick}
use Rattle.meaning.specs.Peg.{Peg, lit, any, any_byte, neg, seq, star, prefixb, join, after, turned, one_byte, run}
use Rattle.grammar.specs.Matching.{Reads, Steps}
use Rattle.lexis.specs.Prefixes.{starts}
use Rattle.grammar.specs.Steps.{reads, steps, start, rest_is, Rest, rest_start, rest_more, rest_done}

-- ---- a text
pub lit_took : (l s : List ℕ) → true ≡ starts_with eqb s l → Reads (lit l) s (Took (length l) 0)
unfolding run
lit_took l s e = reads (lit l) s (Took (length l) 0) (rw (sym (e ∙ starts l s)))

pub lit_miss : (l s : List ℕ) → false ≡ starts_with eqb s l → Reads (lit l) s (Missed 1)
unfolding run
lit_miss l s e = reads (lit l) s (Missed 1) (rw (sym (e ∙ starts l s)))

-- where a text cannot stand: at the end, and at another byte than its first
absent_end : (l : List ℕ) {x : ℕ} (t : List ℕ) (i : ℕ) → Some x ≡ slice_get l 0 → length t ≤ i → prefixb l (drop i t) ≡ false
absent_end [] {x} t i n h = cc
absent_end (y ∷ l) {x} t i n h = rw (drop_of_length-le t h)

absent_first : (l : List ℕ) {x : ℕ} (t : List ℕ) (i : ℕ) → Some x ≡ slice_get l 0 → i < length t → (get_or t i 0 ≡ x → ⊥) → prefixb l (drop i t) ≡ false
absent_first [] {x} t i n h d = cc
absent_first (y ∷ l) {x} t i n h d = let q : x ≡ y = cc in rw (drop-cons t i 0 h, ne_eqb y (get_or t i 0) (λ e. d (sym (q ∙ e))))

-- ---- all bytes before a text: one turn, at u
abbrev pub before : List ℕ → Peg
before l = seq (neg (lit l)) any

turn_is : (l u : List ℕ)
    → run (seq (neg (lit l)) any_byte) u ≡ after (turned (pick (prefixb l u) (Took (length l) 0) (Missed 1))) (λ v. one_byte (λ x. true) v) u
unfolding run
turn_is l u = refl

turn_hit : (l u : List ℕ) → prefixb l u ≡ true → run (seq (neg (lit l)) any_byte) u ≡ Missed 0
turn_hit l u e = turn_is l u ∙ rw e

turn_end : (l u : List ℕ) → prefixb l u ≡ false → length u ≡ 0 → run (seq (neg (lit l)) any_byte) u ≡ Missed 1
turn_end l [] e h = turn_is l [] ∙ rw e
turn_end l (x ∷ u) e h = absurd (omega arith)

turn_one : (l u : List ℕ) → prefixb l u ≡ false → 0 < length u → run (seq (neg (lit l)) any_byte) u ≡ Took 1 0
turn_one l [] e h = absurd (omega arith)
turn_one l (x ∷ u) e h = turn_is l (x ∷ u) ∙ rw e

-- the loop has come to i
pub come : (l t : List ℕ) → Rest (before l) t (Took 0 0) (Took 0 0)
come l t = rest_start t (Took 0 0) (omega arith)

module _ {l t : List ℕ} {i : ℕ} (v : Rest (before l) t (Took 0 0) (Took i 0)) where
  goes : {x : Match} → run (seq (neg (lit l)) any_byte) (drop i t) ≡ x → Steps (Took i 0) (before l) t (join i 0 x)
  goes {x} e = steps (Took i 0) (before l) t (join i 0 x) v.fits (ap (λ (y : Match). join i 0 y) (sym e))

  done : prefixb l (drop i t) ≡ true → Reads (star (before l)) t (Took i 0)
  done e = start (rest_done 0 refl (omega arith) v (goes (turn_hit l (drop i t) e)) refl refl)

  more : prefixb l (drop i t) ≡ false → i < length t → Rest (before l) t (Took 0 0) (Took (i + 1) 0)
  more e q = rest_more (i + 1) 0 refl v (goes (turn_one l (drop i t) e (omega (arith, length-drop i t)))) refl

  -- the text is looked for at i, or another byte than its first stands there
  found : {b : Bool} → b ≡ starts_with eqb (take (length t - i) (drop i t)) l → prefixb l (drop i t) ≡ b
  found {b} e = sym (e ∙ ap (λ (u : List ℕ). starts_with eqb u l) (rest_is i t) ∙ starts l (drop i t))

  pub upto_hit : true ≡ starts_with eqb (take (length t - i) (drop i t)) l → Reads (star (before l)) t (Took i 0)
  upto_hit e = done (found e)

  pub upto_miss : false ≡ starts_with eqb (take (length t - i) (drop i t)) l → i < length t → Rest (before l) t (Took 0 0) (Took (i + 1) 0)
  upto_miss e q = more (found e) q

  pub upto_other : {x : ℕ} → Some x ≡ slice_get l 0 → i < length t → (get_or t i 0 ≡ x → ⊥) → Rest (before l) t (Took 0 0) (Took (i + 1) 0)
  upto_other n q d = more (absent_first l t i n q d) q

  pub upto_end : {x : ℕ} → Some x ≡ slice_get l 0 → length t ≤ i → Reads (star (before l)) t (Took (length t) (length t + 1))
  upto_end n q =
      let z : i ≡ length t = let w : i ≤ length t = v.fits.0 in omega arith in
      rw (← z) (start
      (rest_done (i + 1) refl (omega arith) v (goes (turn_end l (drop i t) (absent_end l t i n q) (omega (arith, length-drop i t))))
      (ap Missed (omega arith)) (ap (λ (k : ℕ). Took i k) (omega arith))))

-- no byte stands before the empty text
pub upto_none : (l t : List ℕ) → None ≡ slice_get l 0 → Reads (star (before l)) t (Took 0 0)
upto_none [] t e = done (come [] t) refl
upto_none (x ∷ l) t e = cc
