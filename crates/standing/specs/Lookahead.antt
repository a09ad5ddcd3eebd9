-- What a part of the grammar looks at past its end, as a list of what may be tried there after blanks; and the rules by which it is
-- settled.
use Rattle.std.specs.Prelude.{◌≡◌, Bool, true, false, not, ℕ, ◌≤◌, max, ◌+◌, eqb, drop}
use Rattle.std.proofs.Math.Path.{refl}
use Rattle.std.proofs.Common.{ap, arith, ne_eqb}
use mathlib.Core.List.{List, [], ◌∷◌, ◌++◌, append-nil}
use Rattle.std.proofs.lemmas.Bool.{eqb-false, not-true}
use Rattle.meaning.specs.Choice.{both}
use Rattle.meaning.specs.Quoted.{bytes}
use Rattle.meaning.specs.Peg.{Peg, seq, star, opt}
use Rattle.meaning.specs.Pdl.{text, skip, ◌~◌, repeat, rules}
use Rattle.text.specs.ChoiceLaws.{both_is}
use Rattle.locality.specs.Plain.{Out, missed, took, plain, Took, Holds}
use Rattle.locality.specs.Least.{nullable, least}
use Rattle.locality.specs.Looks.{seq_f, far}
use Rattle.locality.specs.Absorbing.{Absorbs, lost, more, abs_le, abs_up, abs_more, abs_seq, far_seq, abs_opt, far_opt, lost_seq, abs_star, far_star, lost_le}
use Rattle.locality.specs.Firsts.{Span, firsts, offs, offs_sound, calm, calm_append, abs_first, abs_first₂, near, idle}
use Rattle.locality.specs.Literals.{byte, byte_far, far_lit}
use Rattle.locality.specs.Failures.{part, lost_star}
use Rattle.standing.specs.Blanks.{look, far_skip, skip_pos, skip_took}

unfoldable pub ahead : List Peg → List ℕ → ℕ
ahead [] s = far skip s
ahead (q ∷ Q) s = max (far (seq skip q) s) (ahead Q s)

unfoldable pub spans : List Peg → List Span
unfolding firsts least rules
spans [] = firsts skip
spans (q ∷ Q) = firsts (seq skip q) ++ spans Q

-- b takes a byte, which is no blank and starts nothing of Q
unfoldable pub check : List Peg → Peg → Bool
unfolding firsts least rules spans
check Q b = both (offs (spans Q) (firsts b)) (not (nullable b))

-- so does what begins with it
seq_check : (Q : List Peg) (b r : Peg) → check Q b ≡ true → check Q (seq b r) ≡ true
unfolding check
seq_check Q b r c =
    let i = both_is (offs (spans Q) (firsts b)) (not (nullable b)) c in
    let v : eqb (least b) 0 ≡ false = not-true (eqb (least b) 0) i.1 in
    rw (v, append-nil (firsts b), i.0) (ap not (ne_eqb (least b + least r) 0 (λ z. eqb-false (least b) 0 v (omega arith))))

ahead_near : (Q : List Peg) (s : List ℕ) → calm (spans Q) s ≡ true → ahead Q s ≤ 1
unfolding ahead spans
ahead_near [] s e = near skip s e
ahead_near (q ∷ Q) s e =
    let i = calm_append (firsts (seq skip q)) (spans Q) s e in
    omega (arith, near (seq skip q) s i.0, ahead_near Q s i.1)

pub first : {e : List ℕ → ℕ} (Q : List Peg) (b : Peg) → check Q b ≡ true → Absorbs (ahead Q) b e
unfolding check
first Q b c = let i = both_is (offs (spans Q) (firsts b)) (not (nullable b)) c in abs_first (spans Q) b (ahead_near Q) i.0 (not-true (nullable b) i.1)

looks : (Q : List Peg) → Absorbs (ahead Q) skip (ahead Q)
unfolding ahead more
looks [] = far_skip
looks (q ∷ Q) = abs_more (abs_up (λ s. omega arith) (look q)) (abs_up (λ s. omega arith) (looks Q))

pub base : (Q : List Peg) (s : List ℕ) → ahead [] s ≤ ahead Q s
unfolding ahead
base [] s = omega arith
base (q ∷ Q) s = omega (arith, base Q s)

pub ahead_pos : (Q : List Peg) (s : List ℕ) → 1 ≤ ahead Q s
unfolding ahead
ahead_pos Q s = omega (arith, skip_pos s, base Q s)

-- b after what looked at Q: it settles that, and is bounded by e itself
pub record Tail (Q : List Peg) (b : Peg) (e : List ℕ → ℕ) : Type 0 where
  pub settles : Absorbs (ahead Q) b e
  pub bounded : Absorbs (far b) b e

pub solid : {e : List ℕ → ℕ} (Q : List Peg) {b : Peg} → check Q b ≡ true → Absorbs (far b) b e → Tail Q b e
solid Q {b} c f = record { settles = first Q b c; bounded = f }

far_skip₀ : Absorbs (far skip) skip (ahead [])
unfolding ahead
far_skip₀ = far_skip

pub blanks : {Q : List Peg} {b : Peg} {e : List ℕ → ℕ} → Tail Q b e → Tail Q (seq skip b) e
blanks {Q} t = record { settles = abs_seq (looks Q) t.settles; bounded = far_seq far_skip₀ (abs_le (base Q) t.settles) t.bounded }

-- a ~ b
pub then : {Q : List Peg} {a b : Peg} {e : List ℕ → ℕ} → Absorbs (far a) a (ahead Q) → Tail Q b e → Absorbs (far (seq a (seq skip b))) (seq a (seq skip b)) e
then f t = far_seq f (blanks t).settles (blanks t).bounded

-- c? at the end
opt_last : (Q R : List Peg) {c : Peg} → check Q c ≡ true → Absorbs (far c) c (ahead R) → ((s : List ℕ) → ahead Q s ≤ ahead R s)
    → ((s : List ℕ) → lost c s ≤ ahead R s) → Tail Q (opt c) (ahead R)
opt_last Q R {c} k f l m = record { settles = abs_opt (first Q c k) l; bounded = far_opt f m }

-- a failed alternative with the same front
pub then_lost : {x b : Peg} {e : List ℕ → ℕ} (Q : List Peg) (a : Peg) → Absorbs (far x) x (ahead Q) → Absorbs (ahead Q) b e → Absorbs (lost a) b e
    → Absorbs (lost (seq x (seq skip a))) (seq x (seq skip b)) e
then_lost Q a f t l = lost_seq (seq skip a) f (abs_seq (looks Q) t) (lost_seq a far_skip₀ (abs_le (base Q) t) l)

-- what starts with no blank looks no further than blanks and then it
pub bare : (q : Peg) → offs (firsts skip) (firsts q) ≡ true → (s : List ℕ) → far q s ≤ far (seq skip q) s
unfolding far
bare q d s = go (plain skip s) (skip_took s) (idle skip s) (calm (firsts skip) s) refl
  where
    off : (t : List ℕ) → calm (firsts skip) t ≡ false → calm (firsts q) t ≡ true
    off [] e = refl
    off (c ∷ t) e = offs_sound (firsts skip) (firsts q) c d e

    go : (o : Out) → Took o → (calm (firsts skip) s ≡ true → Holds (λ n f. (n ≡ 0) × (least skip ≡ 0)) o) → (v : Bool) → calm (firsts skip) s ≡ v
        → far q s ≤ seq_f (far skip s) o (λ n. far q (drop n s))
    go missed i j v e = absurd i
    go (took n f) i j true e = let z : n ≡ 0 = (j e).0 in rw z (omega arith)
    go (took n f) i j false e = omega (arith, near q s (off s e), skip_pos s)

abbrev pub Dull : Peg → Type 0
Dull q = offs (firsts skip) (firsts q) ≡ true

-- blanks and then q, where p takes and starts with no blank, is q
unskip : {e : List ℕ → ℕ} (q p : Peg) → check [] p ≡ true → Absorbs (far q) p e → Absorbs (far (seq skip q)) p e
unfolding check far
unskip q p c a =
    let i = both_is (offs (firsts skip) (firsts p)) (not (nullable p)) c in
    abs_first₂ (firsts skip) (λ s e. go s (plain skip s) (near skip s e) (idle skip s e)) i.0 (not-true (nullable p) i.1) a
  where
    go : (s : List ℕ) (o : Out) → far skip s ≤ 1 → Holds (λ n f. (n ≡ 0) × (least skip ≡ 0)) o → seq_f (far skip s) o (λ n. far q (drop n s)) ≤ max 1 (far q s)
    go s missed l z = omega arith
    go s (took n f) l z = let y : n ≡ 0 = z.0 in rw y (omega arith)

-- ---- item ("," item)* ","?

abbrev pub comma : Peg
comma = text ","

abbrev pub step : Peg → Peg
step item = comma ~ item

abbrev pub chain_of : Peg → Peg
chain_of item = item ~ repeat (step item)

abbrev pub list_of : Peg → Peg
list_of item = chain_of item ~ opt comma

module _ (item : Peg) (Q : List Peg) (fi : Absorbs (far item) item (ahead Q)) (kc : check Q comma ≡ true) (ki : check [] item ≡ true) where
  far_step : Absorbs (far (step item)) (step item) (ahead (step item ∷ Q))
  unfolding ahead
  far_step = abs_up (λ s. omega arith) (then (far_lit (bytes ",")) (solid [] ki fi))

  far_next : Absorbs (far (seq skip (step item))) (seq skip (step item)) (ahead (step item ∷ Q))
  unfolding check
  far_next = (blanks (solid [] (seq_check [] comma (seq skip item) refl) far_step)).bounded

  next_settles : Absorbs (ahead (step item ∷ Q)) (seq skip (step item)) (ahead (step item ∷ Q))
  unfolding check ahead more
  next_settles = abs_more far_next (blanks (solid Q (seq_check Q comma (seq skip item) kc) far_step)).settles

  list_tail : Tail Q (repeat (step item)) (ahead (step item ∷ Q))
  unfolding check ahead
  list_tail =
      opt_last Q (step item ∷ Q) (seq_check Q (step item) (star (seq skip (step item))) (seq_check Q comma (seq skip item) kc))
      (far_seq far_step (abs_star next_settles (λ s. omega arith)) (far_star far_next next_settles (λ s. omega (arith, lost_le (seq skip (step item)) s))))
      (λ s. omega arith)
      (λ s. omega (arith, lost_star (step item) (seq skip (step item)) s, bare (step item) refl s))

  comma_settles : Absorbs (ahead (step item ∷ Q)) comma (ahead (item ∷ step item ∷ Q))
  unfolding check ahead more
  comma_settles = abs_more (unskip (step item) comma refl (part (seq skip item) (far_lit (bytes ",")) (λ s. omega arith))) (first Q comma kc)

  comma_tail : Tail (step item ∷ Q) (opt comma) (ahead (item ∷ step item ∷ Q))
  unfolding ahead byte
  comma_tail = record {
    settles = abs_opt comma_settles (λ s. omega arith);
    bounded = far_opt (far_lit (bytes ",")) (λ s. omega (arith, lost_le comma s, byte_far comma s refl, ahead_pos Q s));
  }

  pub far_chain : Absorbs (far (chain_of item)) (chain_of item) (ahead (step item ∷ Q))
  far_chain = then fi list_tail

  pub far_list : Absorbs (far (list_of item)) (list_of item) (ahead (item ∷ step item ∷ Q))
  far_list = then far_chain comma_tail

-- ---- a list of what may be tried, in a longer one

pub wide : (P Q : List Peg) (s : List ℕ) → ahead Q s ≤ ahead (P ++ Q) s
unfolding ahead
wide [] Q s = omega arith
wide (p ∷ P) Q s = omega (arith, wide P Q s)

member : (P : List Peg) (q : Peg) (Q : List Peg) (s : List ℕ) → far (seq skip q) s ≤ ahead (P ++ q ∷ Q) s
unfolding ahead
member [] q Q s = omega arith
member (p ∷ P) q Q s = omega (arith, member P q Q s)

pub only : (P : List Peg) (q : Peg) (Q : List Peg) (s : List ℕ) → ahead (q ∷ []) s ≤ ahead (P ++ q ∷ Q) s
unfolding ahead
only P q Q s = omega (arith, member P q Q s, base (P ++ q ∷ Q) s)

pub lost_in : (P : List Peg) (q : Peg) (Q : List Peg) → Dull q → (s : List ℕ) → lost q s ≤ ahead (P ++ q ∷ Q) s
lost_in P q Q d s = omega (arith, lost_le q s, bare q d s, member P q Q s)

pub lost_skip_in : (P : List Peg) (q : Peg) (Q : List Peg) (s : List ℕ) → lost (seq skip q) s ≤ ahead (P ++ q ∷ Q) s
lost_skip_in P q Q s = omega (arith, lost_le (seq skip q) s, member P q Q s)

-- c? where c starts with no blank
pub may : (Q R : List Peg) {c : Peg} → check Q c ≡ true → Dull c → ((s : List ℕ) → ahead Q s ≤ ahead R s) → Absorbs (far c) c (ahead (c ∷ R))
    → Tail Q (opt c) (ahead (c ∷ R))
may Q R {c} k d l f = opt_last Q (c ∷ R) k f (λ s. omega (arith, l s, wide (c ∷ []) R s)) (lost_in [] c R d)
