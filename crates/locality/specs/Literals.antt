-- Single bytes and quoted texts: how far each looks, and where two of them differ.
use Rattle.std.specs.Prelude.{◌≡◌, Bool, true, false, not, List, [], ◌∷◌, ◌++◌, eqb, drop}
use Rattle.std.proofs.Math.Path.{refl, ap}
use Rattle.std.proofs.Common.{◌∙◌, sym, arith}
use Prim.Native.Nat.{ℕ, zero, suc, ◌≤◌}
use Rattle.std.proofs.Math.ListN.{length}
use Rattle.meaning.specs.Choice.{pick, both, either}
use Rattle.meaning.specs.Peg.{Peg, lit, range, any, any_byte, end, neg, seq, alt, star, opt, quiet, rule, prefixb}
use Rattle.text.specs.ChoiceLaws.{never, both_is}
use Rattle.locality.specs.Plain.{Out, missed, took, after, when, neg_e, star_s, plain, size}
use Rattle.locality.specs.Least.{some, nullable, AtLeast}
use Rattle.locality.specs.PlainLaws.{after_zero, cont, after_cont, size_after_took, star_is}
use Rattle.locality.specs.Looks.{lit_f, seq_f, far, reach, local, star_unfold, alt_f_le, alt_f_ge, seq_f_ge}
use Rattle.locality.specs.Stars.{star_nil, star_ge}
use Rattle.locality.specs.Absorbing.{Absorbs, Bound, one, far_star, lost_le, abs_const, le_one, abs_one}

-- an expression that looks at one byte at most, whatever it does
abbrev pub single : List ℕ → Bool
single [] = true
single (c ∷ []) = true
single (c ∷ d ∷ l) = false

unfoldable pub byte : Peg → Bool
byte (lit l) = single l
byte (range a b) = true
byte any = true
byte any_byte = true
byte (quiet p) = byte p
byte end = true
byte (neg p) = byte p
byte (seq a b) = false
byte (alt a b) = both (byte a) (byte b)
byte (star p) = false
byte (opt p) = byte p
byte (rule r p) = byte p

lit_byte : (l s : List ℕ) → single l ≡ true → lit_f l s ≤ 1
lit_byte [] s e = omega arith
lit_byte (c ∷ []) [] e = omega arith
lit_byte (c ∷ []) (x ∷ s) e = go (eqb c x)
  where
    go : (b : Bool) → pick b 1 1 ≤ 1
    go true = omega arith
    go false = omega arith
lit_byte (c ∷ d ∷ l) s e = never e

pub byte_far : (p : Peg) (s : List ℕ) → byte p ≡ true → far p s ≤ 1
unfolding byte far
byte_far (lit l) s e = lit_byte l s e
byte_far (range a b) s e = omega arith
byte_far any s e = omega arith
byte_far any_byte s e = omega arith
byte_far (quiet p) s e = byte_far p s e
byte_far end s e = omega arith
byte_far (neg p) s e = byte_far p s e
byte_far (seq a b) s e = never e
byte_far (alt a b) s e =
    let i = both_is (byte a) (byte b) e in
    alt_f_le (plain a s) (far a s) (far b s) 1 (byte_far a s i.0) (byte_far b s i.1)
byte_far (star p) s e = never e
byte_far (opt p) s e = byte_far p s e
byte_far (rule r p) s e = byte_far p s e

abs_some : {h e : List ℕ → ℕ} {p : Peg} → nullable p ≡ false → ((s : List ℕ) → h s ≤ 1) → Absorbs h p e
abs_some {h} {e} {p} v a = record { at = λ s. go s (plain p s) (some p s v) }
  where
    go : (s : List ℕ) (o : Out) → AtLeast 1 o → Bound o (h s) (λ n. e (drop n s))
    go s missed q = tt
    go s (took n f) q = omega (arith, a s)

pub far_byte : {e : List ℕ → ℕ} (p : Peg) → byte p ≡ true → nullable p ≡ false → Absorbs (far p) p e
far_byte p b v = abs_some v (λ s. byte_far p s b)

pub far_bytes : (p : Peg) → byte p ≡ true → nullable p ≡ false → Absorbs (far (star p)) (star p) one
far_bytes p b v = far_star (far_byte p b v) abs_one (λ s. omega (arith, lost_le p s, byte_far p s b, le_one s))

-- ---- an expression that looks at one byte at least
abbrev pub filled : List ℕ → Bool
filled [] = false
filled (c ∷ l) = true

unfoldable pub sees : Peg → Bool
sees (lit l) = filled l
sees (range a b) = true
sees any = true
sees any_byte = true
sees (quiet p) = sees p
sees end = true
sees (neg p) = sees p
sees (seq a b) = sees a
sees (alt a b) = sees a
sees (star p) = sees p
sees (opt p) = sees p
sees (rule r p) = sees p

lit_sees : (l s : List ℕ) → filled l ≡ true → 1 ≤ lit_f l s
lit_sees [] s e = never e
lit_sees (c ∷ l) [] e = omega arith
lit_sees (c ∷ l) (x ∷ s) e = go (eqb c x)
  where
    go : (b : Bool) → 1 ≤ pick b (suc (lit_f l s)) 1
    go true = omega arith
    go false = omega arith

pub far_pos : (p : Peg) (s : List ℕ) → sees p ≡ true → 1 ≤ far p s
unfolding sees far
far_pos (lit l) s e = lit_sees l s e
far_pos (range a b) s e = omega arith
far_pos any s e = omega arith
far_pos any_byte s e = omega arith
far_pos (quiet p) s e = far_pos p s e
far_pos end s e = omega arith
far_pos (neg p) s e = far_pos p s e
far_pos (seq a b) s e = omega (arith, far_pos a s e, seq_f_ge (far a s) (plain a s) (λ n. far b (drop n s)))
far_pos (alt a b) s e = omega (arith, far_pos a s e, alt_f_ge (far a s) (plain a s) (far b s))
far_pos (star p) s e = omega (arith, far_pos p s e, star_ge p s)
far_pos (opt p) s e = far_pos p s e
far_pos (rule r p) s e = far_pos p s e

-- ---- quoted texts

pub lit_far : (l s : List ℕ) → lit_f l s ≤ length l
lit_far [] s = omega arith
lit_far (c ∷ l) [] = omega arith
lit_far (c ∷ l) (x ∷ s) = go (eqb c x) (lit_far l s)
  where
    go : (b : Bool) → lit_f l s ≤ length l → pick b (suc (lit_f l s)) 1 ≤ suc (length l)
    go true h = omega arith
    go false h = omega arith

-- what is bounded by a literal's length stops at that literal
pub abs_lit : {h e : List ℕ → ℕ} (l : List ℕ) → ((s : List ℕ) → h s ≤ length l) → Absorbs h (lit l) e
unfolding plain
abs_lit {h} {e} l a = record { at = λ s. go s (prefixb l s) }
  where
    go : (s : List ℕ) (b : Bool) → Bound (when b (length l)) (h s) (λ n. e (drop n s))
    go s true = omega (arith, a s)
    go s false = tt

pub far_lit : {e : List ℕ → ℕ} (l : List ℕ) → Absorbs (far (lit l)) (lit l) e
unfolding far
far_lit l = abs_lit l (lit_far l)

-- two literals neither of which starts the other: where the second stands, the first looks no further than it
abbrev pub differ : List ℕ → List ℕ → Bool
differ [] m = false
differ (c ∷ l) [] = false
differ (c ∷ l) (d ∷ m) = either (not (eqb c d)) (differ l m)

pub differ_far : (l m s : List ℕ) → differ l m ≡ true → prefixb m s ≡ true → (lit_f l s ≤ length m) × (prefixb l s ≡ false)
differ_far [] m s e q = never e
differ_far (c ∷ l) [] s e q = never e
differ_far (c ∷ l) (d ∷ m) [] e q = never q
differ_far (c ∷ l) (d ∷ m) (x ∷ s) e q = go (eqb c x) refl (differ_far l m s)
  where
    same_head : (eqb d x ≡ true) × (prefixb m s ≡ true)
    same_head = both_is (eqb d x) (prefixb m s) q

    not_or : (a b : Bool) → a ≡ true → either (not a) b ≡ true → b ≡ true
    not_or true b p r = r
    not_or false b p r = never p

    same : eqb c x ≡ true → eqb c d ≡ true
    same p = rw (borrow.Author.Tests.eqb-true d x same_head.0) p

    go : (b : Bool) → eqb c x ≡ b → (differ l m ≡ true → prefixb m s ≡ true → (lit_f l s ≤ length m) × (prefixb l s ≡ false))
        → (pick b (suc (lit_f l s)) 1 ≤ suc (length m)) × (both b (prefixb l s) ≡ false)
    go true p ih = let i = ih (not_or (eqb c d) (differ l m) (same p) e) same_head.1 in (omega (arith, i.0), i.1)
    go false p ih = (omega arith, refl)

-- ---- text up to a quoted one

unfoldable pub to : List ℕ → List ℕ → ℕ
to l s = length l

far_char : (l s : List ℕ) → 1 ≤ length l → far (seq (neg (lit l)) any) s ≤ length l
unfolding plain far
far_char l s b = go (neg_e (when (prefixb l s) (length l))) (lit_far l s) (neg_zero (when (prefixb l s) (length l)))
  where
    neg_zero : (o : Out) → size (neg_e o) ≡ 0
    neg_zero missed = refl
    neg_zero (took n f) = refl

    go : (o : Out) → lit_f l s ≤ length l → size o ≡ 0 → seq_f (lit_f l s) o (λ n. 1) ≤ length l
    go missed h z = h
    go (took n f) h z = omega arith

pub far_text : (l : List ℕ) → 1 ≤ length l → Absorbs (far (star (seq (neg (lit l)) any))) (star (seq (neg (lit l)) any)) (to l)
unfolding to
far_text l b =
    far_star (abs_const (length l) (λ s. far_char l s b) (λ s. omega arith)) (abs_const (length l) (λ s. omega arith) (λ s. omega arith))
    (λ s. omega (arith, lost_le (seq (neg (lit l)) any) s, far_char l s b))

pub to_le : (l s : List ℕ) → to l s ≤ length l
unfolding to
to_le l s = omega arith

-- ---- a star of single bytes that takes all of its text, and more behind it

pub bytes_on : (p : Peg) → byte p ≡ true → nullable p ≡ false → (s v : List ℕ) → size (plain (star p) s) ≡ length s
    → plain (star p) (s ++ v) ≡ cont (plain (star p) s) (plain (star p) v)
bytes_on p b k [] v z = rw (star_nil p) (sym (after_zero (plain (star p) v)))
bytes_on p b k (a ∷ s) v z =
    (star_unfold p (a ∷ (s ++ v))).0
    ∙ ap (λ o. star_s o (λ n. plain (star p) (drop n (a ∷ (s ++ v))))) (sym (local p (a ∷ []) s (s ++ v) (byte_far p (a ∷ s) b)).0)
    ∙ go (plain p (a ∷ s)) refl (some p (a ∷ s) k) (ap size (sym (star_unfold p (a ∷ s)).0) ∙ z) (bytes_on p b k s v)
    ∙ ap (λ o. cont o (plain (star p) v)) (sym (star_unfold p (a ∷ s)).0)
  where
    go : (o : Out) → plain p (a ∷ s) ≡ o → AtLeast 1 o → size (star_s o (λ n. plain (star p) (drop n (a ∷ s)))) ≡ suc (length s)
        → (size (plain (star p) s) ≡ length s → plain (star p) (s ++ v) ≡ cont (plain (star p) s) (plain (star p) v))
        → star_s o (λ n. plain (star p) (drop n (a ∷ (s ++ v)))) ≡ cont (star_s o (λ n. plain (star p) (drop n (a ∷ s)))) (plain (star p) v)
    go missed q i e ih = absurd (omega arith)
    go (took zero f) q i e ih = absurd (omega arith)
    go (took (suc n) f) q i e ih =
        let n0 : n ≡ 0 = omega (arith, reach p (a ∷ s) (suc n) f q, byte_far p (a ∷ s) b) in
        let e' : size (after 1 f (plain (star p) s)) ≡ suc (length s) = rw n0 at e in
        let l : size (plain (star p) s) ≡ length s = omega (arith, e', size_after_took 1 f (plain (star p) s) (star_is p s)) in
        rw (n0, ih l) (after_cont 1 f (plain (star p) s) (plain (star p) v))
