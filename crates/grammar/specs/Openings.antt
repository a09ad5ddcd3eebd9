-- What a match can open with: an expression whose every match begins with one of some quoted texts misses where none of them stands.
use Rattle.std.specs.Prelude.{ℕ, ◌≡◌, refl, List, [], ◌∷◌, Bool, true, false, length, eqb}
use Rattle.std.proofs.Math.Path.{ap}
use Rattle.std.proofs.Common.{ap₂, sym, ◌∙◌, eqb-true, eq-eqb}
use Rattle.meaning.specs.declared.Match.TheVariants.{Missed, Took}
use Rattle.meaning.specs.Choice.{pick, both}
use Rattle.meaning.specs.Peg.{Peg, lit, range, any, any_byte, end, neg, seq, alt, star, opt, quiet, rule, prefixb, run}
use Rattle.grammar.specs.Picks.{both_1, both_2}

-- ---- two quoted texts at the front of one text
-- what begins with w is not there where w is not
pub longer : (w l t : List ℕ) → prefixb w l ≡ true → prefixb w t ≡ false → prefixb l t ≡ false
longer [] l t p h = cc
longer (x ∷ w) [] t p h = cc
longer (x ∷ w) (y ∷ l) [] p h = refl
longer (x ∷ w) (y ∷ l) (z ∷ t) p h =
    ap (λ (i : ℕ). both (eqb i z) (prefixb l t)) (sym (eqb-true x y (both_1 (eqb x y) (prefixb w l) p)))
    ∙ go (eqb x z) (longer w l t (both_2 (eqb x y) (prefixb w l) p)) h
  where
    go : (b : Bool) → (prefixb w t ≡ false → prefixb l t ≡ false) → both b (prefixb w t) ≡ false → both b (prefixb l t) ≡ false
    go true f e = f e
    go false f e = refl

-- they differ in a byte which both have
abbrev pub clash : List ℕ → List ℕ → Bool
clash [] m = false
clash (x ∷ l) [] = false
clash (x ∷ l) (y ∷ m) = pick (eqb x y) (clash l m) true

pub clashes : (l m t : List ℕ) → clash l m ≡ true → prefixb l t ≡ true → prefixb m t ≡ false
clashes [] m t c h = cc
clashes (x ∷ l) [] t c h = cc
clashes (x ∷ l) (y ∷ m) [] c h = cc
clashes (x ∷ l) (y ∷ m) (z ∷ t) c h = go (λ e k. clashes l m t e k) (eqb x z) refl (eqb y z) refl h
  where
    same : (b : Bool) → eqb x y ≡ b → pick b (clash l m) true ≡ true → x ≡ y → clash l m ≡ true
    same true q k e = k
    same false q k e = let z : false ≡ true = sym q ∙ eq-eqb x y e in cc

    go : (clash l m ≡ true → prefixb l t ≡ true → prefixb m t ≡ false) → (a : Bool) → eqb x z ≡ a → (b : Bool) → eqb y z ≡ b
        → both a (prefixb l t) ≡ true → both b (prefixb m t) ≡ false
    go f false p b q k = cc
    go f true p false q k = refl
    go f true p true q k = f (same (eqb x y) refl c (eqb-true x z p ∙ sym (eqb-true y z q))) k

-- they are the same
abbrev pub alike : List ℕ → List ℕ → Bool
alike [] [] = true
alike [] (y ∷ m) = false
alike (x ∷ l) [] = false
alike (x ∷ l) (y ∷ m) = both (eqb x y) (alike l m)

pub alike_same : (l m : List ℕ) → alike l m ≡ true → l ≡ m
alike_same [] [] e = refl
alike_same [] (y ∷ m) e = cc
alike_same (x ∷ l) [] e = cc
alike_same (x ∷ l) (y ∷ m) e = ap₂ ◌∷◌ (eqb-true x y (both_1 (eqb x y) (alike l m) e)) (alike_same l m (both_2 (eqb x y) (alike l m) e))

-- ---- each match of an expression begins with a text that q tells, as a test
abbrev pub opens : (List ℕ → Bool) → Peg → Bool
opens q (lit l) = q l
opens q (range lo hi) = false
opens q any = false
opens q any_byte = false
opens q end = false
opens q (neg p) = false
opens q (seq a b) = opens q a
opens q (alt a b) = both (opens q a) (opens q b)
opens q (star p) = false
opens q (opt p) = false
opens q (quiet p) = false
opens q (rule r p) = opens q p

module _ (q : List ℕ → Bool) (t : List ℕ) (gone : (l : List ℕ) → q l ≡ true → prefixb l t ≡ false) where
  pub misses : (g : Peg) → opens q g ≡ true → run g t ≡ Missed 1
  unfolding run
  misses (lit l) e = ap (λ (b : Bool). pick b (Took (length l) 0) (Missed 1)) (gone l e)
  misses (range lo hi) e = cc
  misses any e = cc
  misses any_byte e = cc
  misses end e = cc
  misses (neg p) e = cc
  misses (seq a b) e = rw (misses a e)
  misses (alt a b) e = rw (misses a (both_1 (opens q a) (opens q b) e), misses b (both_2 (opens q a) (opens q b) e))
  misses (star p) e = cc
  misses (opt p) e = cc
  misses (quiet p) e = cc
  misses (rule r p) e = misses p e
