-- Laws of the converter: what each kind of text converts to, and which texts have reason 1.
use Rattle.std.specs.Prelude.{ℕ, ◌+◌, ◌*◌, ◌^◌, ◌≤◌, ◌<◌, ◌≡◌, refl, List, [], ◌∷◌, Bool, true, false, ◌⊎◌, ltb, leb, eqb, Result, Ok, Err}
use Rattle.std.proofs.Common.{inl, inr, arith, ne_eqb, eqb-true}
use Rattle.std.proofs.lemmas.Bool.{lt-leb}
use Rattle.meaning.specs.declared.ConversionError.{ConversionError}
use Rattle.meaning.specs.declared.ConversionError.TheVariants.{Empty, BadDigit, TooLarge}
use Rattle.meaning.specs.Choice.{pick, both}
use Rattle.meaning.specs.Convert.{digit_of, digits, some, radix, convert, reason_of}
use Rattle.text.specs.ChoiceLaws.{both_is, both_false}

-- ---- digits only: the number that they say, if it fits
unfoldable pub Digits : ℕ → List ℕ → Type 0
Digits base [] = Unit
Digits base (b ∷ bs) = (digit_of b < base) × Digits base bs

unfoldable pub number : ℕ → List ℕ → ℕ → ℕ
number base [] acc = acc
number base (b ∷ bs) acc = number base bs (acc * base + digit_of b)

abbrev pub settled : ℕ → Result ℕ ConversionError
settled n = pick (ltb n (2 ^ 64)) (Ok n) (Err TooLarge)

digits_good : (base : ℕ) (bs : List ℕ) (acc : ℕ) → Digits base bs → digits base bs acc ≡ settled (number base bs acc)
unfolding digits Digits number
digits_good base [] acc h = refl
digits_good base (b ∷ bs) acc h = rw (lt-leb base (digit_of b) h.0) (digits_good base bs (acc * base + digit_of b) h.1)

-- a byte with a digit in the base is no sign
no_sign : (base b : ℕ) → base ≤ 36 → digit_of b < base → b ≡ 43 → ⊥
no_sign base b k h e = let d : digit_of b ≡ 99 = rw e in omega arith

radix_good : (base b : ℕ) (bs : List ℕ) → base ≤ 36 → Digits base (b ∷ bs) → radix base (b ∷ bs) ≡ settled (number base (b ∷ bs) 0)
unfolding Digits
radix_good base b bs k h = rw (ne_eqb b 43 (no_sign base b k h.0)) (digits_good base (b ∷ bs) 0 h)

-- what holds an `x` is no decimal
pub convert_decimal : (b : ℕ) (bs : List ℕ) → Digits 10 (b ∷ bs) → convert (b ∷ bs) ≡ settled (number 10 (b ∷ bs) 0)
unfolding Digits
convert_decimal b [] h = radix_good 10 b [] (omega arith) h
convert_decimal b (x ∷ bs) h =
    let e : (x ≡ 120 → ⊥) = λ q. (let d : digit_of x ≡ 33 = rw q in omega (arith, h.1.0)) in
    rw (ne_eqb x 120 e, both_false (eqb b 48)) (radix_good 10 b (x ∷ bs) (omega arith) h)

pub convert_hex : (b : ℕ) (bs : List ℕ) → Digits 16 (b ∷ bs) → convert (48 ∷ 120 ∷ b ∷ bs) ≡ settled (number 16 (b ∷ bs) 0)
convert_hex b bs h = radix_good 16 b bs (omega arith) h

-- ---- `0X` is no prefix; a plus sign alone is a bad digit; only nothing is empty
convert_upper : (s : List ℕ) → convert (48 ∷ 88 ∷ s) ≡ Err BadDigit
unfolding digits
convert_upper s = refl

convert_plus : convert (43 ∷ []) ≡ Err BadDigit
convert_plus = refl

convert_prefix_plus : convert (48 ∷ 120 ∷ 43 ∷ []) ≡ Err BadDigit
convert_prefix_plus = refl

convert_nothing : convert [] ≡ Err Empty
convert_nothing = refl

convert_prefix : convert (48 ∷ 120 ∷ []) ≡ Err Empty
convert_prefix = refl

full_pick : (b : Bool) (c d : Result ℕ ConversionError) → (reason_of c ≡ 1 → ⊥) → (reason_of d ≡ 1 → ⊥) → reason_of (pick b c d) ≡ 1 → ⊥
full_pick true c d f g = f
full_pick false c d f g = g

digits_full : (base : ℕ) (bs : List ℕ) (acc : ℕ) → reason_of (digits base bs acc) ≡ 1 → ⊥
unfolding digits
digits_full base [] acc = full_pick (ltb acc (2 ^ 64)) (Ok acc) (Err TooLarge) (λ e. omega arith) (λ e. omega arith)
digits_full base (b ∷ bs) acc =
    full_pick (leb base (digit_of b)) (Err BadDigit) (digits base bs (acc * base + digit_of b)) (λ e. omega arith)
    (digits_full base bs (acc * base + digit_of b))

some_full : (base : ℕ) (bs : List ℕ) → reason_of (some base bs) ≡ 1 → ⊥
some_full base [] e = omega arith
some_full base (b ∷ bs) e = digits_full base (b ∷ bs) 0 e

radix_full : (base b : ℕ) (bs : List ℕ) → reason_of (radix base (b ∷ bs)) ≡ 1 → ⊥
radix_full base b bs = full_pick (eqb b 43) (some base bs) (digits base (b ∷ bs) 0) (some_full base bs) (digits_full base (b ∷ bs) 0)

prefix_empty : (x : Bool) (s : List ℕ) (d : Result ℕ ConversionError) → (reason_of d ≡ 1 → ⊥) → reason_of (pick x (radix 16 s) d) ≡ 1 → (x ≡ true) × (s ≡ [])
prefix_empty true [] d f e = (refl, refl)
prefix_empty true (b ∷ s) d f e = absurd (radix_full 16 b s e)
prefix_empty false s d f e = absurd (f e)

-- reason 1 is nothing at all, or the prefix alone
pub only_empty : (s : List ℕ) → reason_of (convert s) ≡ 1 → (s ≡ []) ⊎ (s ≡ 48 ∷ 120 ∷ [])
only_empty [] e = inl refl
only_empty (a ∷ []) e = absurd (radix_full 10 a [] e)
only_empty (a ∷ b ∷ s) e =
    let p = prefix_empty (both (eqb a 48) (eqb b 120)) s (radix 10 (a ∷ b ∷ s)) (radix_full 10 a (b ∷ s)) e in
    let q = both_is (eqb a 48) (eqb b 120) p.0 in
    let x : a ≡ 48 = eqb-true a 48 q.0 in
    let y : b ≡ 120 = eqb-true b 120 q.1 in
    inr (rw (x, y, p.1))
