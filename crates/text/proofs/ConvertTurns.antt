-- What the turns and returns of the converter show of the digits.
use Prim.Native.Nat.{ℕ, ◌+◌, ◌*◌, ◌^◌, ◌≤◌, ◌<◌}
use mathlib.Core.Path.{◌≡◌, refl, ap, ◌∙◌}
use mathlib.Core.List.{List, [], ◌∷◌}
use native.Mathlib.Numerals.{add-one}
use native.Mathlib.Nat.{mul-le-mul_left, mul-one}
use native.Mathlib.Omega.{arith}
use borrow.Author.Tests.{le-leb, lt-leb, le-ltb, ltb-false}
use lib.ListN.{length, get_or, drop, drop_of_length-le}
use lib.Seq.{drop-cons}
use lib.Dec.{leb}
use Rattle.std.specs.Prelude.{Option, Some, None, Result, Ok, Err, SomeIff, Bool, true, false, ltb}
use Rattle.std.specs.Option.{ok_or}
use Rattle.meaning.specs.declared.ConversionError.{ConversionError}
use Rattle.meaning.specs.declared.ConversionError.TheVariants.{BadDigit, TooLarge}
use Rattle.meaning.specs.Choice.{pick}
use Rattle.meaning.specs.Convert.{digit_of, digits}
use Rattle.text.specs.Fitting.{in_range, reached}

-- ---- the digits: one more, and the end
module _ (base : ℕ) (s : List ℕ) (i : ℕ) where
  digits_step : (acc : ℕ) → i < length s
      → digits base (drop i s) acc ≡ pick (leb base (digit_of (get_or s i 0))) (Err BadDigit)
      (digits base (drop (i + 1) s) (acc * base + digit_of (get_or s i 0)))
  unfolding digits
  digits_step acc h = rw (add-one i, drop-cons s i 0)

  pub digits_end : (n : Option ℕ) (r : Result ℕ ConversionError) → length s ≤ i → in_range (reached n) ≡ n → r ≡ ok_or n TooLarge
      → r ≡ digits base (drop i s) (reached n)
  unfolding digits
  digits_end None r h k e = rw (drop_of_length-le s h) e
  digits_end (Some n) r h k e = rw (drop_of_length-le s h) (e ∙ kept (ltb n (2 ^ 64)) k)
    where
      kept : (b : Bool) → pick b (Some n) None ≡ Some n → Ok n ≡ pick b (Ok n) (Err TooLarge)
      kept true f = refl
      kept false f = grind arith

-- too large stays too large, and all that are too large say the same
grows : (base d acc : ℕ) → 1 ≤ base → 2 ^ 64 ≤ acc → 2 ^ 64 ≤ acc * base + d
grows base d acc b h =
    let q : acc * 1 ≤ acc * base = mul-le-mul_left acc b in
    let e : acc * 1 ≡ acc = mul-one acc in
    omega arith

beyond_all : (base : ℕ) (bs : List ℕ) (m n : ℕ) → 1 ≤ base → 2 ^ 64 ≤ m → 2 ^ 64 ≤ n → digits base bs m ≡ digits base bs n
unfolding digits
beyond_all base [] m n b h k = simp (le-ltb _ _ h, le-ltb _ _ k)
beyond_all base (x ∷ bs) m n b h k =
    ap (pick (leb base (digit_of x)) (Err BadDigit))
    (beyond_all base bs (m * base + digit_of x) (n * base + digit_of x) b (grows base (digit_of x) m b h) (grows base (digit_of x) n b k))

range_digits : (base : ℕ) (bs : List ℕ) (n : ℕ) → 1 ≤ base → digits base bs n ≡ digits base bs (reached (in_range n))
range_digits base bs n b = by_cases (ltb n (2 ^ 64)) refl
  where
    by_cases : (x : Bool) → ltb n (2 ^ 64) ≡ x → digits base bs n ≡ digits base bs (reached (pick x (Some n) None))
    by_cases true e = refl
    by_cases false e = beyond_all base bs n (2 ^ 64) b (ltb-false _ _ e) (omega arith)

pub in_range_once : (n : ℕ) → in_range (reached (in_range n)) ≡ in_range n
in_range_once n = by_cases (ltb n (2 ^ 64)) refl
  where
    by_cases : (x : Bool) → ltb n (2 ^ 64) ≡ x → in_range (reached (pick x (Some n) None)) ≡ pick x (Some n) None
    by_cases true e = simp e
    by_cases false e = refl

-- what a digit or none says
no_digit : (o : Option ℕ) {P : Type 0} (d : ℕ) {x : ConversionError} → SomeIff o P d → ok_or o BadDigit ≡ Err x → (P → ⊥) × (x ≡ BadDigit)
no_digit None d e k = (e, grind arith)
no_digit (Some v) d e k = grind arith

a_digit : (o : Option ℕ) {P : Type 0} {d v : ℕ} → SomeIff o P d → ok_or o BadDigit ≡ Ok v → P × (v ≡ d)
a_digit None e k = grind arith
a_digit (Some w) e k = (e.0, grind arith)

-- one turn of the loop: o is the digit, if there is one
module _ (base : ℕ) (s : List ℕ) (i acc : ℕ) (h : i < length s) (o : Option ℕ)
    (e : SomeIff o (digit_of (get_or s i 0) < base) (digit_of (get_or s i 0))) where
  pub turn_bad : {x : ConversionError} → ok_or o BadDigit ≡ Err x → digits base (drop i s) acc ≡ Err x
  turn_bad k =
      let p = no_digit o _ e k in
      rw p.1 (digits_step base s i acc h ∙ simp (le-leb base (digit_of (get_or s i 0)) (omega (arith, p.0))))

  pub turn_good : {d : ℕ} → ok_or o BadDigit ≡ Ok d → 1 ≤ base
      → digits base (drop i s) acc ≡ digits base (drop (i + 1) s) (reached (in_range (acc * base + d)))
  turn_good k b =
      let p = a_digit o e k in
      rw p.1 (digits_step base s i acc h ∙ rw (lt-leb base (digit_of (get_or s i 0)) p.0)
      (range_digits base (drop (i + 1) s) (acc * base + digit_of (get_or s i 0)) b))
