-- Laws of lines: the digits that the library spells are the number's, and a loop's next word and next row.
use Rattle.std.specs.Prelude.{ℕ, zero, suc, ◌+◌, ◌-◌, ◌*◌, ◌/◌, ◌%◌, ◌^◌, ◌≤◌, ◌<◌, ◌≡◌, refl, List, [], ◌∷◌, ◌++◌, Bool, true, false, leb, length, get_or, take, drop}
use Rattle.std.proofs.Common.{◌∙◌, mod-lt, mod-eq_of_lt, pow-suc, le-div_iff_mul-le, div-lt_iff_lt-mul, add-one, arith, drop_of_length-le, drop-cons, lt-ltb, le-ltb, leb-true, leb-false}
use Rattle.std.proofs.Math.Nat.{one-le-pow, pow-le-pow_right}
use Rattle.io.specs.Digits.{last_digits, hex_digit_ascii, IsDigitCount}
use Rattle.printing.specs.declared.pages.Page as lent
use Rattle.printing.specs.Pages.{Wrote}
use Rattle.printing.specs.Lines.{digits_of, decimal, words, line, lines}

-- a digit below ten
below_ten : (d : ℕ) → d < 10 → hex_digit_ascii d ≡ 48 + d
below_ten d h = rw (lt-ltb d 10 h)

-- ten times less, and a digit fewer
fewer : (n j : ℕ) → 10 ^ suc j ≤ n → n < 10 ^ suc (suc j) → IsDigitCount 10 1 (n / 10) (suc j)
fewer n j low high =
    let z : 0 < 10 = omega arith in
    let e : suc j - 1 ≡ j = omega arith in
    let h : n < 10 ^ suc j * 10 = rw (pow-suc 10 (suc j)) at high in
    let l : 10 ^ j * 10 ≤ n = rw (pow-suc 10 j) at low in
    (omega arith, (div-lt_iff_lt-mul z).1 h, (λ _. rw e ((le-div_iff_mul-le z).1 l)))

spelled : (f n k : ℕ) → k ≤ f → IsDigitCount 10 1 n k → last_digits 10 k n ≡ digits_of f n
unfolding digits_of
spelled f n zero h w = absurd (omega (arith, w.0))
spelled zero n (suc k) h w = absurd (omega arith)
spelled (suc f) n (suc zero) h w =
    let low : n < 10 = w.1 in
    rw (mod-eq_of_lt low, lt-ltb n 10 low)
spelled (suc f) n (suc (suc j)) h w =
    let e : suc (suc j) - 1 ≡ suc j = omega arith in
    let low : 10 ^ suc j ≤ n = rw e at (w.2 (omega arith)) in
    let one : 1 ≤ 10 ^ j = one-le-pow j 10 (omega arith) in
    let ten : 10 ^ suc j ≡ 10 ^ j * 10 = pow-suc 10 j in
    let more : 10 ≤ n = omega arith in
    let last : n % 10 < 10 = mod-lt n (omega arith) in
    rw (le-ltb n 10 more, below_ten (n % 10) last, spelled f (n / 10) (suc j) (omega arith) (fewer n j low w.1))

-- a number of 64 bits takes 20 digits at most
twenty : (n k : ℕ) → n < 2 ^ 64 → IsDigitCount 10 1 n k → k ≤ 20
twenty n k small w = go (leb k 20) refl
  where
    go : (b : Bool) → leb k 20 ≡ b → k ≤ 20
    go true e = leb-true k 20 e
    go false e =
        let more : 20 < k = leb-false k 20 e in
        let z : 0 < 10 = omega arith in
        let h : 20 ≤ k - 1 = omega arith in
        let high : 10 ^ 20 ≤ 10 ^ (k - 1) = pow-le-pow_right z h in
        let low : 10 ^ (k - 1) ≤ n = w.2 (omega arith) in
        absurd (omega arith)

pub number_wrote : (n k : ℕ) (ds : List ℕ) (p q : lent.Page)
    → n < 2 ^ 64 → IsDigitCount 10 1 n k → take k ds ≡ last_digits 10 k n → Wrote (take k ds) p q → Wrote (decimal n) p q
number_wrote n k ds p q small w e t = rw (e ∙ spelled 20 n k (twenty n k small w) w) at t

-- the next word of a line
pub next_word : (t : List ℕ) (i : ℕ) → i < length t → words (drop i t) ≡ (32 ∷ decimal (get_or t i 0)) ++ words (drop (i + 1) t)
unfolding words
next_word t i h = rw (add-one i, drop-cons t i 0 h)

pub no_word : (t : List ℕ) (i : ℕ) → length t ≤ i → words (drop i t) ≡ []
unfolding words
no_word t i h = rw (drop_of_length-le t h)

-- the next row of a table
pub next_row : (letter size count k : ℕ) (t : List ℕ) → k < count → size ≤ length t
    → lines letter size (count - k) t ≡ line letter (take size t) ++ lines letter size (count - (k + 1)) (drop size t)
unfolding lines
next_row letter size count k t h l =
    let e : count - k ≡ suc (count - (k + 1)) = omega arith in
    rw (e, le-ltb (length t) size l) refl

-- no row is asked for, or the next does not fit whole
pub no_row_asked : (letter size count k : ℕ) (t : List ℕ) → count ≤ k → lines letter size (count - k) t ≡ []
unfolding lines
no_row_asked letter size count k t h = let e : count - k ≡ 0 = omega arith in rw e refl

pub no_row_there : (letter size left : ℕ) (t : List ℕ) → length t < size → lines letter size left t ≡ []
unfolding lines
no_row_there letter size zero t l = refl
no_row_there letter size (suc k) t l = rw (lt-ltb (length t) size l) refl
