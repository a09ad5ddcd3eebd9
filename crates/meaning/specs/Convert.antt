-- The converter, as `as_usize` (01, 'Integers'): a text beginning `0x` in base 16 after the prefix, any other in base 10.
use Rattle.std.specs.Prelude.{ℕ, ◌+◌, ◌-◌, ◌*◌, ◌^◌, List, [], ◌∷◌, ltb, leb, eqb, Result, Ok, Err}
use Rattle.meaning.specs.declared.ConversionError.{ConversionError}
use Rattle.meaning.specs.declared.ConversionError.TheVariants.{Empty, BadDigit, TooLarge}
use Rattle.meaning.specs.Choice.{pick, both}

-- 0 to 9, A to Z, a to z, as char::to_digit; 99 is no digit
abbrev pub digit_of : ℕ → ℕ
digit_of b =
    pick (both (leb 48 b) (leb b 57)) (b - 48)
    (pick (both (leb 65 b) (leb b 90)) (b - 55)
    (pick (both (leb 97 b) (leb b 122)) (b - 87) 99))

-- the digits that are left, after those that said acc: a wrong byte anywhere comes before too large
unfoldable pub digits : ℕ → List ℕ → ℕ → Result ℕ ConversionError
digits base [] acc = pick (ltb acc (2 ^ 64)) (Ok acc) (Err TooLarge)
digits base (b ∷ bs) acc = pick (leb base (digit_of b)) (Err BadDigit) (digits base bs (acc * base + digit_of b))

-- `+` alone is a bad digit
abbrev pub some : ℕ → List ℕ → Result ℕ ConversionError
some base [] = Err BadDigit
some base (b ∷ bs) = digits base (b ∷ bs) 0

-- from_str_radix: nothing left to read is empty; one leading `+` is allowed if digits follow
abbrev pub radix : ℕ → List ℕ → Result ℕ ConversionError
radix base [] = Err Empty
radix base (b ∷ bs) = pick (eqb b 43) (some base bs) (digits base (b ∷ bs) 0)

abbrev pub convert : List ℕ → Result ℕ ConversionError
convert [] = radix 10 []
convert (a ∷ []) = radix 10 (a ∷ [])
convert (a ∷ b ∷ s) = pick (both (eqb a 48) (eqb b 120)) (radix 16 s) (radix 10 (a ∷ b ∷ s))

-- 01's number for each answer: 0 converted, 1 empty, 2 bad digit, 3 over 64 bits; and the value, 0 where there is none
abbrev pub reason_of : Result ℕ ConversionError → ℕ
reason_of (Ok v) = 0
reason_of (Err Empty) = 1
reason_of (Err BadDigit) = 2
reason_of (Err TooLarge) = 3

abbrev pub value_of : Result ℕ ConversionError → ℕ
value_of (Ok v) = v
value_of (Err e) = 0
