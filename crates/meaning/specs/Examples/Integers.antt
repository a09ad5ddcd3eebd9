-- Worked examples of refusal 4: every integer that a description can have, and the first one of several in the walk's order.
use Rattle.std.specs.Prelude.{ℕ, refl, List, [], ◌∷◌, ◌++◌}
use Prim.Native.String.{String}
use Rattle.meaning.specs.Quoted.{bytes}
use Rattle.meaning.specs.Forest.{nil}
use Rattle.meaning.specs.Tables.{first_bad}
use Rattle.meaning.specs.Walk.{described}
use Rattle.meaning.specs.Reading.{Reading, refused, accepted, reading}
use Rattle.meaning.specs.Everything.{everything}
use Rattle.meaning.specs.Examples.Readings.{keyword}
use Rattle.meaning.specs.Examples.{Hold, ◌is◌, ◌are◌}

abbrev told : Reading → List ℕ
told (refused n p r) = n ∷ p ∷ r ∷ []
told (accepted e xs) = []

-- the refusal of a declaration behind the keyword line; of a packet's fields behind `packet P {`, where offset 29 is; of tags behind
-- `enum E:8{`, where offset 28 is
abbrev declared : String → List ℕ
declared s = told (reading (keyword ++ bytes s))

abbrev fielded : String → List ℕ
fielded s = told (reading (keyword ++ bytes "packet P {" ++ bytes s ++ bytes "}"))

abbrev tagged : String → List ℕ
tagged s = told (reading (keyword ++ bytes "enum E:8{" ++ bytes s ++ bytes "}"))

-- 4, the place and the reason 2: `0X` is no prefix
abbrev bad_at : ℕ → List ℕ
bad_at p = 4 ∷ p ∷ 2 ∷ []

pub in_declarations : Hold (
    (declared "enum E:0X1{A=1}" are bad_at 26)
    ∷ (declared "checksum C:0X1\"\"" are bad_at 30)
    ∷ (declared "custom_field F:0X1\"\"" are bad_at 34)
    ∷ (declared "packet P(a=0X1){}" are bad_at 30)
    ∷ (tagged "A=0X1" are bad_at 30)
    ∷ (tagged "A=0X1..2" are bad_at 30)
    ∷ (tagged "A=1..0X2" are bad_at 33)
    ∷ (tagged "A=1..2{B=0X1}" are bad_at 37)
    -- both ends of a range before its tags; a header's constraint before the fields; a width before the tags
    ∷ (tagged "A=0X1..0X2{B=0X3}" are bad_at 30)
    ∷ (tagged "A=1..0X2{B=0X3}" are bad_at 33)
    ∷ (declared "packet P(a=0X1){x:0X2}" are bad_at 30)
    ∷ (declared "enum E:0X1{A=0X2}" are bad_at 26)
    ∷ (declared "packet P{x:0X1}packet Q{x:0X2}" are bad_at 30)
    ∷ (declared "packet P{}packet Q{x:0X2}" are bad_at 40)
    ∷ (tagged "A=18446744073709551616" are 4 ∷ 30 ∷ 3 ∷ [])
    ∷ [])
unfolding everything
in_declarations = refl

-- no integer, no place and no reason; what is no description has no kind
pub nothing : Hold (((first_bad []).place is 0) ∷ ((first_bad []).reason is 0) ∷ ((described nil).kind is 0) ∷ [])
unfolding everything
nothing = refl

pub in_fields : Hold (
    (fielded "_padding_[0X1]" are bad_at 39)
    ∷ (fielded "_size_(a):0X1" are bad_at 39)
    ∷ (fielded "_size_(_body_):0X1" are bad_at 44)
    ∷ (fielded "_count_(a):0X1" are bad_at 40)
    ∷ (fielded "_elementsize_(a):0X1" are bad_at 46)
    ∷ (fielded "_fixed_=0X1:8" are bad_at 37)
    ∷ (fielded "_fixed_=1:0X8" are bad_at 39)
    ∷ (fielded "_reserved_:0X1" are bad_at 40)
    ∷ (fielded "a:0X1[]" are bad_at 31)
    ∷ (fielded "a:8[0X1]" are bad_at 33)
    ∷ (fielded "a:T[0X1]" are bad_at 33)
    ∷ (fielded "a:0X1" are bad_at 31)
    ∷ (fielded "G{a=0X1}" are bad_at 33)
    ∷ (fielded "G if a=0X1" are bad_at 36)
    -- source order, but a field's condition before its description
    ∷ (fielded "_fixed_=0X1:0X8" are bad_at 37)
    ∷ (fielded "a:0X1[0X2]" are bad_at 31)
    ∷ (fielded "G{a=0X1,b=0X2}" are bad_at 33)
    ∷ (fielded "G{a=0X1}if b=0X2" are bad_at 42)
    ∷ (fielded "a:1,b:0X2,c:0X3" are bad_at 35)
    -- a size modifier's number is not converted
    ∷ (fielded "_payload_:[+18446744073709551616]" are [])
    ∷ [])
unfolding everything
in_fields = refl
