-- Worked examples of texts: RFC 3629's edges, places, integers, quoted texts, the text of a name.
use Rattle.std.specs.Prelude.{ℕ, refl, List, [], ◌∷◌}
use Prim.Native.String.{String}
use Rattle.meaning.specs.declared.SourceLocation.{SourceLocation}
use Rattle.meaning.specs.Quoted.{bytes}
use Rattle.meaning.specs.Utf8.{character, valid}
use Rattle.meaning.specs.Places.{location, place_at, starts}
use Rattle.meaning.specs.Convert.{digit_of, convert, reason_of, value_of}
use Rattle.meaning.specs.Reading.{name_number, name_text}
use Rattle.meaning.specs.Everything.{everything}
use Rattle.meaning.specs.Examples.{Hold, ◌is◌, ◌are◌}

-- ---- both sides of each border of RFC 3629, section 4: how long the character at the front is, 0 if there is none
pub borders : Hold (
    (character (0x00 ∷ []) is 1)
    ∷ (character (0x7F ∷ []) is 1)
    ∷ (character (0x80 ∷ []) is 0)
    ∷ (character (0xBF ∷ []) is 0)
    ∷ (character (0xC0 ∷ 0x80 ∷ []) is 0)
    ∷ (character (0xC1 ∷ 0xBF ∷ []) is 0)
    ∷ (character (0xC2 ∷ 0x7F ∷ []) is 0)
    ∷ (character (0xC2 ∷ 0x80 ∷ []) is 2)
    ∷ (character (0xDF ∷ 0xBF ∷ []) is 2)
    ∷ (character (0xDF ∷ 0xC0 ∷ []) is 0)
    ∷ (character (0xE0 ∷ 0x9F ∷ 0xBF ∷ []) is 0)
    ∷ (character (0xE0 ∷ 0xA0 ∷ 0x80 ∷ []) is 3)
    ∷ (character (0xE0 ∷ 0xBF ∷ 0xBF ∷ []) is 3)
    ∷ (character (0xE0 ∷ 0xC0 ∷ 0x80 ∷ []) is 0)
    ∷ (character (0xE1 ∷ 0x80 ∷ 0x80 ∷ []) is 3)
    ∷ (character (0xEC ∷ 0xBF ∷ 0xBF ∷ []) is 3)
    ∷ (character (0xED ∷ 0x7F ∷ 0xBF ∷ []) is 0)
    ∷ (character (0xED ∷ 0x80 ∷ 0x80 ∷ []) is 3)
    ∷ (character (0xED ∷ 0x9F ∷ 0xBF ∷ []) is 3)
    ∷ (character (0xED ∷ 0xA0 ∷ 0x80 ∷ []) is 0)
    ∷ (character (0xED ∷ 0xBF ∷ 0xBF ∷ []) is 0)
    ∷ (character (0xEE ∷ 0x80 ∷ 0x80 ∷ []) is 3)
    ∷ (character (0xEF ∷ 0xBF ∷ 0xBF ∷ []) is 3)
    ∷ (character (0xF0 ∷ 0x8F ∷ 0xBF ∷ 0xBF ∷ []) is 0)
    ∷ (character (0xF0 ∷ 0x90 ∷ 0x80 ∷ 0x80 ∷ []) is 4)
    ∷ (character (0xF0 ∷ 0xBF ∷ 0xBF ∷ 0xBF ∷ []) is 4)
    ∷ (character (0xF0 ∷ 0xC0 ∷ 0x80 ∷ 0x80 ∷ []) is 0)
    ∷ (character (0xF1 ∷ 0x80 ∷ 0x80 ∷ 0x80 ∷ []) is 4)
    ∷ (character (0xF3 ∷ 0xBF ∷ 0xBF ∷ 0xBF ∷ []) is 4)
    ∷ (character (0xF4 ∷ 0x7F ∷ 0x80 ∷ 0x80 ∷ []) is 0)
    ∷ (character (0xF4 ∷ 0x80 ∷ 0x80 ∷ 0x80 ∷ []) is 4)
    ∷ (character (0xF4 ∷ 0x8F ∷ 0xBF ∷ 0xBF ∷ []) is 4)
    ∷ (character (0xF4 ∷ 0x90 ∷ 0x80 ∷ 0x80 ∷ []) is 0)
    ∷ (character (0xF5 ∷ 0x80 ∷ 0x80 ∷ 0x80 ∷ []) is 0)
    ∷ (character (0xFF ∷ 0x80 ∷ 0x80 ∷ 0x80 ∷ []) is 0)
    ∷ [])
unfolding everything
borders = refl

-- ---- the longest valid prefix: whole texts, and characters that are cut short or broken
pub prefixes : Hold (
    (valid [] is 0)
    ∷ (valid (0x41 ∷ 0xC3 ∷ 0xA9 ∷ 0xE2 ∷ 0x82 ∷ 0xAC ∷ 0xF0 ∷ 0x9F ∷ 0x8E ∷ 0x9E ∷ 0x42 ∷ []) is 11)
    ∷ (valid (0x41 ∷ 0xC3 ∷ []) is 1)
    ∷ (valid (0x41 ∷ 0xE2 ∷ 0x82 ∷ []) is 1)
    ∷ (valid (0xF0 ∷ 0x9F ∷ 0x8E ∷ []) is 0)
    ∷ (valid (0x41 ∷ 0xFF ∷ 0x42 ∷ []) is 1)
    ∷ (valid (0xC3 ∷ 0xA9 ∷ 0xE2 ∷ 0x82 ∷ 0x42 ∷ []) is 2)
    ∷ (valid (0xF0 ∷ 0x9F ∷ 0x8E ∷ 0x42 ∷ []) is 0)
    ∷ [])
unfolding everything
prefixes = refl

-- ---- places
abbrev told : SourceLocation → List ℕ
told p = p.offset ∷ p.line ∷ p.column ∷ []

-- a, CR, LF, b, HT, LF, LF, VT, c
abbrev three_lines : List ℕ
three_lines = 97 ∷ 13 ∷ 10 ∷ 98 ∷ 9 ∷ 10 ∷ 10 ∷ 11 ∷ 99 ∷ []

pub places : Hold (
    -- among starts that are given: the search ends at the first that is above the offset
    (told (location 5 []) are 5 ∷ 0 ∷ 5 ∷ [])
    ∷ (told (location 2 (0 ∷ 3 ∷ 9 ∷ [])) are 2 ∷ 0 ∷ 2 ∷ [])
    ∷ (told (location 3 (0 ∷ 3 ∷ 9 ∷ [])) are 3 ∷ 1 ∷ 0 ∷ [])
    ∷ (told (location 8 (0 ∷ 3 ∷ 9 ∷ [])) are 8 ∷ 1 ∷ 5 ∷ [])
    ∷ (told (location 11 (0 ∷ 3 ∷ 9 ∷ [])) are 11 ∷ 2 ∷ 2 ∷ [])
    ∷ (told (location 5 (9 ∷ 3 ∷ [])) are 5 ∷ 0 ∷ 5 ∷ [])
    ∷ (told (location 5 (2 ∷ 9 ∷ 4 ∷ [])) are 5 ∷ 0 ∷ 3 ∷ [])
    -- in a text
    ∷ (told (place_at three_lines 0) are 0 ∷ 0 ∷ 0 ∷ [])
    ∷ (told (place_at three_lines 2) are 2 ∷ 0 ∷ 2 ∷ [])
    ∷ (told (place_at three_lines 3) are 3 ∷ 1 ∷ 0 ∷ [])
    ∷ (told (place_at three_lines 5) are 5 ∷ 1 ∷ 2 ∷ [])
    ∷ (told (place_at three_lines 7) are 7 ∷ 3 ∷ 0 ∷ [])
    ∷ (told (place_at three_lines 9) are 9 ∷ 3 ∷ 2 ∷ [])
    ∷ (starts three_lines are 0 ∷ 3 ∷ 6 ∷ 7 ∷ [])
    ∷ (starts [] are 0 ∷ [])
    ∷ [])
unfolding everything
places = refl

-- ---- integers: reason and value
abbrev converted : String → List ℕ
converted s = reason_of (convert (bytes s)) ∷ value_of (convert (bytes s)) ∷ []

pub integers : Hold (
    (converted "0" are 0 ∷ 0 ∷ [])
    ∷ (converted "9" are 0 ∷ 9 ∷ [])
    ∷ (converted "0012" are 0 ∷ 12 ∷ [])
    ∷ (converted "+" are 2 ∷ 0 ∷ [])
    ∷ (converted "++5" are 2 ∷ 0 ∷ [])
    ∷ (converted "5+" are 2 ∷ 0 ∷ [])
    ∷ (converted "-5" are 2 ∷ 0 ∷ [])
    ∷ (converted "*5" are 2 ∷ 0 ∷ [])
    ∷ (converted "/x1" are 2 ∷ 0 ∷ [])
    ∷ (converted "1a" are 2 ∷ 0 ∷ [])
    ∷ (converted "0x1f" are 0 ∷ 31 ∷ [])
    ∷ (converted "0xA9" are 0 ∷ 169 ∷ [])
    ∷ (converted "0x+a" are 0 ∷ 10 ∷ [])
    ∷ (converted "0x+" are 2 ∷ 0 ∷ [])
    ∷ (converted "0x1g" are 2 ∷ 0 ∷ [])
    ∷ (converted "0X1" are 2 ∷ 0 ∷ [])
    ∷ (converted "0y1" are 2 ∷ 0 ∷ [])
    ∷ (converted "1x1" are 2 ∷ 0 ∷ [])
    ∷ (converted "0xFFFFFFFFFFFFFFFF" are 0 ∷ 18446744073709551615 ∷ [])
    ∷ (converted "0x10000000000000000" are 3 ∷ 0 ∷ [])
    -- a wrong byte anywhere comes before too large
    ∷ (converted "18446744073709551616g" are 2 ∷ 0 ∷ [])
    -- digits, with the bytes on both sides of 0 to 9, A to Z, a to z
    ∷ (digit_of 47 is 99) ∷ (digit_of 48 is 0) ∷ (digit_of 57 is 9) ∷ (digit_of 58 is 99)
    ∷ (digit_of 64 is 99) ∷ (digit_of 65 is 10) ∷ (digit_of 90 is 35) ∷ (digit_of 91 is 99)
    ∷ (digit_of 96 is 99) ∷ (digit_of 97 is 10) ∷ (digit_of 122 is 35) ∷ (digit_of 123 is 99)
    ∷ [])
unfolding everything
integers = refl

-- ---- quoted texts, and the text of a name: 6 where it ends past its source
abbrev six : List ℕ
six = bytes "abcdef"

pub names : Hold (
    (bytes "" are [])
    ∷ (bytes "aZ\"\n" are 97 ∷ 90 ∷ 34 ∷ 10 ∷ [])
    ∷ (name_number six 1 3 is 0) ∷ (name_text six 1 3 are bytes "bcd")
    ∷ (name_number six 4 2 is 0) ∷ (name_text six 4 2 are bytes "ef")
    ∷ (name_number six 6 0 is 0) ∷ (name_text six 6 0 are [])
    ∷ (name_number six 4 3 is 6) ∷ (name_text six 4 3 are [])
    ∷ (name_number six 7 0 is 6) ∷ (name_text six 7 0 are [])
    ∷ [])
names = refl
