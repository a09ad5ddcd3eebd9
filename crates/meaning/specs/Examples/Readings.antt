-- Worked examples of readings: rows of every kind with every word, optional parts there and not there, and the place of 3.
use Rattle.std.specs.Prelude.{ℕ, ◌≡◌, refl, List, [], ◌∷◌, ◌++◌}
use Prim.Native.String.{String}
use Rattle.meaning.specs.Quoted.{bytes}
use Rattle.meaning.specs.Reading.{reading}
use Rattle.meaning.specs.Everything.{everything}
use Rattle.meaning.specs.Papers.{printed}
use Rattle.meaning.specs.Examples.{Hold, ◌are◌}

abbrev pub keyword : List ℕ
keyword = bytes "big_endian_packets\n"

-- lines, each with its LF
abbrev pub written : List String → List ℕ
written [] = []
written (s ∷ ss) = bytes s ++ 10 ∷ written ss

-- ---- declarations of all six kinds and a test, fields of all fourteen, tags of all four, both constraints, both comments
abbrev pub all_kinds : List ℕ
all_kinds =
    bytes "/* a\n"
    ++ bytes " */ enum E : 8 { A = 1, R = 2..4 { B = 3 }, O = .. }\n"
    ++ bytes "packet P : Q (x = 1, y = A) { a: 8 if s = 1, _checksum_start_(c), _padding_[1], _size_(a): 8,\n"
    ++ bytes "  _count_(a): 8, _elementsize_(a): 8, _body_, _fixed_ = 1 : 8, _fixed_ = A : E }\n"
    ++ bytes "struct S { _payload_ : [+1], _reserved_ : 8, b: 8[4], t: E }\n"
    ++ bytes "group G { G { x = 1 }, H } // b\n"
    ++ bytes "checksum C : 8 \"\" custom_field F : 8 \"f\" test P { \"00\" }"

pub every_kind : printed (reading (keyword ++ all_kinds)) ≡ written (
    "E 2 0 0 0 19 1 0"
    ∷ "D 1 28 2 4 76 2 52 33 1 0 0 1 8 0 4 0 0"
    ∷ "D 2 77 3 0 251 4 80 84 1 88 1 0 0 0 9 0 2"
    ∷ "D 3 252 5 0 312 5 60 259 1 0 0 0 0 9 4 0 0"
    ∷ "D 4 313 6 0 339 6 26 319 1 0 0 0 0 13 2 0 0"
    ∷ "D 5 345 7 0 362 7 17 354 1 361 0 1 8 0 0 0 0"
    ∷ "D 6 363 7 18 385 7 40 376 1 383 1 1 8 0 0 0 0"
    ∷ "F 12 107 3 30 120 3 43 107 1 0 0 0 0 1 8 0 0 0 0 3"
    ∷ "F 1 122 3 45 141 3 64 139 1 0 0 0 0 0 0 0 0 0 0 0"
    ∷ "F 2 143 3 66 155 3 78 0 0 0 0 0 0 1 1 0 0 0 0 0"
    ∷ "F 3 157 3 80 169 3 92 164 1 0 0 0 0 1 8 0 0 0 0 0"
    ∷ "F 4 173 4 2 186 4 15 181 1 0 0 0 0 1 8 0 0 0 0 0"
    ∷ "F 5 188 4 17 207 4 36 202 1 0 0 0 0 1 8 0 0 0 0 0"
    ∷ "F 6 209 4 38 215 4 44 0 0 0 0 0 0 0 0 0 0 0 0 0"
    ∷ "F 8 217 4 46 232 4 61 0 0 0 0 0 0 1 8 1 1 0 0 0"
    ∷ "F 9 234 4 63 250 4 79 248 1 244 1 0 0 0 0 0 0 0 0 0"
    ∷ "F 7 263 5 11 279 5 27 0 0 0 0 276 2 0 0 0 0 0 0 0"
    ∷ "F 10 281 5 29 295 5 43 0 0 0 0 0 0 1 8 0 0 0 0 0"
    ∷ "F 11 297 5 45 304 5 52 297 1 0 0 0 0 1 8 1 4 0 0 0"
    ∷ "F 13 306 5 54 311 5 59 306 1 309 1 0 0 0 0 0 0 0 0 0"
    ∷ "F 14 323 6 10 334 6 21 323 1 0 0 0 0 0 0 0 0 3 1 0"
    ∷ "F 14 336 6 23 338 6 25 336 1 0 0 0 0 0 0 0 0 0 0 0"
    ∷ "T 1 41 2 17 46 2 22 41 1 1 0 0"
    ∷ "T 2 48 2 24 66 2 42 48 1 2 4 1"
    ∷ "T 4 59 2 35 64 2 40 59 1 3 0 0"
    ∷ "T 3 68 2 44 74 2 50 68 1 0 0 0"
    ∷ "C 1 91 3 14 96 3 19 91 1 0 0 1"
    ∷ "C 2 98 3 21 103 3 26 98 1 102 1 0"
    ∷ "C 1 115 3 38 120 3 43 115 1 0 0 1"
    ∷ "C 1 327 6 14 332 6 19 327 1 0 0 1"
    ∷ "M 1 19 1 0 27 2 3"
    ∷ "M 2 340 6 27 344 6 31" ∷ [])
unfolding everything
every_kind = refl

-- ---- optional parts the other way: a parent and constraints of a struct, hexadecimal integers, last commas, a range without tags, sizes of
-- payload and body, arrays of each form, empty braces, no width; comments directly before and behind, and none in a string
abbrev other_parts : List ℕ
other_parts =
    bytes "little_endian_packets\tstruct S : P (a = B) {}\r\n"
    ++ bytes "enum E : 0x10 { A = 0xfF, B = 3..4 , C = 5..6 {D = 5, F = 6,}, } "
    ++ bytes "group G { _size_(_payload_): 1, _size_(_body_): 2, _payload_, a: T[], b: 3[+4], c: T[5], d: 6[7] if e = F,\n"
    ++ bytes " G {}, _fixed_ = 9 : 8 }\n"
    ++ bytes "custom_field F \"x//y\" /*/**/test T { \"a\", \"b\", }//"

pub otherwise : printed (reading other_parts) ≡ written (
    "E 1 0 0 0 22 0 22"
    ∷ "D 3 22 0 22 45 0 45 29 1 33 1 0 0 0 0 0 1"
    ∷ "D 1 47 1 0 111 1 64 52 1 0 0 1 16 0 5 0 0"
    ∷ "D 4 112 1 65 243 2 24 118 1 0 0 0 0 0 9 0 0"
    ∷ "D 6 244 3 0 265 3 21 257 1 260 4 0 0 0 0 0 0"
    ∷ "F 3 122 1 75 142 1 95 129 9 0 0 0 0 1 1 0 0 0 0 0"
    ∷ "F 3 144 1 97 161 1 114 151 6 0 0 0 0 1 2 0 0 0 0 0"
    ∷ "F 7 163 1 116 172 1 125 0 0 0 0 0 0 0 0 0 0 0 0 0"
    ∷ "F 11 174 1 127 180 1 133 174 1 177 1 0 0 0 0 0 0 0 0 0"
    ∷ "F 11 182 1 135 190 1 143 182 1 0 0 187 2 1 3 0 0 0 0 0"
    ∷ "F 11 192 1 145 199 1 152 192 1 195 1 0 0 0 0 1 5 0 0 0"
    ∷ "F 11 201 1 154 217 1 170 201 1 0 0 0 0 1 6 1 7 0 0 2"
    ∷ "F 14 220 2 1 224 2 5 220 1 0 0 0 0 0 0 0 0 0 0 0"
    ∷ "F 8 226 2 7 242 2 23 0 0 0 0 0 0 1 8 1 9 0 0 0"
    ∷ "T 1 63 1 16 71 1 24 63 1 255 0 0"
    ∷ "T 2 73 1 26 82 1 35 73 1 3 4 0"
    ∷ "T 2 84 1 37 108 1 61 84 1 5 6 2"
    ∷ "T 4 94 1 47 99 1 52 94 1 5 0 0"
    ∷ "T 4 101 1 54 106 1 59 101 1 6 0 0"
    ∷ "C 2 36 0 36 41 0 41 36 1 40 1 0"
    ∷ "C 2 212 1 165 217 1 170 212 1 216 1 0"
    ∷ "M 1 266 3 22 272 3 28"
    ∷ "M 2 292 3 48 294 3 50" ∷ [])
unfolding everything
otherwise = refl

-- ---- firsts and conditions that count rows of earlier declarations and fields; a group's constraints before its condition
abbrev counted : List ℕ
counted =
    bytes "big_endian_packets\nenum A : 1 { X = 1 } enum B : 2 { Y = 2 }\n"
    ++ bytes "packet P (a = 1) { G { b = 1, c = D } if e = 2, H { f = 3 }, i: 1 if j = K }\n"
    ++ bytes "packet Q (g = 4) { h: 8 }"

pub later_rows : printed (reading counted) ≡ written (
    "E 2 0 0 0 19 1 0"
    ∷ "D 1 19 1 0 39 1 20 24 1 0 0 1 1 0 1 0 0"
    ∷ "D 1 40 1 21 60 1 41 45 1 0 0 1 2 1 1 0 0"
    ∷ "D 2 61 2 0 137 2 76 68 1 0 0 0 0 0 3 0 1"
    ∷ "D 2 138 3 0 163 3 25 145 1 0 0 0 0 3 1 6 1"
    ∷ "F 14 80 2 19 107 2 46 80 1 0 0 0 0 0 0 0 0 1 2 4"
    ∷ "F 14 109 2 48 120 2 59 109 1 0 0 0 0 0 0 0 0 4 1 0"
    ∷ "F 12 122 2 61 135 2 74 122 1 0 0 0 0 1 1 0 0 0 0 6"
    ∷ "F 12 157 3 19 162 3 24 157 1 0 0 0 0 1 8 0 0 0 0 0"
    ∷ "T 1 32 1 13 37 1 18 32 1 1 0 0"
    ∷ "T 1 53 1 34 58 1 39 53 1 2 0 0"
    ∷ "C 1 71 2 10 76 2 15 71 1 0 0 1"
    ∷ "C 1 84 2 23 89 2 28 84 1 0 0 1"
    ∷ "C 2 91 2 30 96 2 35 91 1 95 1 0"
    ∷ "C 1 102 2 41 107 2 46 102 1 0 0 2"
    ∷ "C 1 113 2 52 118 2 57 113 1 0 0 3"
    ∷ "C 2 130 2 69 135 2 74 130 1 134 1 0"
    ∷ "C 1 148 3 10 153 3 15 148 1 0 0 4" ∷ [])
unfolding everything
later_rows = refl

-- ---- blanks before the endianness line, characters of several bytes; and the place of 3: after leading blanks where that line does not
-- match, else after the blanks behind the last whole declaration
abbrev lines_of : String → List ℕ
lines_of s = printed (reading (bytes s))

pub places : Hold (
    (printed (reading (bytes " /*" ++ 0xC3 ∷ 0xA9 ∷ bytes "*/\nbig_endian_packets\rtest T { \"" ++ 0xE2 ∷ 0x82 ∷ 0xAC ∷ bytes "\" } packet P {}")) are
    written (
    "E 2 8 1 0 27 1 19"
    ∷ "D 2 44 1 36 55 1 47 51 1 0 0 0 0 0 0 0 0"
    ∷ "M 1 1 0 1 7 0 7" ∷ []))
    -- comments in a declaration and behind it, in their order
    ∷ (lines_of "big_endian_packets\npacket A {/*a*/ x: 8 //b\n}//c" are
    written ("E 2 0 0 0 19 1 0" ∷ "D 2 19 1 0 45 2 1 26 1 0 0 0 0 0 1 0 0" ∷ "F 12 35 1 16 44 2 0 35 1 0 0 0 0 1 8 0 0 0 0 0" ∷ "M 1 29 1 10 34 1 15"
    ∷ "M 2 40 1 21 43 1 24" ∷ "M 2 45 2 1 48 2 4" ∷ []))
    ∷ (lines_of "  x" are bytes "R 3 2 0\n")
    ∷ (lines_of "//c\n/**/ x" are bytes "R 3 9 0\n")
    ∷ (lines_of "big_endian_packet\n" are bytes "R 3 0 0\n")
    ∷ (lines_of " little_endian_packets packet" are bytes "R 3 23 0\n")
    ∷ (lines_of "big_endian_packets\n /*" are bytes "R 3 20 0\n")
    ∷ (lines_of "big_endian_packets\n/* packet A {}" are bytes "R 3 19 0\n")
    ∷ (lines_of "big_endian_packets\npacket A {} /**/ x" are bytes "R 3 36 0\n")
    ∷ (lines_of "big_endian_packets\npacket A {} packet B {" are bytes "R 3 31 0\n")
    ∷ (lines_of "big_endian_packets\ntest T { \"a\" } x" are bytes "R 3 34 0\n")
    ∷ [])
unfolding everything
places = refl
