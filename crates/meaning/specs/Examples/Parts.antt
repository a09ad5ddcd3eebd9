-- Worked examples of the grammar's rules: which parts are due, which may be left out, and which lists may end with a comma.
use Rattle.std.specs.Prelude.{ℕ, ◌+◌, refl, List, [], ◌∷◌, ◌++◌, map, length, eqb}
use Prim.Native.String.{String}
use Rattle.meaning.specs.Choice.{both}
use Rattle.meaning.specs.Quoted.{bytes}
use Rattle.meaning.specs.Peg.{Peg, run, hit, taken}
use Rattle.meaning.specs.Pdl.{payload_identifier, body_identifier, ENUM, PACKET, STRUCT, GROUP, CHECKSUM, CUSTOM_FIELD, TEST, endianness_declaration, enum_value, enum_value_list, enum_range, enum_other, enum_tag, enum_tag_list, enum_declaration, constraint, constraint_list, checksum_field, padding_field, size_field, count_field, elementsize_field, body_field, payload_field, fixed_field, reserved_field, array_field, scalar_field, typedef_field, group_field, field, field_list, packet_declaration, struct_declaration, group_declaration, checksum_declaration, custom_field_declaration, test_case, test_case_list, test_declaration}
use Rattle.meaning.specs.Everything.{everything}
use Rattle.meaning.specs.Examples.{Hold, ◌are◌}
use Rattle.meaning.specs.Examples.Choices.{bit}

-- 1 where an expression takes a text whole
abbrev wholly : Peg → List ℕ → ℕ
wholly g t = bit (both (hit (run g t)) (eqb (taken (run g t)) (length t)))

-- the parts with a blank between them
abbrev joined : List String → List ℕ
joined [] = []
joined (s ∷ []) = bytes s
joined (s ∷ t ∷ ss) = bytes s ++ 32 ∷ joined (t ∷ ss)

-- the parts without the first, without the second, and so on
abbrev lacking : List String → List (List String)
lacking [] = []
lacking (s ∷ ss) = ss ∷ map (λ ts. s ∷ ts) (lacking ss)

abbrev sum : List ℕ → ℕ
sum [] = 0
sum (n ∷ ns) = n + sum ns

-- whether the parts together are taken whole, and how many texts that lack one of them are
abbrev parts : Peg → List String → List ℕ
parts g ps = wholly g (joined ps) ∷ sum (map (λ qs. wholly g (joined qs)) (lacking ps)) ∷ []

abbrev all_due : List ℕ
all_due = 1 ∷ 0 ∷ []

-- ---- a keyword and one whitespace character; a comment does not serve, and neither does either alone
abbrev keyword : Peg → String → List ℕ
keyword g s =
    map (λ t. wholly g t) (
    (bytes s ++ 32 ∷ []) ∷ (bytes s ++ 10 ∷ []) ∷ (bytes s ++ 13 ∷ []) ∷ (bytes s ++ 9 ∷ [])
    ∷ bytes s ∷ (bytes s ++ bytes "/**/") ∷ (32 ∷ []) ∷ []
    )

abbrev one_space : List ℕ
one_space = 1 ∷ 1 ∷ 1 ∷ 1 ∷ 0 ∷ 0 ∷ 0 ∷ []

pub keywords : Hold (
    (keyword ENUM "enum" are one_space)
    ∷ (keyword PACKET "packet" are one_space)
    ∷ (keyword STRUCT "struct" are one_space)
    ∷ (keyword GROUP "group" are one_space)
    ∷ (keyword CHECKSUM "checksum" are one_space)
    ∷ (keyword CUSTOM_FIELD "custom_field" are one_space)
    ∷ (keyword TEST "test" are one_space)
    ∷ (keyword endianness_declaration "little_endian_packets" are one_space)
    ∷ (keyword endianness_declaration "big_endian_packets" are one_space)
    ∷ [])
unfolding everything
keywords = refl

-- ---- every part of these is due
pub due_parts : Hold (
    (parts enum_value ("A" ∷ "=" ∷ "1" ∷ []) are all_due)
    ∷ (parts enum_range ("A" ∷ "=" ∷ "1" ∷ ".." ∷ "2" ∷ []) are all_due)
    ∷ (parts enum_range ("A" ∷ "=" ∷ "1" ∷ ".." ∷ "2" ∷ "{" ∷ "B = 1" ∷ "}" ∷ []) are all_due)
    ∷ (parts enum_other ("A" ∷ "=" ∷ ".." ∷ []) are all_due)
    ∷ (parts enum_declaration ("enum" ∷ "E" ∷ ":" ∷ "8" ∷ "{" ∷ "A = 1" ∷ "}" ∷ []) are all_due)
    ∷ (parts constraint ("a" ∷ "=" ∷ "1" ∷ []) are all_due)
    ∷ (parts constraint ("a" ∷ "=" ∷ "b" ∷ []) are all_due)
    ∷ (parts checksum_field ("_checksum_start_" ∷ "(" ∷ "a" ∷ ")" ∷ []) are all_due)
    ∷ (parts padding_field ("_padding_" ∷ "[" ∷ "1" ∷ "]" ∷ []) are all_due)
    ∷ (parts size_field ("_size_" ∷ "(" ∷ "a" ∷ ")" ∷ ":" ∷ "8" ∷ []) are all_due)
    ∷ (parts size_field ("_size_" ∷ "(" ∷ "_payload_" ∷ ")" ∷ ":" ∷ "8" ∷ []) are all_due)
    ∷ (parts size_field ("_size_" ∷ "(" ∷ "_body_" ∷ ")" ∷ ":" ∷ "8" ∷ []) are all_due)
    ∷ (parts count_field ("_count_" ∷ "(" ∷ "a" ∷ ")" ∷ ":" ∷ "8" ∷ []) are all_due)
    ∷ (parts elementsize_field ("_elementsize_" ∷ "(" ∷ "a" ∷ ")" ∷ ":" ∷ "8" ∷ []) are all_due)
    ∷ (parts body_field ("_body_" ∷ []) are all_due)
    ∷ (parts payload_field ("_payload_" ∷ []) are all_due)
    ∷ (parts payload_field ("_payload_" ∷ ":" ∷ "[" ∷ "+1" ∷ "]" ∷ []) are all_due)
    ∷ (parts fixed_field ("_fixed_" ∷ "=" ∷ "1" ∷ ":" ∷ "8" ∷ []) are all_due)
    ∷ (parts fixed_field ("_fixed_" ∷ "=" ∷ "A" ∷ ":" ∷ "E" ∷ []) are all_due)
    ∷ (parts reserved_field ("_reserved_" ∷ ":" ∷ "8" ∷ []) are all_due)
    ∷ (parts array_field ("a" ∷ ":" ∷ "8" ∷ "[" ∷ "]" ∷ []) are all_due)
    ∷ (parts array_field ("a" ∷ ":" ∷ "T" ∷ "[" ∷ "]" ∷ []) are all_due)
    ∷ (parts scalar_field ("a" ∷ ":" ∷ "8" ∷ []) are all_due)
    ∷ (parts typedef_field ("a" ∷ ":" ∷ "T" ∷ []) are all_due)
    ∷ (parts group_field ("G" ∷ "{" ∷ "}" ∷ []) are all_due)
    ∷ (parts field ("a : 8" ∷ "if" ∷ "b = 1" ∷ []) are all_due)
    ∷ (parts packet_declaration ("packet" ∷ "P" ∷ "{" ∷ "}" ∷ []) are all_due)
    ∷ (parts packet_declaration ("packet" ∷ "P" ∷ ":" ∷ "Q" ∷ "{" ∷ "}" ∷ []) are all_due)
    ∷ (parts packet_declaration ("packet" ∷ "P" ∷ "(" ∷ "a = 1" ∷ ")" ∷ "{" ∷ "}" ∷ []) are all_due)
    ∷ (parts struct_declaration ("struct" ∷ "S" ∷ "{" ∷ "}" ∷ []) are all_due)
    ∷ (parts struct_declaration ("struct" ∷ "S" ∷ ":" ∷ "P" ∷ "{" ∷ "}" ∷ []) are all_due)
    ∷ (parts struct_declaration ("struct" ∷ "S" ∷ "(" ∷ "a = 1" ∷ ")" ∷ "{" ∷ "}" ∷ []) are all_due)
    ∷ (parts group_declaration ("group" ∷ "G" ∷ "{" ∷ "a : 8" ∷ "}" ∷ []) are all_due)
    ∷ (parts checksum_declaration ("checksum" ∷ "C" ∷ ":" ∷ "8" ∷ "\"\"" ∷ []) are all_due)
    ∷ (parts custom_field_declaration ("custom_field" ∷ "F" ∷ "\"\"" ∷ []) are all_due)
    ∷ (parts custom_field_declaration ("custom_field" ∷ "F" ∷ ":" ∷ "8" ∷ "\"\"" ∷ []) are all_due)
    ∷ (parts test_declaration ("test" ∷ "T" ∷ "{" ∷ "\"a\"" ∷ "}" ∷ []) are all_due)
    ∷ [])
unfolding everything
due_parts = refl

-- ---- texts that are taken whole, and texts that are not
abbrev texts : Peg → List String → List ℕ
texts g ss = map (λ s. wholly g (bytes s)) ss

-- of lists of members: one, two, three, with a last comma and with none; then without a comma, with one too many, and none
abbrev members : Peg → String → String → List ℕ
members g s last =
    map (λ t. wholly g t) (
    bytes s ∷ (bytes s ++ bytes " , " ++ bytes s) ∷ (bytes s ++ bytes "," ++ bytes s ++ bytes "," ++ bytes s ++ bytes last)
    ∷ (bytes s ++ bytes " ,") ∷ (bytes s ++ bytes "," ++ bytes s ++ bytes " ,")
    ∷ (bytes s ++ bytes " " ++ bytes s) ∷ (bytes "," ++ bytes s) ∷ (bytes s ++ bytes ",,") ∷ bytes "," ∷ [] ∷ []
    )

abbrev a_last_comma : List ℕ
a_last_comma = 1 ∷ 1 ∷ 1 ∷ 1 ∷ 1 ∷ 0 ∷ 0 ∷ 0 ∷ 0 ∷ 0 ∷ []

abbrev no_last_comma : List ℕ
no_last_comma = 1 ∷ 1 ∷ 1 ∷ 0 ∷ 0 ∷ 0 ∷ 0 ∷ 0 ∷ 0 ∷ 0 ∷ []

pub lists : Hold (
    (members enum_value_list "A = 1" "," are a_last_comma)
    ∷ (members enum_tag_list "A = 1..2" "," are a_last_comma)
    ∷ (members enum_tag_list "A = .." "," are a_last_comma)
    ∷ (members field_list "a:8" "," are a_last_comma)
    ∷ (members test_case_list "\"a\"" "," are a_last_comma)
    ∷ (members constraint_list "a = 1" "" are no_last_comma)
    ∷ [])
unfolding everything
lists = refl

pub choices : Hold (
    (texts payload_identifier ("_payload_" ∷ "_body_" ∷ "payload" ∷ []) are 1 ∷ 0 ∷ 0 ∷ [])
    ∷ (texts body_identifier ("_body_" ∷ "_payload_" ∷ "body" ∷ []) are 1 ∷ 0 ∷ 0 ∷ [])
    ∷ (texts enum_tag ("A = 1" ∷ "A = 1..2" ∷ "A = .." ∷ "A = 1.." ∷ "A = B" ∷ "A = 1..2 {}" ∷ "A = 1..2 { B = .. }" ∷ []) are
    1 ∷ 1 ∷ 1 ∷ 0 ∷ 0 ∷ 0 ∷ 0 ∷ [])
    ∷ (texts size_field ("_size_(1): 8" ∷ "_size_(a): b" ∷ []) are 0 ∷ 0 ∷ [])
    ∷ (texts fixed_field ("_fixed_ = 1 : E" ∷ "_fixed_ = A : 8" ∷ []) are 0 ∷ 0 ∷ [])
    ∷ (texts array_field ("a: 8[4]" ∷ "a: 8[+1]" ∷ "a: T[4]" ∷ "a: T[+1]" ∷ "a: T[+ 1]" ∷ "a: T[b]" ∷ []) are 1 ∷ 1 ∷ 1 ∷ 1 ∷ 0 ∷ 0 ∷ [])
    ∷ (texts payload_field ("_payload_ : [ +1 ]" ∷ "_payload_: [+ 1]" ∷ "_payload_: [1]" ∷ "_payload_: []" ∷ []) are 1 ∷ 0 ∷ 0 ∷ 0 ∷ [])
    ∷ (texts group_field ("G" ∷ "G { a = 1 }" ∷ "G { a = 1, b = C }" ∷ "G { a = 1, }" ∷ []) are 1 ∷ 1 ∷ 1 ∷ 0 ∷ [])
    ∷ (texts packet_declaration ("packet P : Q (a = 1, b = C) { a: 8, }" ∷ "packet P () {}" ∷ "packet P (a = 1) : Q {}" ∷ "packet P {,}" ∷ []) are
    1 ∷ 0 ∷ 0 ∷ 0 ∷ [])
    ∷ (texts struct_declaration ("struct S : P (a = 1, b = C) { a: 8, }" ∷ "struct S () {}" ∷ "struct S (a = 1) : P {}" ∷ "struct S {,}" ∷ []) are
    1 ∷ 0 ∷ 0 ∷ 0 ∷ [])
    ∷ (texts group_declaration ("group G { a: 8, b: 8, }" ∷ "group G {}" ∷ "group G : P { a: 8 }" ∷ []) are 1 ∷ 0 ∷ 0 ∷ [])
    ∷ (texts enum_declaration ("enum E : 8 {}" ∷ "enum E : 8 {,}" ∷ "enum E : T { A = 1 }" ∷ []) are 0 ∷ 0 ∷ 0 ∷ [])
    ∷ (texts test_case ("\"a\"" ∷ "a" ∷ []) are 1 ∷ 0 ∷ [])
    ∷ [])
unfolding everything
choices = refl
