-- Worked examples of choices, of rules told apart, and of the tables' numbers and sizes.
use Rattle.std.specs.Prelude.{ℕ, refl, List, [], ◌∷◌, map, Bool, true, false}
use Rattle.meaning.specs.Choice.{pick, both, either}
use Rattle.meaning.specs.Rules.{Rule, order}
use Rattle.meaning.specs.Tables.{number, size, all, first_of}
use Rattle.meaning.specs.Walk.{kinds, kind_in}
use Rattle.meaning.specs.Examples.{Hold, ◌is◌, ◌are◌}

-- a test as a number
abbrev pub bit : Bool → ℕ
bit b = pick b 1 0

pub choices : Hold (
    (pick true 7 8 is 7)
    ∷ (pick false 7 8 is 8)
    ∷ (bit (both true true) is 1)
    ∷ (bit (both true false) is 0)
    ∷ (bit (both false true) is 0)
    ∷ (bit (both false false) is 0)
    ∷ (bit (either true true) is 1)
    ∷ (bit (either true false) is 1)
    ∷ (bit (either false true) is 1)
    ∷ (bit (either false false) is 0)
    ∷ [])
choices = refl

-- the rules, in the printed order: each has a number of its own
abbrev every_rule : List Rule
every_rule =
    Rule.COMMENT ∷ Rule.identifier ∷ Rule.payload_identifier ∷ Rule.body_identifier ∷ Rule.integer ∷ Rule.string ∷ Rule.size_modifier
    ∷ Rule.ENUM ∷ Rule.PACKET ∷ Rule.STRUCT ∷ Rule.GROUP ∷ Rule.CHECKSUM ∷ Rule.CUSTOM_FIELD ∷ Rule.TEST ∷ Rule.endianness_declaration
    ∷ Rule.enum_value ∷ Rule.enum_value_list ∷ Rule.enum_range ∷ Rule.enum_other ∷ Rule.enum_tag ∷ Rule.enum_tag_list ∷ Rule.enum_declaration
    ∷ Rule.constraint ∷ Rule.constraint_list ∷ Rule.checksum_field ∷ Rule.padding_field ∷ Rule.size_field ∷ Rule.count_field
    ∷ Rule.elementsize_field ∷ Rule.body_field ∷ Rule.payload_field ∷ Rule.fixed_field ∷ Rule.reserved_field ∷ Rule.array_field
    ∷ Rule.scalar_field ∷ Rule.typedef_field ∷ Rule.group_field ∷ Rule.field ∷ Rule.field_list ∷ Rule.packet_declaration
    ∷ Rule.struct_declaration ∷ Rule.group_declaration ∷ Rule.checksum_declaration ∷ Rule.custom_field_declaration ∷ Rule.test_case
    ∷ Rule.test_declaration ∷ Rule.EOI ∷ Rule.file ∷ []

pub numbers : Hold (
    (map order every_rule are
    1 ∷ 2 ∷ 3 ∷ 4 ∷ 5 ∷ 6 ∷ 7 ∷ 8 ∷ 9 ∷ 10 ∷ 11 ∷ 12 ∷ 13 ∷ 14 ∷ 15 ∷ 16 ∷ 17 ∷ 18 ∷ 19 ∷ 20 ∷ 21 ∷ 22 ∷ 23 ∷ 24 ∷ 25 ∷ 26 ∷ 27 ∷ 28
    ∷ 29 ∷ 30 ∷ 31 ∷ 32 ∷ 33 ∷ 34 ∷ 35 ∷ 36 ∷ 37 ∷ 38 ∷ 39 ∷ 40 ∷ 41 ∷ 42 ∷ 43 ∷ 44 ∷ 45 ∷ 46 ∷ 47 ∷ 48 ∷ [])
    ∷ (map number all are 1 ∷ 2 ∷ 3 ∷ 4 ∷ 5 ∷ [])
    ∷ (map size all are 17 ∷ 20 ∷ 12 ∷ 12 ∷ 7 ∷ [])
    ∷ (first_of 7 0 is 0)
    ∷ (first_of 7 2 is 7)
    ∷ (kind_in kinds Rule.custom_field_declaration 1 is 6)
    ∷ (kind_in kinds Rule.test_declaration 1 is 0)
    ∷ [])
numbers = refl
