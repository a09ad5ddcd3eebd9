-- The rules by their numbers, and what an entry answers of a match.
use Rattle.std.specs.Prelude.{ℕ, ◌+◌, List, [], ◌∷◌, get_or}
use Rattle.meaning.specs.declared.Match.{Match}
use Rattle.meaning.specs.declared.Match.TheVariants.{Missed, Took}
use Rattle.meaning.specs.Peg.{Peg, neg}
use Rattle.meaning.specs.Pdl.{text, WHITESPACE, COMMENT, block_comment, line_comment, alpha, digit, hexdigit, alphanum, identifier, payload_identifier, body_identifier, intvalue, hexvalue, integer, string, size_modifier, ENUM, PACKET, STRUCT, GROUP, CHECKSUM, CUSTOM_FIELD, TEST, endianness_declaration, enum_value, enum_value_list, enum_range, enum_other, enum_tag, enum_tag_list, enum_declaration, constraint, constraint_list, checksum_field, padding_field, size_field, count_field, elementsize_field, body_field, payload_field, fixed_field, reserved_field, array_field, scalar_field, typedef_field, group_field, field_desc, field, field_list, packet_declaration, struct_declaration, group_declaration, checksum_declaration, custom_field_declaration, test_case, test_case_list, test_declaration, declaration, EOI, file}

-- parser.rs's rules in the printed order, from number 1 on; pest's own EOI, which has no line there, is 0
abbrev pub printed : List Peg
printed =
    EOI
    ∷ WHITESPACE
    ∷ COMMENT
    ∷ block_comment
    ∷ line_comment
    ∷ alpha
    ∷ digit
    ∷ hexdigit
    ∷ alphanum
    ∷ identifier
    ∷ payload_identifier
    ∷ body_identifier
    ∷ intvalue
    ∷ hexvalue
    ∷ integer
    ∷ string
    ∷ size_modifier
    ∷ ENUM
    ∷ PACKET
    ∷ STRUCT
    ∷ GROUP
    ∷ CHECKSUM
    ∷ CUSTOM_FIELD
    ∷ TEST
    ∷ endianness_declaration
    ∷ enum_value
    ∷ enum_value_list
    ∷ enum_range
    ∷ enum_other
    ∷ enum_tag
    ∷ enum_tag_list
    ∷ enum_declaration
    ∷ constraint
    ∷ constraint_list
    ∷ checksum_field
    ∷ padding_field
    ∷ size_field
    ∷ count_field
    ∷ elementsize_field
    ∷ body_field
    ∷ payload_field
    ∷ fixed_field
    ∷ reserved_field
    ∷ array_field
    ∷ scalar_field
    ∷ typedef_field
    ∷ group_field
    ∷ field_desc
    ∷ field
    ∷ field_list
    ∷ packet_declaration
    ∷ struct_declaration
    ∷ group_declaration
    ∷ checksum_declaration
    ∷ custom_field_declaration
    ∷ test_case
    ∷ test_case_list
    ∷ test_declaration
    ∷ declaration
    ∷ file
    ∷ []

-- the rule of a number; behind the last there is only what never matches
unfoldable pub ruled : ℕ → Peg
ruled n = get_or printed n (neg (text ""))

-- how much was taken, plus 1; 0 for a miss
abbrev pub extent : Match → ℕ
extent (Missed f) = 0
extent (Took n f) = n + 1
