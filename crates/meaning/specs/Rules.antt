-- The rules of parser.rs whose matches are nodes, in the printed order. Pest leaves no node inside an atomic rule (`@`, and
-- COMMENT), nor for a silent one (`_`).
use Rattle.std.specs.Prelude.{ℕ, Bool, eqb}

pub data Rule : Type 0 where
  COMMENT : Rule
  identifier : Rule
  payload_identifier : Rule
  body_identifier : Rule
  integer : Rule
  string : Rule
  size_modifier : Rule
  ENUM : Rule
  PACKET : Rule
  STRUCT : Rule
  GROUP : Rule
  CHECKSUM : Rule
  CUSTOM_FIELD : Rule
  TEST : Rule
  endianness_declaration : Rule
  enum_value : Rule
  enum_value_list : Rule
  enum_range : Rule
  enum_other : Rule
  enum_tag : Rule
  enum_tag_list : Rule
  enum_declaration : Rule
  constraint : Rule
  constraint_list : Rule
  checksum_field : Rule
  padding_field : Rule
  size_field : Rule
  count_field : Rule
  elementsize_field : Rule
  body_field : Rule
  payload_field : Rule
  fixed_field : Rule
  reserved_field : Rule
  array_field : Rule
  scalar_field : Rule
  typedef_field : Rule
  group_field : Rule
  field : Rule
  field_list : Rule
  packet_declaration : Rule
  struct_declaration : Rule
  group_declaration : Rule
  checksum_declaration : Rule
  custom_field_declaration : Rule
  test_case : Rule
  test_declaration : Rule
  EOI : Rule
  file : Rule

-- each rule's number in this order, to tell rules apart
abbrev pub order : Rule → ℕ
order Rule.COMMENT = 1
order Rule.identifier = 2
order Rule.payload_identifier = 3
order Rule.body_identifier = 4
order Rule.integer = 5
order Rule.string = 6
order Rule.size_modifier = 7
order Rule.ENUM = 8
order Rule.PACKET = 9
order Rule.STRUCT = 10
order Rule.GROUP = 11
order Rule.CHECKSUM = 12
order Rule.CUSTOM_FIELD = 13
order Rule.TEST = 14
order Rule.endianness_declaration = 15
order Rule.enum_value = 16
order Rule.enum_value_list = 17
order Rule.enum_range = 18
order Rule.enum_other = 19
order Rule.enum_tag = 20
order Rule.enum_tag_list = 21
order Rule.enum_declaration = 22
order Rule.constraint = 23
order Rule.constraint_list = 24
order Rule.checksum_field = 25
order Rule.padding_field = 26
order Rule.size_field = 27
order Rule.count_field = 28
order Rule.elementsize_field = 29
order Rule.body_field = 30
order Rule.payload_field = 31
order Rule.fixed_field = 32
order Rule.reserved_field = 33
order Rule.array_field = 34
order Rule.scalar_field = 35
order Rule.typedef_field = 36
order Rule.group_field = 37
order Rule.field = 38
order Rule.field_list = 39
order Rule.packet_declaration = 40
order Rule.struct_declaration = 41
order Rule.group_declaration = 42
order Rule.checksum_declaration = 43
order Rule.custom_field_declaration = 44
order Rule.test_case = 45
order Rule.test_declaration = 46
order Rule.EOI = 47
order Rule.file = 48

abbrev pub is : Rule → Rule → Bool
is r q = eqb (order r) (order q)
