use Rattle.std.proofs.Common.{arith}
use Rattle.meaning.specs.Quoted.{bytes}
use Rattle.declarations.specs.Kinds.{enums, packets, structs, groups, customs, checksums, tests, by_byte, with_text, without_text, kind_is, kind_other, kind_empty}
use Rattle.declarations.proofs.declaration.Goals as goal

pub returns-in_default : goal.returns-in_default
returns-in_default c = kind_empty (rw c.in_default.is at c.first.ensures.value)

pub returns-in-101 : goal.returns-in-101
returns-in-101 c = kind_is enums (by_byte 101 c.in-Some.ensures.value c.in-101.is) c.enum_declaration.ensures

pub returns-in-112 : goal.returns-in-112
returns-in-112 c = kind_is packets (by_byte 112 c.in-Some.ensures.value c.in-112.is) c.packet_declaration.ensures

pub returns-in-115 : goal.returns-in-115
returns-in-115 c = kind_is structs (by_byte 115 c.in-Some.ensures.value c.in-115.is) c.struct_declaration.ensures

pub returns-in-103 : goal.returns-in-103
returns-in-103 c = kind_is groups (by_byte 103 c.in-Some.ensures.value c.in-103.is) c.group_declaration.ensures

pub returns-in-116 : goal.returns-in-116
returns-in-116 c = kind_is tests (by_byte 116 c.in-Some.ensures.value c.in-116.is) c.test_declaration.ensures

pub returns-in_default-first : goal.returns-in_default-first
returns-in_default-first c =
    kind_other c.in-Some.ensures.value (omega arith) (omega arith) (omega arith) (omega arith) (omega arith) (omega arith)

pub returns-in-99 : goal.returns-in-99
returns-in-99 c = kind_is customs (with_text (bytes "cu") c.if-starts_with.ensures.value) c.custom_field_declaration.ensures

pub returns-in-99-2 : goal.returns-in-99-2
returns-in-99-2 c = kind_is checksums
    (without_text (bytes "cu") c.if-starts_with.ensures.value (by_byte 99 c.in-Some.ensures.value c.in-99.is))
    c.checksum_declaration.ensures
