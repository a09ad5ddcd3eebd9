-- The kinds of declarations: their numbers, rules, heads, keywords and nodes, and what stands in their braces.
use Rattle.std.specs.Prelude.{ℕ, ◌≡◌, refl, List, Option, None, Some}
use Rattle.meaning.specs.Rules.{Rule}
use Rattle.meaning.specs.Peg.{Peg}
use Rattle.meaning.specs.Pdl.{enum_declaration, packet_declaration, struct_declaration, group_declaration, checksum_declaration, custom_field_declaration, test_declaration}
use Rattle.meaning.specs.Walk.{kind_in, kinds}
use Rattle.spans.specs.declared.Matched.{Matched}
use Rattle.spans.specs.declared.Header.{Header}
use Rattle.spans.specs.Answers.{Headed}
use Rattle.declarations.specs.Headers.{enum_head, packet_head, struct_head, group_head, checksum_head, custom_head}
use Rattle.declaration_rows.specs.declared.kinds.Kind.{Kind}
use Rattle.declaration_rows.specs.declared.kinds.Kind.TheVariants.{Enum, Packet, Struct, Group, Checksum, CustomField}

-- 1 to 6 (01, 'Rows')
abbrev pub number : Kind → ℕ
number Enum = 1
number Packet = 2
number Struct = 3
number Group = 4
number Checksum = 5
number CustomField = 6

-- the rule of each kind (01, 'Rows')
unfoldable pub declared : Kind → Peg
declared Enum = enum_declaration
declared Packet = packet_declaration
declared Struct = struct_declaration
declared Group = group_declaration
declared Checksum = checksum_declaration
declared CustomField = custom_field_declaration

-- what has no kind is a test
abbrev pub stands : Option Kind → Peg
stands None = test_declaration
stands (Some k) = declared k

pub record Shape : Type 0 where
  pub head : Peg
  pub keyword : Rule
  pub root : Rule

abbrev pub shape_of : Kind → Shape
shape_of Enum = record { head = enum_head; keyword = Rule.ENUM; root = Rule.enum_declaration }
shape_of Packet = record { head = packet_head; keyword = Rule.PACKET; root = Rule.packet_declaration }
shape_of Struct = record { head = struct_head; keyword = Rule.STRUCT; root = Rule.struct_declaration }
shape_of Group = record { head = group_head; keyword = Rule.GROUP; root = Rule.group_declaration }
shape_of Checksum = record { head = checksum_head; keyword = Rule.CHECKSUM; root = Rule.checksum_declaration }
shape_of CustomField = record { head = custom_head; keyword = Rule.CUSTOM_FIELD; root = Rule.custom_field_declaration }

-- r is the head of a declaration of the shape z
abbrev pub HeadOf : Shape → List ℕ → Matched Header → Type 0
HeadOf z t r = Headed z.keyword z.head t r

-- the walk knows a declaration's number by its node
pub number_is : (k : Kind) → kind_in kinds (shape_of k).root 1 ≡ number k
number_is Enum = refl
number_is Packet = refl
number_is Struct = refl
number_is Group = refl
number_is Checksum = refl
number_is CustomField = refl

-- what a kind has by its braces: that of tags, that of fields, or that of a kind without braces
abbrev pub by_braces : {A : Type 0} → Kind → A → A → A → A
by_braces Enum t f n = t
by_braces Packet t f n = f
by_braces Struct t f n = f
by_braces Group t f n = f
by_braces Checksum t f n = n
by_braces CustomField t f n = n
