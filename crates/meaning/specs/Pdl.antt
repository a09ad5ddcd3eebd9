-- The grammar of parser.rs, rule by rule in the printed order (COMMENT alone stands below its two parts). A comment behind a
-- rule has pest's mark where it bears one: `@` atomic, `$` compound atomic, `_` silent.
use Rattle.std.specs.Prelude.{ℕ}
use Prim.Native.String.{String, char_at}
use Prim.Native.Char.{code}
use Rattle.meaning.specs.Quoted.{bytes}
use Rattle.meaning.specs.Rules.{Rule}
use Rattle.meaning.specs.Peg.{Peg, lit, range, any, end, neg, seq, alt, star, opt, quiet, rule}

-- a quoted text
abbrev pub text : String → Peg
text s = lit (bytes s)

-- 'a'..'z'
infix 70 ◌‥◌
abbrev pub ◌‥◌ : String → String → Peg
a ‥ z = range (code (char_at a 0)) (code (char_at z 0))

-- `|`, ordered choice
infixl 40 ◌∣◌
abbrev pub ◌∣◌ : Peg → Peg → Peg
a ∣ b = alt a b

-- `~` and `+` in an atomic rule: nothing between the parts
infixl 60 ◌·◌
abbrev pub ◌·◌ : Peg → Peg → Peg
a · b = seq a b

abbrev pub plus : Peg → Peg
plus e = e · star e

unfoldable pub WHITESPACE : Peg  -- _
WHITESPACE = text " " ∣ text "\n" ∣ text "\r" ∣ text "\t"

-- pest runs WHITESPACE and COMMENT atomically: no blank is skipped inside a comment
unfoldable pub block_comment : Peg
block_comment = text "/*" · star (neg (text "*/") · any) · text "*/"

unfoldable pub line_comment : Peg
line_comment = text "//" · star (neg (text "\n") · any)

unfoldable pub COMMENT : Peg
COMMENT = rule Rule.COMMENT (block_comment ∣ line_comment)

-- a blank run: no try inside it counts
unfoldable pub skip : Peg
skip = quiet (star WHITESPACE · star (COMMENT · star WHITESPACE))

-- `~` and `*` in an ordinary rule: a blank run may stand between the parts, and between repeats
infixl 60 ◌~◌
abbrev pub ◌~◌ : Peg → Peg → Peg
a ~ b = seq a (seq skip b)

abbrev pub repeat : Peg → Peg
repeat e = opt (seq e (star (seq skip e)))

unfoldable pub alpha : Peg
alpha = "a" ‥ "z" ∣ "A" ‥ "Z"

unfoldable pub digit : Peg
digit = "0" ‥ "9"

unfoldable pub hexdigit : Peg
hexdigit = digit ∣ "a" ‥ "f" ∣ "A" ‥ "F"

unfoldable pub alphanum : Peg
alphanum = alpha ∣ digit ∣ text "_"

unfoldable pub identifier : Peg  -- @
identifier = rule Rule.identifier (alpha · star alphanum)

unfoldable pub payload_identifier : Peg  -- @
payload_identifier = rule Rule.payload_identifier (text "_payload_")

unfoldable pub body_identifier : Peg  -- @
body_identifier = rule Rule.body_identifier (text "_body_")

unfoldable pub intvalue : Peg  -- @
intvalue = plus digit

unfoldable pub hexvalue : Peg  -- @
hexvalue = (text "0x" ∣ text "0X") · plus hexdigit

unfoldable pub integer : Peg  -- @
integer = rule Rule.integer (hexvalue ∣ intvalue)

unfoldable pub string : Peg  -- @
string = rule Rule.string (text "\"" · star (neg (text "\"") · any) · text "\"")

unfoldable pub size_modifier : Peg  -- @
size_modifier = rule Rule.size_modifier (text "+" · intvalue)

unfoldable pub ENUM : Peg  -- @
ENUM = rule Rule.ENUM (text "enum" · WHITESPACE)

unfoldable pub PACKET : Peg  -- @
PACKET = rule Rule.PACKET (text "packet" · WHITESPACE)

unfoldable pub STRUCT : Peg  -- @
STRUCT = rule Rule.STRUCT (text "struct" · WHITESPACE)

unfoldable pub GROUP : Peg  -- @
GROUP = rule Rule.GROUP (text "group" · WHITESPACE)

unfoldable pub CHECKSUM : Peg  -- @
CHECKSUM = rule Rule.CHECKSUM (text "checksum" · WHITESPACE)

unfoldable pub CUSTOM_FIELD : Peg  -- @
CUSTOM_FIELD = rule Rule.CUSTOM_FIELD (text "custom_field" · WHITESPACE)

unfoldable pub TEST : Peg  -- @
TEST = rule Rule.TEST (text "test" · WHITESPACE)

unfoldable pub endianness_declaration : Peg  -- $
endianness_declaration = rule Rule.endianness_declaration ((text "little_endian_packets" ∣ text "big_endian_packets") · WHITESPACE)

unfoldable pub enum_value : Peg
enum_value = rule Rule.enum_value (identifier ~ text "=" ~ integer)

unfoldable pub enum_value_list : Peg
enum_value_list = rule Rule.enum_value_list (enum_value ~ repeat (text "," ~ enum_value) ~ opt (text ","))

unfoldable pub enum_range : Peg
enum_range =
    rule Rule.enum_range
    (identifier ~ text "=" ~ integer ~ text ".." ~ integer ~ opt (text "{" ~ enum_value_list ~ text "}"))

unfoldable pub enum_other : Peg
enum_other = rule Rule.enum_other (identifier ~ text "=" ~ text "..")

unfoldable pub enum_tag : Peg
enum_tag = rule Rule.enum_tag (enum_range ∣ enum_value ∣ enum_other)

unfoldable pub enum_tag_list : Peg
enum_tag_list = rule Rule.enum_tag_list (enum_tag ~ repeat (text "," ~ enum_tag) ~ opt (text ","))

unfoldable pub enum_declaration : Peg
enum_declaration =
    rule Rule.enum_declaration (ENUM ~ identifier ~ text ":" ~ integer ~ text "{" ~ enum_tag_list ~ text "}")

unfoldable pub constraint : Peg
constraint = rule Rule.constraint (identifier ~ text "=" ~ (identifier ∣ integer))

unfoldable pub constraint_list : Peg
constraint_list = rule Rule.constraint_list (constraint ~ repeat (text "," ~ constraint))

unfoldable pub checksum_field : Peg
checksum_field = rule Rule.checksum_field (text "_checksum_start_" ~ text "(" ~ identifier ~ text ")")

unfoldable pub padding_field : Peg
padding_field = rule Rule.padding_field (text "_padding_" ~ text "[" ~ integer ~ text "]")

unfoldable pub size_field : Peg
size_field =
    rule Rule.size_field
    (text "_size_" ~ text "(" ~ (identifier ∣ payload_identifier ∣ body_identifier) ~ text ")" ~ text ":" ~ integer)

unfoldable pub count_field : Peg
count_field = rule Rule.count_field (text "_count_" ~ text "(" ~ identifier ~ text ")" ~ text ":" ~ integer)

unfoldable pub elementsize_field : Peg
elementsize_field =
    rule Rule.elementsize_field (text "_elementsize_" ~ text "(" ~ identifier ~ text ")" ~ text ":" ~ integer)

unfoldable pub body_field : Peg  -- @
body_field = rule Rule.body_field (text "_body_")

unfoldable pub payload_field : Peg
payload_field = rule Rule.payload_field (text "_payload_" ~ opt (text ":" ~ text "[" ~ size_modifier ~ text "]"))

unfoldable pub fixed_field : Peg
fixed_field =
    rule Rule.fixed_field
    (text "_fixed_" ~ text "=" ~ ((integer ~ text ":" ~ integer) ∣ (identifier ~ text ":" ~ identifier)))

unfoldable pub reserved_field : Peg
reserved_field = rule Rule.reserved_field (text "_reserved_" ~ text ":" ~ integer)

unfoldable pub array_field : Peg
array_field =
    rule Rule.array_field
    (identifier ~ text ":" ~ (integer ∣ identifier) ~ text "[" ~ opt (size_modifier ∣ integer) ~ text "]")

unfoldable pub scalar_field : Peg
scalar_field = rule Rule.scalar_field (identifier ~ text ":" ~ integer)

unfoldable pub typedef_field : Peg
typedef_field = rule Rule.typedef_field (identifier ~ text ":" ~ identifier)

unfoldable pub group_field : Peg
group_field = rule Rule.group_field (identifier ~ opt (text "{" ~ opt constraint_list ~ text "}"))

unfoldable pub field_desc : Peg  -- _
field_desc =
    checksum_field
    ∣ padding_field
    ∣ size_field
    ∣ count_field
    ∣ elementsize_field
    ∣ body_field
    ∣ payload_field
    ∣ fixed_field
    ∣ reserved_field
    ∣ array_field
    ∣ scalar_field
    ∣ typedef_field
    ∣ group_field

unfoldable pub field : Peg
field = rule Rule.field (field_desc ~ opt (text "if" ~ constraint))

unfoldable pub field_list : Peg
field_list = rule Rule.field_list (field ~ repeat (text "," ~ field) ~ opt (text ","))

unfoldable pub packet_declaration : Peg
packet_declaration =
    rule Rule.packet_declaration
    (PACKET ~ identifier
    ~ opt (text ":" ~ identifier)
    ~ opt (text "(" ~ constraint_list ~ text ")")
    ~ text "{" ~ opt field_list ~ text "}")

unfoldable pub struct_declaration : Peg
struct_declaration =
    rule Rule.struct_declaration
    (STRUCT ~ identifier
    ~ opt (text ":" ~ identifier)
    ~ opt (text "(" ~ constraint_list ~ text ")")
    ~ text "{" ~ opt field_list ~ text "}")

unfoldable pub group_declaration : Peg
group_declaration = rule Rule.group_declaration (GROUP ~ identifier ~ text "{" ~ field_list ~ text "}")

unfoldable pub checksum_declaration : Peg
checksum_declaration = rule Rule.checksum_declaration (CHECKSUM ~ identifier ~ text ":" ~ integer ~ string)

unfoldable pub custom_field_declaration : Peg
custom_field_declaration =
    rule Rule.custom_field_declaration (CUSTOM_FIELD ~ identifier ~ opt (text ":" ~ integer) ~ string)

unfoldable pub test_case : Peg
test_case = rule Rule.test_case string

unfoldable pub test_case_list : Peg  -- _
test_case_list = test_case ~ repeat (text "," ~ test_case) ~ opt (text ",")

unfoldable pub test_declaration : Peg
test_declaration = rule Rule.test_declaration (TEST ~ identifier ~ text "{" ~ test_case_list ~ text "}")

unfoldable pub declaration : Peg  -- _
declaration =
    enum_declaration
    ∣ packet_declaration
    ∣ struct_declaration
    ∣ group_declaration
    ∣ checksum_declaration
    ∣ custom_field_declaration
    ∣ test_declaration

-- the start of input takes nothing, and the end is a node
unfoldable pub SOI : Peg
SOI = text ""

unfoldable pub EOI : Peg
EOI = rule Rule.EOI end

unfoldable pub file : Peg
file = rule Rule.file (SOI ~ endianness_declaration ~ repeat declaration ~ EOI)

-- ---- the place of 3 (01): after leading blanks; or after blanks behind the last whole declaration
unfoldable pub file_start : Peg
file_start = seq SOI skip

unfoldable pub file_line : Peg
file_line = SOI ~ endianness_declaration

unfoldable pub file_head : Peg
file_head = seq (SOI ~ endianness_declaration ~ repeat declaration) skip

-- one name that opens every rule, for what is proved by computation
unfoldable pub rules : ℕ
unfolding WHITESPACE block_comment line_comment COMMENT skip alpha digit hexdigit alphanum identifier payload_identifier body_identifier intvalue hexvalue
    integer string size_modifier ENUM PACKET STRUCT GROUP CHECKSUM CUSTOM_FIELD TEST endianness_declaration enum_value enum_value_list enum_range enum_other
    enum_tag enum_tag_list enum_declaration constraint constraint_list checksum_field padding_field size_field count_field elementsize_field body_field
    payload_field fixed_field reserved_field array_field scalar_field typedef_field group_field field_desc field field_list packet_declaration
    struct_declaration group_declaration checksum_declaration custom_field_declaration test_case test_case_list test_declaration declaration SOI
    EOI file file_start file_line file_head
rules = 0
