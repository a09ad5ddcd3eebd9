-- The forest of each token: a rule with no rule inside but comments leaves exactly its own node.
use Rattle.std.specs.Prelude.{ℕ, ◌≡◌, refl, List, true}
use Rattle.meaning.specs.Rules.{Rule}
use Rattle.meaning.specs.Peg.{Peg, lit, run, bytewise, hit, taken}
use Rattle.meaning.specs.Forest.{nil, tree, nodes}
use Rattle.meaning.specs.Pdl.{WHITESPACE, COMMENT, skip, alpha, digit, hexdigit, alphanum, identifier, payload_identifier, body_identifier, intvalue, hexvalue, integer, string, size_modifier, ENUM, PACKET, STRUCT, GROUP, CHECKSUM, CUSTOM_FIELD, endianness_declaration}
use Rattle.grammar.specs.Silence.{none_of, leaf_of}

pub skip_none : (o : ℕ) (t : List ℕ) → nodes (bytewise skip) o t ≡ nil
unfolding skip WHITESPACE COMMENT
skip_none o t = none_of (bytewise skip) refl o t

pub lit_none : (l : List ℕ) (o : ℕ) (t : List ℕ) → nodes (lit l) o t ≡ nil
lit_none l o t = none_of (lit l) refl o t

-- ---- the tokens
abbrev pub Leaf : Rule → Peg → Type 0
Leaf r p = (o : ℕ) (t : List ℕ) → hit (run (bytewise p) t) ≡ true → nodes (bytewise p) o t ≡ tree r o (taken (run (bytewise p) t)) nil nil

pub identifier_leaf : Leaf Rule.identifier identifier
unfolding identifier alpha digit alphanum
identifier_leaf o t h = leaf_of Rule.identifier _ refl refl o t h

pub payload_identifier_leaf : Leaf Rule.payload_identifier payload_identifier
unfolding payload_identifier
payload_identifier_leaf o t h = leaf_of Rule.payload_identifier _ refl refl o t h

pub body_identifier_leaf : Leaf Rule.body_identifier body_identifier
unfolding body_identifier
body_identifier_leaf o t h = leaf_of Rule.body_identifier _ refl refl o t h

pub integer_leaf : Leaf Rule.integer integer
unfolding integer hexvalue intvalue digit hexdigit
integer_leaf o t h = leaf_of Rule.integer _ refl refl o t h

pub string_leaf : Leaf Rule.string string
unfolding string
string_leaf o t h = leaf_of Rule.string _ refl refl o t h

pub size_modifier_leaf : Leaf Rule.size_modifier size_modifier
unfolding size_modifier intvalue digit
size_modifier_leaf o t h = leaf_of Rule.size_modifier _ refl refl o t h

pub ENUM_leaf : Leaf Rule.ENUM ENUM
unfolding ENUM WHITESPACE
ENUM_leaf o t h = leaf_of Rule.ENUM _ refl refl o t h

pub PACKET_leaf : Leaf Rule.PACKET PACKET
unfolding PACKET WHITESPACE
PACKET_leaf o t h = leaf_of Rule.PACKET _ refl refl o t h

pub STRUCT_leaf : Leaf Rule.STRUCT STRUCT
unfolding STRUCT WHITESPACE
STRUCT_leaf o t h = leaf_of Rule.STRUCT _ refl refl o t h

pub GROUP_leaf : Leaf Rule.GROUP GROUP
unfolding GROUP WHITESPACE
GROUP_leaf o t h = leaf_of Rule.GROUP _ refl refl o t h

pub CHECKSUM_leaf : Leaf Rule.CHECKSUM CHECKSUM
unfolding CHECKSUM WHITESPACE
CHECKSUM_leaf o t h = leaf_of Rule.CHECKSUM _ refl refl o t h

pub CUSTOM_FIELD_leaf : Leaf Rule.CUSTOM_FIELD CUSTOM_FIELD
unfolding CUSTOM_FIELD WHITESPACE
CUSTOM_FIELD_leaf o t h = leaf_of Rule.CUSTOM_FIELD _ refl refl o t h

pub endianness_declaration_leaf : Leaf Rule.endianness_declaration endianness_declaration
unfolding endianness_declaration WHITESPACE
endianness_declaration_leaf o t h = leaf_of Rule.endianness_declaration _ refl refl o t h
