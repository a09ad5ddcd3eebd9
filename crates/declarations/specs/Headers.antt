-- The heads of declarations: each rule of the grammar up to its first list of tags or fields, or its whole inside.
use Rattle.std.specs.Prelude.{ℕ, ◌≡◌, List}
use Rattle.meaning.specs.declared.Match.{Match}
use Rattle.meaning.specs.declared.Match.TheVariants.{Took}
use Rattle.meaning.specs.Choice.{pick}
use Rattle.meaning.specs.Rules.{Rule}
use Rattle.meaning.specs.Peg.{Peg, opt, hit}
use Rattle.meaning.specs.Pdl.{text, ◌~◌, identifier, integer, string, ENUM, PACKET, STRUCT, GROUP, CHECKSUM, CUSTOM_FIELD, constraint_list}
use Rattle.grammar.specs.Drawing.{Follows}
use Rattle.spans.specs.declared.Matched.{Matched}
use Rattle.spans.specs.declared.Header.{Header}
use Rattle.spans.specs.Spans.{span_of}
use Rattle.spans.specs.Drawn.{leaf_at}
use Rattle.spans.specs.Answers.{no_header, Headed}

unfoldable pub enum_head : Peg
enum_head = ENUM ~ identifier ~ text ":" ~ integer ~ text "{"

-- packets and structs differ in their keyword alone
abbrev pub parent_head : Peg → Peg
parent_head k = k ~ identifier ~ opt (text ":" ~ identifier) ~ opt (text "(" ~ constraint_list ~ text ")") ~ text "{"

unfoldable pub packet_head : Peg
packet_head = parent_head PACKET

unfoldable pub struct_head : Peg
struct_head = parent_head STRUCT

unfoldable pub group_head : Peg
group_head = GROUP ~ identifier ~ text "{"

unfoldable pub checksum_head : Peg
checksum_head = CHECKSUM ~ identifier ~ text ":" ~ integer ~ string

unfoldable pub custom_head : Peg
custom_head = CUSTOM_FIELD ~ identifier ~ opt (text ":" ~ integer) ~ string

-- r is the head h with its match m, where m took
pub record Kept (m : Match) (h : Header) (r : Matched Header) : Type 0 where
  pub same : r.at ≡ m
  pub kept : r.value ≡ pick (hit m) h no_header

-- r is the head that starts with the keyword's match k, whichever keyword that is
pub record Heads (k : Match) (t : List ℕ) (r : Matched Header) : Type 0 where
  pub heads : (g : Peg) (j : Rule) → Follows (Took 0 0) g t k (λ o. leaf_at j o (span_of (Took 0 0) k))
      → Headed j (parent_head g) t r
