-- Moving (01, 'Rows', last paragraph): what becomes of each word of a row whose text stands behind more text than before, and
-- which itself stands behind more rows.
use Rattle.std.specs.Prelude.{ℕ, zero, suc, ◌+◌, ◌-◌, ◌≡◌, Bool, true, not, ◌⊎◌, List, [], ◌∷◌, ◌++◌, eqb, length, get_or, set}
use Rattle.meaning.specs.declared.SourceLocation.{SourceLocation}
use Rattle.meaning.specs.Choice.{pick}
use Rattle.meaning.specs.Quoted.{bytes}
use Rattle.meaning.specs.Rules.{Rule}
use Rattle.meaning.specs.Forest.{Forest, nil, tree}
use Rattle.meaning.specs.Walk.{kinds, kind_in}
use Rattle.meaning.specs.Tables.{Table}
use Rattle.meaning.specs.Rows.{row_kind, start_offset, start_line, start_column, end_offset, end_line, end_column, declaration_id_offset, declaration_other_offset, declaration_first, declaration_count, declaration_first_constraint, declaration_constraint_count, field_a_offset, field_b_offset, field_c_offset, field_first_constraint, field_constraint_count, field_condition, tag_id_offset, constraint_id_offset, constraint_tag_offset}

-- by how much: offsets grow by the bytes, and lines by the lines; a column loses what is said of its line; an index into a table
-- grows by the rows that stand before
pub record Move : Type 0 where
  pub bytes : ℕ
  pub lines : ℕ
  pub loses : ℕ → ℕ
  pub before : Table → ℕ

-- ---- the words that move
pub data Sort : Type 0 where
  -- of a place: an offset, a line, and a column, whose line is the word at that position
  offset : Sort
  line : Sort
  column : ℕ → Sort
  -- the offset of a name, 0 if it is absent
  name : Sort
  -- a first row of a table, whose count is the word at that position
  first : Table → ℕ → Sort
  -- a condition's constraint row plus 1, or 0
  condition : Sort

-- 'Absent names .. and condition words of 0 stay 0'
abbrev pub unless_none : ℕ → ℕ → ℕ
unless_none k zero = 0
unless_none k (suc x) = suc x + k

-- 'firsts with a count of 0 .. stay 0; a first of 0 with a count above 0 grows like any other'
abbrev pub unless_empty : ℕ → ℕ → ℕ → ℕ
unless_empty k zero x = x
unless_empty k (suc n) x = x + k

-- the word x of the row ws
abbrev pub moved_word : Move → List ℕ → Sort → ℕ → ℕ
moved_word m ws offset x = x + m.bytes
moved_word m ws line x = x + m.lines
moved_word m ws (column l) x = x - m.loses (get_or ws l 0)
moved_word m ws name x = unless_none m.bytes x
moved_word m ws (first t n) x = unless_empty (m.before t) (get_or ws n 0) x
moved_word m ws condition x = unless_none (m.before Table.constraints) x

-- ---- where they stand: every other word of a row stays
pub data Moving : Type 0 where
  ◌moves-as◌ : ℕ → Sort → Moving

infix 30 ◌moves-as◌
abbrev pub place_moving : List Moving
place_moving =
    (start_offset moves-as offset) ∷ (start_line moves-as line) ∷ (start_column moves-as column start_line)
    ∷ (end_offset moves-as offset) ∷ (end_line moves-as line) ∷ (end_column moves-as column end_line)
    ∷ []

-- 'first and count (tag rows of an enum, else field rows)': an enum is kind 1
abbrev pub members : ℕ → Table
members kind = pick (eqb kind 1) Table.tags Table.fields

abbrev pub moving : Table → ℕ → List Moving
moving Table.declarations kind =
    place_moving
    ++ (declaration_id_offset moves-as name) ∷ (declaration_other_offset moves-as name)
    ∷ (declaration_first moves-as first (members kind) declaration_count)
    ∷ (declaration_first_constraint moves-as first Table.constraints declaration_constraint_count)
    ∷ []
moving Table.fields kind =
    place_moving
    ++ (field_a_offset moves-as name) ∷ (field_b_offset moves-as name) ∷ (field_c_offset moves-as name)
    ∷ (field_first_constraint moves-as first Table.constraints field_constraint_count)
    ∷ (field_condition moves-as condition)
    ∷ []
moving Table.tags kind = place_moving ++ (tag_id_offset moves-as name) ∷ []
moving Table.constraints kind = place_moving ++ (constraint_id_offset moves-as name) ∷ (constraint_tag_offset moves-as name) ∷ []
moving Table.comments kind = place_moving

-- ---- the row, and rows
-- of the row ws, these words moved into vs
abbrev pub moved_words : Move → List ℕ → List Moving → List ℕ → List ℕ
moved_words m ws [] vs = vs
moved_words m ws ((i moves-as s) ∷ ms) vs = moved_words m ws ms (set vs i (moved_word m ws s (get_or ws i 0)))

unfoldable pub moved_row : Move → Table → List ℕ → List ℕ
moved_row m t ws = moved_words m ws (moving t (get_or ws row_kind 0)) ws

unfoldable pub moved_rows : Move → Table → List (List ℕ) → List (List ℕ)
moved_rows m t [] = []
moved_rows m t (ws ∷ rs) = moved_row m t ws ∷ moved_rows m t rs

-- ---- how much moves by what
-- the LFs of a text
unfoldable pub breaks : List ℕ → ℕ
breaks [] = 0
breaks (b ∷ bs) = pick (eqb b 10) 1 0 + breaks bs

-- 'the keyword line .. with its newline'
pub data KeywordLine : List ℕ → Type 0 where
  little : KeywordLine (bytes "little_endian_packets\n")
  big : KeywordLine (bytes "big_endian_packets\n")

-- demand 3, declarations that stood behind the keyword line and stand now behind the old source and a newline: 'offsets grow by the
-- old source's length plus 1 less the keyword line's length with its newline, lines by the old source's LF count; columns stay';
-- 'by the old count of the table they point into'
abbrev pub appended : List ℕ → List ℕ → (Table → ℕ) → Move
appended old keyword counts = record { bytes = length old + 1 - length keyword; lines = breaks old; loses = λ l. 0; before = counts }

-- W12, a cut 'directly after a declaration's last byte', a test declaration's too: one of these nodes ends there
abbrev pub declares : Rule → Bool
declares r = not (eqb (kind_in (Rule.test_declaration ∷ kinds) r 1) 0)

abbrev pub Ends : ℕ → Forest → Type 0
Ends cut nil = ⊥
Ends cut (tree r s l k more) = ((declares r ≡ true) × (s + l ≡ cut)) ⊎ Ends cut more

-- W12, what stood behind the cut and stands now behind the inserted text between two newlines: 'by the inserted bytes, lines and
-- row counts', 'and a place on the cut's own line loses the cut's column'
abbrev pub inserted : SourceLocation → List ℕ → (Table → ℕ) → Move
inserted cut text counts =
    record { bytes = length text + 2; lines = breaks text + 2; loses = λ l. pick (eqb l cut.line) cut.column 0; before = counts }
