-- The words of a row, by name and in 01's order ('Rows', and 'Aligner' for its two tables). No other file has a position or an
-- order of words: rows are made by the builders below, and each builder's law holds the names to it.
use Rattle.std.specs.Prelude.{ℕ, ◌≡◌, refl, List, [], ◌∷◌, ◌++◌, length, get_or}
use Rattle.meaning.specs.declared.SourceLocation.{SourceLocation}
use Rattle.meaning.specs.Tables.{Table, size}

-- ---- what the laws say: so many words, and under each name the part that was given for it
pub data Named : Type 0 where
  ◌holds◌ : ℕ → ℕ → Named

infix 30 ◌holds◌
abbrev found : List ℕ → List Named → List ℕ
found ws [] = []
found ws ((i holds w) ∷ ns) = get_or ws i 0 ∷ found ws ns

abbrev given : List Named → List ℕ
given [] = []
given ((i holds w) ∷ ns) = w ∷ given ns

abbrev Holds : ℕ → List ℕ → List Named → Type 0
Holds n ws ns = (length ws ≡ n) × (found ws ns ≡ given ns)

-- ---- all rows: 'Words 1 to 6 are start offset, line, column, then end offset, line, column'; word 0 is the kind
abbrev pub row_kind : ℕ
row_kind = 0

abbrev pub start_offset : ℕ
start_offset = 1

abbrev pub start_line : ℕ
start_line = 2

abbrev pub start_column : ℕ
start_column = 3

abbrev pub end_offset : ℕ
end_offset = 4

abbrev pub end_line : ℕ
end_line = 5

abbrev pub end_column : ℕ
end_column = 6

abbrev pub place_words : SourceLocation → SourceLocation → List ℕ
place_words p q = p.offset ∷ p.line ∷ p.column ∷ q.offset ∷ q.line ∷ q.column ∷ []

-- the kind and the place of a row that was given both
abbrev located : ℕ → SourceLocation → SourceLocation → List Named → List Named
located k p q ns =
    (row_kind holds k)
    ∷ (start_offset holds p.offset) ∷ (start_line holds p.line) ∷ (start_column holds p.column)
    ∷ (end_offset holds q.offset) ∷ (end_line holds q.line) ∷ (end_column holds q.column)
    ∷ ns

-- ---- 'The endianness is 1 little or 2 big, with its place'
abbrev pub endianness_size : ℕ
endianness_size = 7

abbrev pub endianness_words : ℕ → List ℕ → List ℕ
endianness_words value place = value ∷ place

pub endianness_named : (k : ℕ) (p q : SourceLocation) → Holds endianness_size (endianness_words k (place_words p q)) (located k p q [])
endianness_named k p q = (refl, refl)

-- ---- 'Comment, 7 words: kind; place'
abbrev pub comment_words : ℕ → List ℕ → List ℕ
comment_words kind place = kind ∷ place

pub comment_named : (k : ℕ) (p q : SourceLocation) → Holds (size Table.comments) (comment_words k (place_words p q)) (located k p q [])
comment_named k p q = (refl, refl)

-- ---- 'Declaration, 17 words: kind; place; id; parent or function text without quotes; optional width; first and count (tag rows
-- of an enum, else field rows); first and count of constraint rows of the header'
abbrev pub declaration_id_offset : ℕ
declaration_id_offset = 7

abbrev pub declaration_id_length : ℕ
declaration_id_length = 8

abbrev pub declaration_other_offset : ℕ
declaration_other_offset = 9

abbrev pub declaration_other_length : ℕ
declaration_other_length = 10

abbrev pub declaration_width_flag : ℕ
declaration_width_flag = 11

abbrev pub declaration_width : ℕ
declaration_width = 12

abbrev pub declaration_first : ℕ
declaration_first = 13

abbrev pub declaration_count : ℕ
declaration_count = 14

abbrev pub declaration_first_constraint : ℕ
declaration_first_constraint = 15

abbrev pub declaration_constraint_count : ℕ
declaration_constraint_count = 16

abbrev pub declaration_words : ℕ → List ℕ → List ℕ → List ℕ → List ℕ → ℕ → ℕ → ℕ → ℕ → List ℕ
declaration_words kind place id other width first count first-constraint constraint-count =
    kind ∷ place ++ id ++ other ++ width ++ first ∷ count ∷ first-constraint ∷ constraint-count ∷ []

pub declaration_named : (k : ℕ) (p q : SourceLocation) (io il oo ol wf w f c cf cc : ℕ)
    → Holds (size Table.declarations)
    (declaration_words k (place_words p q) (io ∷ il ∷ []) (oo ∷ ol ∷ []) (wf ∷ w ∷ []) f c cf cc)
    (located k p q
    ((declaration_id_offset holds io) ∷ (declaration_id_length holds il)
    ∷ (declaration_other_offset holds oo) ∷ (declaration_other_length holds ol)
    ∷ (declaration_width_flag holds wf) ∷ (declaration_width holds w)
    ∷ (declaration_first holds f) ∷ (declaration_count holds c)
    ∷ (declaration_first_constraint holds cf) ∷ (declaration_constraint_count holds cc)
    ∷ []))
declaration_named k p q io il oo ol wf w f c cf cc = (refl, refl)

-- ---- 'Field, 20 words: kind; place; names a, b, c; optional numbers a, b; first and count of a group's constraints; condition's
-- constraint row plus 1, or 0'
abbrev pub field_a_offset : ℕ
field_a_offset = 7

abbrev pub field_a_length : ℕ
field_a_length = 8

abbrev pub field_b_offset : ℕ
field_b_offset = 9

abbrev pub field_b_length : ℕ
field_b_length = 10

abbrev pub field_c_offset : ℕ
field_c_offset = 11

abbrev pub field_c_length : ℕ
field_c_length = 12

abbrev pub field_flag_a : ℕ
field_flag_a = 13

abbrev pub field_number_a : ℕ
field_number_a = 14

abbrev pub field_flag_b : ℕ
field_flag_b = 15

abbrev pub field_number_b : ℕ
field_number_b = 16

abbrev pub field_first_constraint : ℕ
field_first_constraint = 17

abbrev pub field_constraint_count : ℕ
field_constraint_count = 18

abbrev pub field_condition : ℕ
field_condition = 19

abbrev pub field_words : ℕ → List ℕ → List ℕ → List ℕ → List ℕ → List ℕ → List ℕ → ℕ → ℕ → ℕ → List ℕ
field_words kind place a b c number-a number-b first-constraint constraint-count condition =
    kind ∷ place ++ a ++ b ++ c ++ number-a ++ number-b ++ first-constraint ∷ constraint-count ∷ condition ∷ []

pub field_named : (k : ℕ) (p q : SourceLocation) (ao al bo bl co cl fa na fb nb f c i : ℕ)
    → Holds (size Table.fields)
    (field_words k (place_words p q) (ao ∷ al ∷ []) (bo ∷ bl ∷ []) (co ∷ cl ∷ []) (fa ∷ na ∷ []) (fb ∷ nb ∷ []) f c i)
    (located k p q
    ((field_a_offset holds ao) ∷ (field_a_length holds al)
    ∷ (field_b_offset holds bo) ∷ (field_b_length holds bl)
    ∷ (field_c_offset holds co) ∷ (field_c_length holds cl)
    ∷ (field_flag_a holds fa) ∷ (field_number_a holds na)
    ∷ (field_flag_b holds fb) ∷ (field_number_b holds nb)
    ∷ (field_first_constraint holds f) ∷ (field_constraint_count holds c)
    ∷ (field_condition holds i)
    ∷ []))
field_named k p q ao al bo bl co cl fa na fb nb f c i = (refl, refl)

-- ---- 'Tag, 12 words: kind; place; id; value or range start; range end; number of inner rows'
abbrev pub tag_id_offset : ℕ
tag_id_offset = 7

abbrev pub tag_id_length : ℕ
tag_id_length = 8

abbrev pub tag_value : ℕ
tag_value = 9

abbrev pub tag_range_end : ℕ
tag_range_end = 10

abbrev pub tag_inner : ℕ
tag_inner = 11

abbrev pub tag_words : ℕ → List ℕ → List ℕ → ℕ → ℕ → ℕ → List ℕ
tag_words kind place id value range-end inner = kind ∷ place ++ id ++ value ∷ range-end ∷ inner ∷ []

pub tag_named : (k : ℕ) (p q : SourceLocation) (io il v e n : ℕ)
    → Holds (size Table.tags) (tag_words k (place_words p q) (io ∷ il ∷ []) v e n)
    (located k p q
    ((tag_id_offset holds io) ∷ (tag_id_length holds il) ∷ (tag_value holds v) ∷ (tag_range_end holds e) ∷ (tag_inner holds n) ∷ []))
tag_named k p q io il v e n = (refl, refl)

-- ---- 'Constraint, 12 words: kind; place; id; tag name; value'
abbrev pub constraint_id_offset : ℕ
constraint_id_offset = 7

abbrev pub constraint_id_length : ℕ
constraint_id_length = 8

abbrev pub constraint_tag_offset : ℕ
constraint_tag_offset = 9

abbrev pub constraint_tag_length : ℕ
constraint_tag_length = 10

abbrev pub constraint_value : ℕ
constraint_value = 11

abbrev pub constraint_words : ℕ → List ℕ → List ℕ → List ℕ → ℕ → List ℕ
constraint_words kind place id tag value = kind ∷ place ++ id ++ tag ++ value ∷ []

pub constraint_named : (k : ℕ) (p q : SourceLocation) (io il to tl v : ℕ)
    → Holds (size Table.constraints) (constraint_words k (place_words p q) (io ∷ il ∷ []) (to ∷ tl ∷ []) v)
    (located k p q
    ((constraint_id_offset holds io) ∷ (constraint_id_length holds il)
    ∷ (constraint_tag_offset holds to) ∷ (constraint_tag_length holds tl)
    ∷ (constraint_value holds v)
    ∷ []))
constraint_named k p q io il to tl v = (refl, refl)

-- ---- the aligner's tables. 'Placed row: symbol, width, offset'
abbrev pub placed_size : ℕ
placed_size = 3

abbrev pub placed_symbol : ℕ
placed_symbol = 0

abbrev pub placed_width : ℕ
placed_width = 1

abbrev pub placed_offset : ℕ
placed_offset = 2

abbrev pub placed_words : ℕ → ℕ → ℕ → List ℕ
placed_words symbol width offset = symbol ∷ width ∷ offset ∷ []

pub placed_named : (s w o : ℕ)
    → Holds placed_size (placed_words s w o) ((placed_symbol holds s) ∷ (placed_width holds w) ∷ (placed_offset holds o) ∷ [])
placed_named s w o = (refl, refl)

-- ---- 'Chunk row: kind, first placed row, count, width, symbol'
abbrev pub chunk_size : ℕ
chunk_size = 5

abbrev pub chunk_kind : ℕ
chunk_kind = 0

abbrev pub chunk_first : ℕ
chunk_first = 1

abbrev pub chunk_count : ℕ
chunk_count = 2

abbrev pub chunk_width : ℕ
chunk_width = 3

abbrev pub chunk_symbol : ℕ
chunk_symbol = 4

abbrev pub chunk_words : ℕ → ℕ → ℕ → ℕ → ℕ → List ℕ
chunk_words kind first count width symbol = kind ∷ first ∷ count ∷ width ∷ symbol ∷ []

pub chunk_named : (k f c w s : ℕ)
    → Holds chunk_size (chunk_words k f c w s)
    ((chunk_kind holds k) ∷ (chunk_first holds f) ∷ (chunk_count holds c) ∷ (chunk_width holds w) ∷ (chunk_symbol holds s) ∷ [])
chunk_named k f c w s = (refl, refl)
