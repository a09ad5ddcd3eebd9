-- Terms: the names and numbers that a part of a match stands for, and the words of a row. The match's text stands at offset o.
use Rattle.std.specs.Prelude.{ℕ, ◌+◌, ◌-◌, ◌≤◌, List, [], ◌∷◌, take, drop, Option, None, Some}
use Rattle.meaning.specs.declared.SourceLocation.{SourceLocation}
use Rattle.meaning.specs.Convert.{convert, reason_of, value_of}
use Rattle.meaning.specs.Tables.{Item, int}
use Rattle.meaning.specs.Rows.{place_words, declaration_words, field_words, tag_words, constraint_words}
use Rattle.spans.specs.declared.Span.{Span}
use Rattle.spans.specs.declared.Operand.{Operand}
use Rattle.spans.specs.declared.Operand.TheVariants.{Identifier, Integer}
use Rattle.spans.specs.declared.ArraySize.{ArraySize}
use Rattle.spans.specs.declared.ArraySize.TheVariants.{Unknown, Modifier, Known}
use Rattle.spans.specs.declared.Target.{Target}
use Rattle.spans.specs.declared.Target.TheVariants.{OfField, OfPayload, OfBody}
use Rattle.walk.specs.declared.Name.{Name}
use Rattle.walk.specs.declared.Number.{Number}
use Rattle.walk.specs.declared.Described.{Described}
use Rattle.walk.specs.declared.rows.NumberWords.{NumberWords}
use Rattle.walk.specs.declared.rows.FieldWords.{FieldWords}
use Rattle.walk.specs.declared.kinds.FieldKind.{FieldKind}
use Rattle.walk.specs.declared.kinds.TagKind.{TagKind}
use Rattle.walk.specs.declared.kinds.ConstraintKind.{ConstraintKind}
use Rattle.walk.specs.declared.kinds.ConstraintKind.TheVariants as kinds
use Rattle.walk.specs.Kinds.{field_number, tag_number, constraint_number}

-- ---- numbers, where there are some
unfoldable pub number_at : List ℕ → ℕ → ℕ → Number
number_at src o n = record { place = o; value = convert (take n (drop o src)) }

abbrev pub span_number : List ℕ → ℕ → Span → Option Number
span_number src o s = Some (number_at src (o + s.start) s.len)

abbrev pub operand_number : List ℕ → ℕ → Operand → Option Number
operand_number src o (Identifier s) = None
operand_number src o (Integer s) = span_number src o s

abbrev pub size_number : List ℕ → ℕ → ArraySize → Option Number
size_number src o Unknown = None
size_number src o (Modifier s) = None
size_number src o (Known s) = span_number src o s

abbrev pub part_number : List ℕ → ℕ → Option Span → Option Number
part_number src o None = None
part_number src o (Some s) = span_number src o s

-- the item that the walk meets where there is a number
abbrev pub integer_items : Option Number → List Item
integer_items None = []
integer_items (Some x) = int x.place (reason_of x.value) ∷ []

-- ---- names: offset and length, 0 0 where there is none
abbrev pub span_name : ℕ → Span → Name
span_name o s = record { offset = o + s.start; len = s.len }

abbrev pub no_name : Name
no_name = record { offset = 0; len = 0 }

abbrev pub operand_name : ℕ → Operand → Name
operand_name o (Identifier s) = span_name o s
operand_name o (Integer s) = no_name

-- an array's size has a name where it is a modifier, with its `+`
abbrev pub size_name : ℕ → ArraySize → Name
size_name o Unknown = no_name
size_name o (Modifier s) = span_name o s
size_name o (Known s) = no_name

abbrev pub part_name : ℕ → Option Span → Name
part_name o None = no_name
part_name o (Some s) = span_name o s

abbrev pub target_name : ℕ → Target → Name
target_name o (OfField s) = span_name o s
target_name o (OfPayload s) = span_name o s
target_name o (OfBody s) = span_name o s

-- a quoted text without its quotes
abbrev pub unquoted_name : ℕ → Span → Name
unquoted_name o s = record { offset = o + s.start + 1; len = s.len - 2 }

-- a declaration's name beside its id: its function's text, or else its parent
abbrev pub other_name : ℕ → Option Span → Option Span → Name
other_name o parent None = part_name o parent
other_name o parent (Some s) = unquoted_name o s

-- ---- a span, or a part's, lies inside a text of n bytes
abbrev pub Inside : ℕ → Span → Type 0
Inside n s = s.start + s.len ≤ n

abbrev pub InsideOperand : ℕ → Operand → Type 0
InsideOperand n (Identifier s) = Inside n s
InsideOperand n (Integer s) = Inside n s

abbrev pub InsideSize : ℕ → ArraySize → Type 0
InsideSize n Unknown = Unit {0}
InsideSize n (Modifier s) = Inside n s
InsideSize n (Known s) = Inside n s

abbrev pub InsidePart : ℕ → Option Span → Type 0
InsidePart n None = Unit {0}
InsidePart n (Some s) = Inside n s

abbrev pub InsideTarget : ℕ → Target → Type 0
InsideTarget n (OfField s) = Inside n s
InsideTarget n (OfPayload s) = Inside n s
InsideTarget n (OfBody s) = Inside n s

-- ---- rows, from names and numbers
abbrev pub name_words : Name → List ℕ
name_words x = x.offset ∷ x.len ∷ []

-- whether an integer is there, and what it says, 0 where there is none
abbrev pub flag_of : Option Number → ℕ
flag_of None = 0
flag_of (Some x) = 1

abbrev pub said_by : Option Number → ℕ
said_by None = 0
said_by (Some x) = value_of x.value

abbrev pub words_of_number : Option Number → NumberWords
words_of_number x = record { found = flag_of x; value = said_by x }

abbrev pub pair_words : NumberWords → List ℕ
pair_words w = w.found ∷ w.value ∷ []

abbrev pub number_words : Option Number → List ℕ
number_words x = pair_words (words_of_number x)

abbrev pub words_of_description : Described → FieldWords
words_of_description d =
    record { kind = field_number d.kind; a = d.a; b = d.b; c = d.c; na = words_of_number d.na; nb = words_of_number d.nb }

unfoldable pub words_of_tag : TagKind → SourceLocation → SourceLocation → Name → Option Number → Option Number → ℕ → List ℕ
words_of_tag kind p q id v e inner = tag_words (tag_number kind) (place_words p q) (name_words id) (said_by v) (said_by e) inner

abbrev pub constraint_kind : Operand → ConstraintKind
constraint_kind (Identifier s) = kinds.Tag
constraint_kind (Integer s) = kinds.Integer

unfoldable pub words_of_constraint : ConstraintKind → SourceLocation → SourceLocation → Name → Name → Option Number → List ℕ
words_of_constraint kind p q id tag v = constraint_words (constraint_number kind) (place_words p q) (name_words id) (name_words tag) (said_by v)

unfoldable pub words_of_field : FieldKind → SourceLocation → SourceLocation → Name → Name → Name → Option Number → Option Number → ℕ → ℕ → ℕ → List ℕ
words_of_field kind p q a b c na nb first count cond =
    field_words (field_number kind) (place_words p q) (name_words a) (name_words b) (name_words c) (number_words na) (number_words nb) first count cond

unfoldable pub words_of_declaration : ℕ → SourceLocation → SourceLocation → Name → Name → Option Number → ℕ → ℕ → ℕ → ℕ → List ℕ
words_of_declaration kind p q id other width first count cfirst ccount =
    declaration_words kind (place_words p q) (name_words id) (name_words other) (number_words width) first count cfirst ccount
