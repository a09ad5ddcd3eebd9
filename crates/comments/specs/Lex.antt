-- The comments of a source by one pass over its bytes: at a comment its row, at a string on to its end, else one byte on.
use Rattle.std.specs.Prelude.{ℕ, zero, suc, ◌+◌, ◌-◌, List, [], ◌∷◌, ◌++◌}
use Rattle.meaning.specs.declared.Match.{Match}
use Rattle.meaning.specs.declared.Match.TheVariants.{Missed, Took}
use Rattle.meaning.specs.Peg.{run, bytewise}
use Rattle.meaning.specs.Pdl.{COMMENT, string}
use Rattle.meaning.specs.Tables.{Table, Item, count}
use Rattle.meaning.specs.Walk.{comment_row}

-- what stands at offset o of src, as a comment and as a string; `rest k` is the pass from the next byte on, over k bytes first
abbrev pub token : List ℕ → ℕ → Match → Match → (ℕ → List Item) → List Item
token src o (Took n f) s rest = comment_row src o n ++ rest (n - 1)
token src o (Missed f) (Took n g) rest = rest (n - 1)
token src o (Missed f) (Missed g) rest = rest 0

-- the pass over a text that stands at offset o of src; its first k bytes are inside a comment or a string
unfoldable pub lex : List ℕ → ℕ → ℕ → List ℕ → List Item
lex src k o [] = []
lex src (suc k) o (x ∷ t) = lex src k (o + 1) t
lex src zero o (x ∷ t) =
    token src o (run (bytewise COMMENT) (x ∷ t)) (run (bytewise string) (x ∷ t)) (λ k. lex src k (o + 1) t)

-- the pass over a whole source
abbrev pub lexical : List ℕ → List Item
lexical src = lex src 0 0 src

-- how many rows it has
abbrev pub comment_count : List ℕ → ℕ
comment_count src = count Table.comments (lexical src)
