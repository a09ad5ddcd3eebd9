-- The pass over small texts, by computation.
use Rattle.std.specs.Prelude.{◌≡◌, refl, [], ◌∷◌}
use Rattle.meaning.specs.Quoted.{bytes}
use Rattle.meaning.specs.Tables.{Table, row}
use Rattle.meaning.specs.Everything.{everything}
use Rattle.comments.specs.Lex.{lex, lexical}

-- a line comment ends before its LF
line : lexical (bytes "//a\n") ≡ row Table.comments (2 ∷ 0 ∷ 0 ∷ 0 ∷ 3 ∷ 0 ∷ 3 ∷ []) ∷ []
unfolding everything lex
line = refl

-- nothing opens inside a block comment, and its lines count
block : lexical (bytes "\n/*/\n*/") ≡ row Table.comments (1 ∷ 1 ∷ 1 ∷ 0 ∷ 7 ∷ 2 ∷ 2 ∷ []) ∷ []
unfolding everything lex
block = refl

-- a text in a string is no comment, and a quote in a comment opens no string
quoted : lexical (bytes "\"/**/\"/*\"*/\"//\"") ≡ row Table.comments (1 ∷ 6 ∷ 0 ∷ 6 ∷ 11 ∷ 0 ∷ 11 ∷ []) ∷ []
unfolding everything lex
quoted = refl

-- a quote that none closes is one byte, and so is the slash of an unclosed block comment
open_quote : lexical (bytes "\"/*//") ≡ row Table.comments (2 ∷ 3 ∷ 0 ∷ 3 ∷ 5 ∷ 0 ∷ 5 ∷ []) ∷ []
unfolding everything lex
open_quote = refl
