-- What the functions say of a place in a source.
use Rattle.std.specs.Prelude.{ℕ, zero, suc, ◌+◌, ◌≤◌, ◌<◌, ◌≡◌, List, Option, Some, None, Bool, false, ◌==◌, ◌||◌, length, drop}
use Rattle.meaning.specs.declared.Match.{Match}
use Rattle.meaning.specs.declared.Match.TheVariants.{Missed, Took}
use Rattle.meaning.specs.declared.SourceLocation.{SourceLocation}
use Rattle.meaning.specs.Choice.{pick}
use Rattle.meaning.specs.Quoted.{bytes}
use Rattle.meaning.specs.Peg.{prefixb, run, bytewise, taken}
use Rattle.meaning.specs.Pdl.{COMMENT, string}
use Rattle.meaning.specs.Rows.{place_words, comment_words}
use Rattle.meaning.specs.Tables.{Lent}
use Rattle.meaning.specs.Walk.{comment_row}
use Rattle.walk.specs.declared.Walk.{Walk}
use Rattle.walk.specs.State.{At, Goes}
use Rattle.comments.specs.declared.CommentKind.{CommentKind}
use Rattle.comments.specs.declared.CommentKind.TheVariants.{Block, Line}

-- from e on, no text starts that closes a block comment
pub record Closed (s : List ℕ) (e : ℕ) : Type 0 where
  pub none : (j : ℕ) → e ≤ j → prefixb (bytes "*/") (drop j s) ≡ false

-- n bytes at offset i are a comment, or n is 0 and none is there
pub record Comment (s : List ℕ) (i n : ℕ) : Type 0 where
  pub is : n ≡ taken (run (bytewise COMMENT) (drop i s))
  pub fits : i + n ≤ length s

-- so many bytes at offset i are a comment, or none is there
abbrev pub CommentAt : List ℕ → ℕ → Option ℕ → Type 0
CommentAt s i None = Comment s i 0
CommentAt s i (Some n) = Comment s i n × (0 < n)

abbrev pub length_of : Match → Option ℕ
length_of (Missed f) = None
length_of (Took n f) = Some n

-- the walk has come to a comment of l bytes at offset i
pub record Ready (s : List ℕ) (i l : ℕ) (n : Walk) : Type 0 where
  pub came : At s i n
  pub comment : Comment s i l
  pub some : 0 < l

-- and goes over its row to its end
abbrev pub GoesComment : List ℕ → ℕ → ℕ → Walk → Walk → (Lent → Lent) → (Lent → Lent) → Type 0
GoesComment s i l n r a b = Goes (comment_row s i l) s (i + l) n r a b

-- n bytes at offset i are a string, or one byte that starts none
abbrev pub stride : ℕ → ℕ
stride zero = 1
stride (suc n) = suc n

pub record Past (s : List ℕ) (i n : ℕ) : Type 0 where
  pub is : n ≡ stride (taken (run (bytewise string) (drop i s)))
  pub fits : i + n ≤ length s
  pub on : 0 < n

-- a byte that may start a comment or a string
abbrev pub opens : ℕ → Bool
opens x = (x == 47) || (x == 34)

-- a comment's kind, and its words
unfoldable pub kind_of : List ℕ → ℕ → CommentKind
kind_of s i = pick (prefixb (bytes "/*") (drop i s)) Block Line

abbrev pub word_of : CommentKind → ℕ
word_of Block = 1
word_of Line = 2

abbrev pub words : CommentKind → SourceLocation → SourceLocation → List ℕ
words kind p q = comment_words (word_of kind) (place_words p q)
