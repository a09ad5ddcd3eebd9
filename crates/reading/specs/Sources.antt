-- A source that the grammar matches, and what is read of it: by bytes as the matchers have it, by characters as the meaning.
use Rattle.std.specs.Prelude.{ℕ, ◌≡◌, List, [], true, false, length, eqb}
use Rattle.std.proofs.Math.Path.{ap}
use Rattle.std.proofs.Common.{sym, ◌∙◌}
use Rattle.meaning.specs.Utf8.{valid}
use Rattle.meaning.specs.Rules.{Rule}
use Rattle.meaning.specs.Peg.{run, bytewise, hit}
use Rattle.meaning.specs.Forest.{Forest, Out, eval, forest, clean, nodes}
use Rattle.meaning.specs.Pdl.{file}
use Rattle.meaning.specs.Tables.{Table, number, Item, rows_of, first_bad}
use Rattle.meaning.specs.Walk.{part, parse_toplevel, comments, items}
use Rattle.grammar.specs.Bytewise.{file_joined}
use Rattle.comments.specs.Lex.{lexical}
use Rattle.comments.specs.Lexed.{lexed}
use Rattle.declaration_rows.specs.Lists.{rest}
use Rattle.reading.specs.Sorts.{of_toplevel, of_comments}
use Rattle.reading.specs.Partition.{other_rows, same_bad, comment_rows}
use Rattle.reading.specs.Lines.{line_end}
use Rattle.reading.specs.FileNodes.{file_walk}

pub record Matched (src : List ℕ) : Type 0 where
  pub valid : valid src ≡ length src
  pub hits : hit (run (bytewise file) src) ≡ true

-- the forest of a source
abbrev pub whole : List ℕ → Forest
whole src = forest (eval file 0 src)

-- what the walk over its declarations meets
abbrev pub declared : List ℕ → List Item
declared src = parse_toplevel src [] (part Rule.file (clean (whole src))).kids

-- ---- any source: the declarations and the comments, table by table
pub declared_rows : (t : Table) (src : List ℕ) → eqb (number t) 5 ≡ false → rows_of t (items src (whole src)) ≡ rows_of t (declared src)
declared_rows t src e = other_rows t (declared src) e (of_comments src (whole src))

pub declared_bad : (src : List ℕ) → first_bad (items src (whole src)) ≡ first_bad (declared src)
declared_bad src = same_bad (declared src) (of_comments src (whole src))

module _ {src : List ℕ} (m : Matched src) where
  -- its nodes are those that the matchers draw
  pub joined : clean (whole src) ≡ nodes (bytewise file) 0 src
  unfolding nodes
  joined = ap (λ (x : Out). clean (forest x)) (sym (file_joined 0 src m.valid))

  -- the declarations are those behind the endianness line
  pub behind_line : declared src ≡ parse_toplevel src [] (rest src (line_end src))
  behind_line = ap (λ (w : Forest). parse_toplevel src [] (part Rule.file w).kids) joined ∙ file_walk src m.hits

  -- the comments are those of the lexical pass
  pub lexed_rows : rows_of Table.comments (items src (whole src)) ≡ rows_of Table.comments (lexical src)
  lexed_rows =
      comment_rows (of_comments src (whole src)) (of_toplevel src (part Rule.file (clean (whole src))).kids [])
      ∙ ap (λ (x : Out). rows_of Table.comments (comments src (forest x))) (sym (file_joined 0 src m.valid))
      ∙ ap (rows_of Table.comments) (sym (lexed src m.hits))
