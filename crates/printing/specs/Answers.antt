-- The lines of an answer (01, P3): E and the rows of all tables in number order, or the one line R.
use Rattle.std.specs.Prelude.{ℕ, List, [], ◌∷◌, ◌++◌, eqb, get_or}
use Rattle.meaning.specs.Choice.{pick}
use Rattle.meaning.specs.Tables.{Table, size}
use Rattle.meaning.specs.Reading.{Outcome}
use Rattle.printing.specs.Lines.{line, lines}
use Rattle.printing.specs.declared.answers.Tables as lent

-- R
abbrev pub refusal : ℕ → ℕ → ℕ → List ℕ
refusal number place reason = line 82 (number ∷ place ∷ reason ∷ [])

-- D, F, T, C, M
abbrev pub tables : List ℕ → List ℕ → List ℕ → List ℕ → List ℕ → List ℕ → List ℕ
tables counts ds fs ts cs ms =
    lines 68 (size Table.declarations) (get_or counts 0 0) ds
    ++ lines 70 (size Table.fields) (get_or counts 1 0) fs
    ++ lines 84 (size Table.tags) (get_or counts 2 0) ts
    ++ lines 67 (size Table.constraints) (get_or counts 3 0) cs
    ++ lines 77 (size Table.comments) (get_or counts 4 0) ms

-- E, and the rows behind it
abbrev pub reading : List ℕ → List ℕ → List ℕ → List ℕ → List ℕ → List ℕ → List ℕ → List ℕ
reading endianness counts ds fs ts cs ms = line 69 endianness ++ tables counts ds fs ts cs ms

-- the same of lent tables
abbrev pub tables_of : List ℕ → lent.Tables → List ℕ
tables_of counts t = tables counts t.declarations.now t.fields.now t.tags.now t.constraints.now t.comments.now

abbrev pub reading_of : List ℕ → List ℕ → lent.Tables → List ℕ
reading_of endianness counts t = reading endianness counts t.declarations.now t.fields.now t.tags.now t.constraints.now t.comments.now

-- the lines of an outcome
unfoldable pub answered : Outcome → List ℕ
answered o =
    let a = o.answer in
    let l = o.left in
    pick (eqb a.number 0) (reading a.endianness a.counts l.w1 l.w2 l.w3 l.w4 l.w5) (refusal a.number a.place a.reason)
