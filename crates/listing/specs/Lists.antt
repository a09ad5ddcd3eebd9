-- What the programs list of a source: at most 16,384 bytes of it, over tables of 40, 100, 100, 60 and 100 rows (01, at P3).
use Rattle.std.specs.Prelude.{ℕ, ◌*◌, List, ltb, eqb, length, get_or, replicate}
use Rattle.meaning.specs.Choice.{pick}
use Rattle.meaning.specs.Tables.{Table, size, Lent}
use Rattle.meaning.specs.Reading.{Outcome, answer}
use Rattle.printing.specs.declared.answers.Tables as printed
use Rattle.printing.specs.Answers.{refusal, answered}
use Rattle.printing.specs.Layouts.{layouts}
use Rattle.listing.specs.declared.Wanted.{Wanted}
use Rattle.listing.specs.declared.Wanted.TheVariants.{Tables, Layouts}

abbrev pub longest : ℕ
longest = 16384

-- tables in which nothing stands yet
abbrev pub empty : Lent
empty =
    record {
      w1 = replicate (40 * size Table.declarations) 0;
      w2 = replicate (100 * size Table.fields) 0;
      w3 = replicate (100 * size Table.tags) 0;
      w4 = replicate (60 * size Table.constraints) 0;
      w5 = replicate (100 * size Table.comments) 0;
    }

-- what stands in the tables that a page is written from
abbrev pub left : printed.Tables → Lent
left t =
    record { w1 = t.declarations.now; w2 = t.fields.now; w3 = t.tags.now; w4 = t.constraints.now; w5 = t.comments.now }

-- the layouts of an accepted source; the refusal of any other
unfoldable pub laid_out : Outcome → List ℕ
laid_out o =
    let a = o.answer in
    pick (eqb a.number 0) (layouts o.left.w1 o.left.w2 (get_or a.counts 0 0) 0) (refusal a.number a.place a.reason)

unfoldable pub lines_of : Wanted → Outcome → List ℕ
lines_of Tables o = answered o
lines_of Layouts o = laid_out o

unfoldable pub listed : Wanted → List ℕ → List ℕ
listed wanted src = pick (ltb longest (length src)) (refusal 1 longest 0) (lines_of wanted (answer src empty))
