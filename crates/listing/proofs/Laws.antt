-- The list of a source from what the reading answered: one law for each way to end.
use Prim.Native.Nat.{ℕ, ◌≤◌, ◌<◌}
use mathlib.Core.Path.{◌≡◌}
use mathlib.Core.List.{List}
use lib.ListN.{length, get_or}
use borrow.Author.Tests.{lt-ltb, le-ltb, ne_eqb}
use Rattle.meaning.specs.Tables.{Lent}
use Rattle.meaning.specs.Reading.{Outcome, answer}
use Rattle.std.specs.Prelude.{Ok, Err}
use Rattle.reading.specs.declared.Reading.{Reading}
use Rattle.reading.specs.declared.refusals.Refusal.{Refusal}
use Rattle.reading.specs.Refusals.{number_of, place_of, reason_of, numbered}
use Rattle.reading.specs.Outcomes.{leaving}
use Rattle.printing.specs.declared.pages.Page.{Page}
use Rattle.printing.specs.Pages.{Wrote}
use Rattle.printing.specs.Answers.{refusal, reading, answered}
use Rattle.printing.specs.Layouts.{layouts}
use Rattle.listing.specs.declared.Wanted.{Wanted}
use Rattle.listing.specs.declared.Wanted.TheVariants.{Tables, Layouts}
use Rattle.listing.specs.Lists.{longest, empty, laid_out, lines_of, listed}

pub too_long : (src : List ℕ) (wanted : Wanted) {p q : Page} → longest < length src
    → Wrote (refusal 1 longest 0) p q → Wrote (listed wanted src) p q
unfolding listed
too_long src wanted h w = rw (lt-ltb longest (length src) h) w

-- what the reading answered, and what it left in the tables
module _ (l : Lent) {p q : Page} where
  pub refused : (wanted : Wanted) (e : Refusal) → Wrote (refusal (number_of e) (place_of e) (reason_of e)) p q
      → Wrote (lines_of wanted (leaving (Err e) l)) p q
  unfolding lines_of answered laid_out
  refused Tables e w = rw (ne_eqb (number_of e) 0 (numbered e)) w
  refused Layouts e w = rw (ne_eqb (number_of e) 0 (numbered e)) w

  pub tables_listed : (wanted : Wanted) (r : Reading) → wanted ≡ Tables → Wrote (reading r.endianness r.counts l.w1 l.w2 l.w3 l.w4 l.w5) p q
      → Wrote (lines_of wanted (leaving (Ok r) l)) p q
  unfolding lines_of answered
  tables_listed wanted r t w = rw t w

  pub layouts_listed : (wanted : Wanted) (r : Reading) → wanted ≡ Layouts → Wrote (layouts l.w1 l.w2 (get_or r.counts 0 0) 0) p q
      → Wrote (lines_of wanted (leaving (Ok r) l)) p q
  unfolding lines_of laid_out
  layouts_listed wanted r t w = rw t w

pub short_enough : (src : List ℕ) (wanted : Wanted) (o : Outcome) {p q : Page} → length src ≤ longest → o ≡ answer src empty
    → Wrote (lines_of wanted o) p q → Wrote (listed wanted src) p q
unfolding listed
short_enough src wanted o h e l = rw (le-ltb longest (length src) h, ← e) l
