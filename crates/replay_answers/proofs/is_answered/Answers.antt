-- `is_answered` meets its contract: the lines of the source stand on the page whole.
use Rattle.std.proofs.Common.{◌≡◌}
use Rattle.std.proofs.lemmas.Bool.Decides.{Decides-eqb}
use Rattle.std.proofs.lemmas.Slice.Eq.{slice_eq-Decides}
use Rattle.listing.specs.declared.Wanted.TheVariants.{Tables}
use Rattle.listing.specs.Lists.{listed}
use Rattle.listing.specs.Enough.{tables_room}
use Rattle.replay_answers.proofs.Laws.{shows}
use Rattle.replay_answers.proofs.is_answered.Goals as goal

pub returns : goal.returns
returns c =
    let shown : c.written.result.now ≡ listed Tables c.args.source.now
    = shows (tables_room _) c.empty_page-bytes.ensures.1 c.new-page.ensures.as_lent c.new-page.ensures.empty c.put_source.ensures c.written.ensures in
    rw shown at (slice_eq-Decides Decides-eqb c.written.result.now c.args.lines.now c.eq.result c.eq.ensures)
