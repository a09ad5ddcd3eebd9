-- `is_line` meets its contract: the line stands on its page whole, for one of two words takes 44 bytes at most.
use Rattle.std.proofs.Common.{◌≤◌, ◌≡◌, arith, length}
use Rattle.std.proofs.lemmas.Bool.Decides.{Decides-eqb}
use Rattle.std.proofs.lemmas.Slice.Eq.{slice_eq-Decides}
use Rattle.printing.specs.Lines.{line}
use Rattle.printing.specs.Room.{line_room}
use Rattle.replay_answers.proofs.Laws.{shows}
use Rattle.replay_answers.proofs.lines.is_line.Goals as goal

pub returns : goal.returns
returns c =
    let few : length (line c.args.letter c.args.words.now) ≤ 64 = omega (arith, line_room c.args.letter c.args.words.now, c.requires) in
    let shown : c.written.result.now ≡ line c.args.letter c.args.words.now
    = shows few c.empty_line-bytes.ensures.1 c.new-page.ensures.as_lent c.new-page.ensures.empty c.put_line.ensures c.written.ensures in
    rw shown at (slice_eq-Decides Decides-eqb c.args.text.now c.written.result.now c.eq.result c.eq.ensures)
