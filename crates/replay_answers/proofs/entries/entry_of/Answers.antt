-- `entry_of` meets its contract: its line and its parts give the whole entry.
use Rattle.std.proofs.Common.{arith}
use Rattle.replay_answers.proofs.Laws.{entry_stands}
use Rattle.replay_answers.proofs.entries.entry_of.Goals as goal

pub returns : goal.returns
returns c =
    let stop = c.in_ok-stop.ensures in
    let last = c.in_ok-last.ensures in
    record {
      from = omega (arith, c.requires.0, stop.is, last.is);
      inside = omega (arith, last.inside);
      stands = entry_stands _ _ _ _ _ _ _ c.requires.0 stop last (c.is_line.ensures.0 c.if-not-is_line.false);
    }
