use Rattle.text.proofs.PlaceTurns.{move_starts, move_line, move_ends}
use Rattle.text.proofs.move_to.Goals as goal

pub loop-i-init : goal.loop-i-init
loop-i-init c = move_starts _ _ c.args.p c.requires.0 c.requires.1.0 c.requires.1.1

pub returns-then-i-n : goal.returns-then-i-n
returns-then-i-n c = move_ends c.loop-i.invariant c.line_length-n.ensures c.if-i-n.true

pub loop-i-preserved : goal.loop-i-preserved
loop-i-preserved c = move_line c.loop-i.invariant c.line_length-n.ensures c.if-i-n.false
