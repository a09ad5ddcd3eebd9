-- `blank_run` meets its contract: what is left behind n gives the whole blank run.
use Rattle.std.proofs.Common.{◌-◌, length}
use Rattle.lexis.proofs.BlankTurns.{SpacesNext}
use Rattle.lexis.proofs.blanks.blank_run.Given as goal

abbrev pub invariant-loop-n : goal.invariant-loop-n
invariant-loop-n l = SpacesNext l.s l.n

abbrev pub decreases-loop-n : goal.decreases-loop-n
decreases-loop-n l = length l.s - l.n
