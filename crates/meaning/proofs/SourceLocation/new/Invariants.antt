-- What is left to fold, from the place so far, is the whole fold.
use Rattle.std.proofs.Common.{◌≡◌, drop}
use Rattle.meaning.specs.Places.{fold, location}
use Rattle.meaning.proofs.SourceLocation.new.Given as goal

abbrev pub invariant-loop-line : goal.invariant-loop-line
invariant-loop-line l = location l.offset l.starts ≡ fold l.offset (drop l.line l.starts) l.line l.place
