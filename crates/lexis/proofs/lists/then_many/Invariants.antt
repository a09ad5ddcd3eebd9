-- `then_many` meets its contract: the items so far lead from m to where the code is.
use Rattle.std.proofs.Common.{◌≡◌, ◌-◌, true, length}
use Rattle.meaning.specs.Peg.{Peg, seq, bytewise, taken}
use Rattle.meaning.specs.Pdl.{skip}
use Rattle.grammar.specs.Matching.{Within, eats}
use Rattle.grammar.specs.Closures.{StepsOver}
use Rattle.grammar.specs.Steps.{Rest}
use Rattle.lexis.proofs.lists.then_many.Given as goal

abbrev pub invariant-loop-then_item : goal.invariant-loop-then_item
invariant-loop-then_item g l = record {
  fits : Within l.at l.s;
  come : (e : Peg) → eats (bytewise e) ≡ true → StepsOver g.F.Fn l.then_item e → Rest (seq skip e) l.s l.initial.at l.at;
}

abbrev pub decreases-loop-then_item : goal.decreases-loop-then_item
decreases-loop-then_item g l = length l.s - taken l.at
