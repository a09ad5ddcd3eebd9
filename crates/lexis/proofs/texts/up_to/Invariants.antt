-- `up_to` meets its contract: the bytes before i are before the first l.
use Rattle.meaning.specs.declared.Match.TheVariants.{Took}
use Rattle.grammar.specs.Steps.{Rest}
use Rattle.lexis.proofs.TextTurns.{before}
use Rattle.lexis.proofs.texts.up_to.Given as goal

abbrev pub invariant-loop-i : goal.invariant-loop-i
invariant-loop-i l = Rest (before l.l) l.s (Took 0 0) (Took l.i 0)
