use Rattle.meaning.specs.Pdl.{skip}
use Rattle.grammar.specs.Steps.{link, rest_more, rest_less, rest_done}
use Rattle.lexis.proofs.lists.then_many.Goals as goal

pub returns-in-Missed : goal.returns-in-Missed
unfolding skip
returns-in-Missed g c = λ e some steps.
    let b = c.then_blanks.ensures in
    rest_done _ some c.requires.within (c.loop-then_item.invariant.come e some steps) (link b (steps _ _ _ b.fits c.then_item-next.ensures))
    c.in-Missed.is c.optional.ensures.is

pub loop-then_item-smaller : goal.loop-then_item-smaller
unfolding skip
loop-then_item-smaller g c = let b = c.then_blanks.ensures in
    let h = c.requires.steps in
    rest_less _ _ h.1 (link b (h.2 _ _ _ b.fits c.then_item-next.ensures)) c.in-Took.is

pub loop-then_item-preserved : goal.loop-then_item-preserved
unfolding skip
loop-then_item-preserved g c = let b = c.then_blanks.ensures in
    record {
      fits = (c.requires.steps.2 _ _ _ b.fits c.then_item-next.ensures).fits;
      come = λ e some steps.
          rest_more _ _ some (c.loop-then_item.invariant.come e some steps) (link b (steps _ _ _ b.fits c.then_item-next.ensures)) c.in-Took.is;
    }
