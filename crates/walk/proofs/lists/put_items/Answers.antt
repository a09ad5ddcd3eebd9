use Rattle.std.proofs.Common.{refl, sym, ◌∙◌}
use Rattle.walk.specs.Lists.{turn_start, next_in, comma_done, item_done, item_more, item_less}
use Rattle.walk.proofs.lists.put_items.Goals as goal

pub loop-next-init : goal.loop-next-init
loop-next-init g c = (refl, turn_start (g.I.Items.tables _) c.requires.came c.requires.found)

pub returns-in_default-clause-goes : goal.returns-in_default-clause-goes
returns-in_default-clause-goes g c = comma_done c.loop-next.invariant.1 c.turn_behind-turn.ensures c.put-walk.ensures.goes c.in_default.is

pub slice_bounds-matched-count : goal.slice_bounds-matched-count
slice_bounds-matched-count g c = next_in c.loop-next.invariant.1 c.turn_behind-turn.ensures c.in-Some.is

pub slice_bounds-matched-start : goal.slice_bounds-matched-start
slice_bounds-matched-start g c = next_in c.loop-next.invariant.1 c.turn_behind-turn.ensures c.in-Some.is

pub returns-then-not-is_hit-clause-goes : goal.returns-then-not-is_hit-clause-goes
returns-then-not-is_hit-clause-goes g c = item_done c.loop-next.invariant.1 c.turn_behind-turn.ensures c.in-Some.is
    c.matched-item.result c.matched-item.ensures c.put-walk.ensures.goes (sym c.is_hit.ensures ∙ c.if-not-is_hit.true)

pub loop-next-smaller : goal.loop-next-smaller
loop-next-smaller g c = item_less c.loop-next.invariant.1 c.turn_behind-turn.ensures c.in-Some.is
    c.matched-item.result c.matched-item.ensures (sym c.is_hit.ensures ∙ c.if-not-is_hit.false)

pub loop-next-preserved : goal.loop-next-preserved
loop-next-preserved g c = (
  c.put-walk.ensures.kept ∙ c.loop-next.invariant.0,
  item_more c.loop-next.invariant.1 c.turn_behind-turn.ensures c.in-Some.is
      c.matched-item.result c.matched-item.ensures
      (sym c.is_hit.ensures ∙ c.if-not-is_hit.false) c.put-walk.ensures.goes,
)
