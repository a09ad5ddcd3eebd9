use Rattle.std.proofs.Common.{rules}
use Rattle.declaration_rows.specs.ListLaws.{turn_start, turn_done, turn_ready, turn_less, turn_more}
use Rattle.declaration_rows.proofs.put_all.Goals as goal

pub loop-at-init : goal.loop-at-init
loop-at-init c = (search rules, turn_start _ c.requires c.past_blanks-at.ensures)

pub put_one-one-requires : goal.put_one-one-requires
put_one-one-requires c = turn_ready c.requires c.loop-at.invariant.1 c.loop-at-test.true

pub loop-at-smaller : goal.loop-at-smaller
loop-at-smaller c = turn_less c.requires c.loop-at.invariant.1 c.loop-at-test.true c.put_one-one.ensures.goes c.past_blanks-at-in-loop-at.ensures

pub loop-at-preserved : goal.loop-at-preserved
loop-at-preserved c = (
  search rules,
  turn_more c.requires c.loop-at.invariant.1 c.loop-at-test.true c.put_one-one.ensures.goes c.past_blanks-at-in-loop-at.ensures,
)

pub returns-clause-goes : goal.returns-clause-goes
returns-clause-goes c = turn_done c.requires c.loop-at.invariant.1 c.loop-at-test.false
