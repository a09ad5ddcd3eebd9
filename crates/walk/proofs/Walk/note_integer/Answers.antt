-- `Walk::note_integer` meets its contract: the first bad integer stays.
use Rattle.walk.proofs.Laws.{note_late, note_good, note_bad}
use Rattle.walk.proofs.Walk.note_integer.Goals as goal

pub returns-then-self-ne0 : goal.returns-then-self-ne0
returns-then-self-ne0 c = note_late _ _ c.if-self-ne0.true

pub returns-then-x-eq0 : goal.returns-then-x-eq0
returns-then-x-eq0 c = note_good _ _ c.if-self-ne0.false c.if-x-eq0.true

pub returns : goal.returns
returns c = note_bad _ _ c.if-self-ne0.false c.if-x-eq0.false
