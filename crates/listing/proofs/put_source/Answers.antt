-- `put_source` meets its contract: each way to end is one of the laws.
use Rattle.listing.proofs.Laws.{too_long, short_enough}
use Rattle.listing.proofs.put_source.Goals as goal

pub returns-then-src-gt-LONGEST : goal.returns-then-src-gt-LONGEST
returns-then-src-gt-LONGEST c = too_long _ _ c.if-src-gt-LONGEST.true c.put_refused.ensures

pub returns : goal.returns
returns c = short_enough _ _ _
    c.if-src-gt-LONGEST.false
    c.read-answer.ensures
    c.put_answer.ensures
