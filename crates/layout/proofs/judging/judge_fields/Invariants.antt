-- `layout::judging::judge_fields` meets its contract: what is left of the fields, judged, gives the whole.
use Rattle.std.proofs.Common.{◌-◌, ◌≡◌}
use Rattle.meaning.specs.Alignment.{fresh, world}
use Rattle.meaning.specs.Feeding.{feed_fields}
use Rattle.layout.specs.Judging.{verdict, judge}
use Rattle.layout.proofs.judging.judge_fields.Given as goal

abbrev pub invariant-loop-i : goal.invariant-loop-i
invariant-loop-i l = judge l.fields l.placed l.chunks (l.fn.rows.end - l.i-counter) l.i-counter l.a l.place
    ≡ verdict (feed_fields l.fields (l.fn.rows.end - l.fn.rows.start) l.fn.rows.start (world fresh l.placed l.chunks))
