-- `layout::place_fields` meets its contract: what is left of the fields, fed, gives the whole.
use Rattle.std.proofs.Common.{◌-◌, ◌≡◌, length}
use Rattle.meaning.specs.Alignment.{fresh, world}
use Rattle.meaning.specs.Feeding.{feed_fields}
use Rattle.layout.proofs.place_fields.Given as goal

abbrev pub invariant-loop-i : goal.invariant-loop-i
invariant-loop-i l = (length l.placed ≡ length l.initial.placed)
    × ((length l.chunks ≡ length l.initial.chunks)
    × (feed_fields l.fields (l.fn.rows.end - l.i) l.i (world l.a l.placed l.chunks)
    ≡ feed_fields l.fields (l.fn.rows.end - l.fn.rows.start) l.fn.rows.start (world fresh l.initial.placed l.initial.chunks)))
