-- The span between two matches.
use Rattle.std.specs.Prelude.{◌-◌}
use Rattle.meaning.specs.declared.Match.{Match}
use Rattle.meaning.specs.Peg.{taken}
use Rattle.spans.specs.declared.Span.{Span}

abbrev pub span_of : Match → Match → Span
span_of m r = record { start = taken m; len = taken r - taken m }
