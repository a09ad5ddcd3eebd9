use Rattle.std.proofs.Common.{refl}
use Rattle.grammar.specs.Steps.{link}
use Rattle.grammar.specs.Shared.{halted}
use Rattle.spans.specs.declared.Tag.TheVariants.{Range}
use Rattle.spans.specs.Answers.{no_tag}
use Rattle.tags.specs.Fronts.{range, no_end}
use Rattle.tags.proofs.Laws.{tagged_at, tagged_is}
use Rattle.tags.proofs.then_range.Goals as goal

pub returns-in-Missed : goal.returns-in-Missed
returns-in-Missed c =
    record {
      goes =
          tagged_at c.tagged.ensures
          (link c.next_literal.ensures (link c.then_blanks-c.ensures (halted _ c.then_integer-high.ensures c.in-Missed.is)));
      answers = λ f s.
          tagged_is no_tag
          (no_end f s refl c.next_literal.ensures c.then_blanks-c.ensures c.then_integer-high.ensures refl _ c.in-Missed.is)
          (λ h. tt) c.tagged.ensures;
    }

pub returns : goal.returns
returns c =
    record {
      goes =
          tagged_at c.tagged-2.ensures
          (link c.next_literal.ensures
          (link c.then_blanks-c.ensures (link c.then_integer-high.ensures (link c.then_blanks.ensures c.then_braces-braces.ensures.drawn.steps))));
      answers = λ f s.
          tagged_is (Range _)
          (range f s c.between.ensures c.next_literal.ensures c.then_blanks-c.ensures c.then_integer-high.ensures c.between-2.ensures
          c.then_blanks.ensures c.then_braces-braces.ensures)
          (λ h. c.then_braces-braces.ensures.sound h) c.tagged-2.ensures;
    }
