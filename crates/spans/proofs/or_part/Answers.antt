-- `or_part` meets its contract: what took, or else a token.
use Rattle.std.proofs.Common.{ap, ◌∙◌}
use Rattle.meaning.specs.Peg.{hit}
use Rattle.grammar.specs.Drawing.{one, other}
use Rattle.spans.specs.Answers.{continued}
use Rattle.spans.proofs.or_part.Goals as goal

pub returns-in-Took : goal.returns-in-Took
returns-in-Took g c = λ e h k draw absent before token steps made.
    continued c.in-Took.is (one _ _ before.drawn c.in-Took.is) tt

pub returns-in-Missed : goal.returns-in-Missed
returns-in-Missed g c = λ e h k draw absent before token steps made.
    let b = c.optional.ensures in
    let part = c.then_part.ensures h k draw token steps made in
    record {
      drawn = other _ before.drawn.steps c.in-Missed.is b.is part.drawn;
      sound = λ z. tt;
      missed = λ z. part.missed z ∙ before.missed (ap hit c.in-Missed.is);
    }
