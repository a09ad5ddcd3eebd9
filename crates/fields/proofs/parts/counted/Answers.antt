use Rattle.grammar.specs.Drawing.{then}
use Rattle.spans.specs.Parts.{mark}
use Rattle.spans.specs.Answers.{continue}
use Rattle.fields.proofs.parts.counted.Goals as goal

pub returns : goal.returns
returns c = continue _
    (then (then c.then_labelled-id.ensures.drawn (mark c.next_byte.ensures)) c.next_number-width.ensures.drawn)
    (λ h. tt) c.kept.ensures
