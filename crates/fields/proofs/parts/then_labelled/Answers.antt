use Rattle.grammar.specs.Drawing.{then}
use Rattle.spans.specs.Parts.{sign, mark}
use Rattle.spans.specs.Answers.{continue}
use Rattle.fields.proofs.parts.then_labelled.Goals as goal

pub returns : goal.returns
returns c = continue _
    (then (then (then (sign c.then_literal.ensures) (mark c.next_byte.ensures)) c.next_name-id.ensures.drawn)
    (mark c.next_byte-at.ensures))
    (λ h. tt) c.kept.ensures
