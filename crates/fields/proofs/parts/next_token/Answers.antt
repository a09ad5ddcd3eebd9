use Rattle.grammar.specs.Drawing.{then, leaf, retold}
use Rattle.spans.specs.Parts.{gap}
use Rattle.spans.specs.Answers.{continue}
use Rattle.fields.proofs.parts.next_token.Goals as goal

pub returns : goal.returns
returns g c = λ k e token steps.
    let b = c.then_blanks-b.ensures in
    continue _ (retold (then (gap b) (leaf token (steps _ _ _ b.fits c.then_token-at.ensures))) (λ h o. rw c.between.ensures)) (λ h. tt)
    c.kept.ensures
