use Rattle.grammar.specs.Drawing.{then, leaf, retold}
use Rattle.spans.specs.Parts.{mark}
use Rattle.spans.specs.Answers.{continue}
use Rattle.fields.proofs.parts.then_pair.Goals as goal

pub next_byte-requires : goal.next_byte-requires
next_byte-requires g c = (c.requires.steps.1 _ _ _ c.requires.within c.then_token-a.ensures).fits

pub returns : goal.returns
returns g c = λ k e token steps.
    continue _
    (retold
    (then (then (leaf token (steps _ _ _ c.requires.within c.then_token-a.ensures)) (mark c.next_byte.ensures))
    (c.next_token-second.ensures k e token steps).drawn)
    (λ h o. rw c.between.ensures))
    (λ h. tt) c.kept.ensures
