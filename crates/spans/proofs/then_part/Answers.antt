-- `then_part` meets its contract: a token's node is drawn from where it stands.
use Rattle.std.proofs.Common.{ap, sym, ◌∙◌}
use Rattle.grammar.specs.Drawing.{leaf, retold}
use Rattle.spans.specs.Drawn.{leaf_at}
use Rattle.spans.specs.Answers.{continue}
use Rattle.spans.proofs.then_part.Goals as goal

pub returns : goal.returns
returns g c = λ e k draw token steps made.
    continue _
    (retold (leaf token (steps _ _ _ c.requires.within c.then_token-at.ensures))
    (λ h o. ap (leaf_at k o) (sym c.between.ensures) ∙ sym (made _ _ c.part.ensures o)))
    (λ h. tt) c.kept.ensures
