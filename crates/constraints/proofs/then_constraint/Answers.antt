use Rattle.std.proofs.Common.{refl}
use Rattle.meaning.specs.Rules.{Rule}
use Rattle.meaning.specs.Pdl.{constraint}
use Rattle.grammar.specs.Drawing.{then, node, retold}
use Rattle.spans.specs.Parts.{gap, mark, name}
use Rattle.spans.specs.Answers.{continue}
use Rattle.constraints.proofs.then_constraint.Goals as goal

pub returns : goal.returns
unfolding constraint
returns c = continue _
    (retold
    (node Rule.constraint refl
    (then (then (name c.then_identifier-a.ensures) (mark c.next_literal.ensures))
    (then (gap c.then_blanks-b.ensures) c.then_operand-v.ensures.drawn)))
    (λ h o. rw (c.between.ensures, c.between-2.ensures)))
    (λ h. tt) c.kept.ensures
