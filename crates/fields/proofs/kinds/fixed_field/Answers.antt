use Rattle.std.proofs.Common.{refl}
use Rattle.grammar.specs.Drawing.{then, whole, one, other, draws_rule, from_start}
use Rattle.spans.specs.Parts.{gap, sign, mark}
use Rattle.spans.specs.Answers.{answered}
use Rattle.meaning.specs.Rules.{Rule}
use Rattle.meaning.specs.Pdl.{fixed_field}
use Rattle.fields.specs.Kinds.{describes}
use Rattle.fields.proofs.kinds.fixed_field.Goals as goal

pub returns-in-Took : goal.returns-in-Took
unfolding fixed_field
returns-in-Took c = let e = c.in-Took.is in
    answered e
    (draws_rule Rule.fixed_field refl
    (whole
    (then (then (sign (from_start c.literal.ensures)) (mark c.next_byte.ensures))
    (then (gap c.then_blanks-b.ensures) (one _ _ c.then_numbers-x.ensures.drawn e)))))
    tt

pub returns : goal.returns
unfolding fixed_field
returns c = describes c.described.ensures
    (draws_rule Rule.fixed_field refl
    (whole
    (then (then (sign (from_start c.literal.ensures)) (mark c.next_byte.ensures))
    (then (gap c.then_blanks-b.ensures)
    (other _ c.then_numbers-x.ensures.drawn.steps c.in_default.is c.optional.ensures.is
    c.then_names-y.ensures.drawn)))))
    (λ h. tt)
