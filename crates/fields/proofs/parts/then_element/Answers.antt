use Rattle.std.proofs.Common.{rules}
use Rattle.lexis.specs.Leaves.{identifier_leaf, integer_leaf}
use Rattle.spans.specs.Drawn.{draw_operand}
use Rattle.fields.proofs.parts.then_element.Goals as goal

pub or_part-requires-clause-within : goal.or_part-requires-clause-within
or_part-requires-clause-within c =
    (c.requires, (c.then_part-width.ensures _ _ (λ x o. draw_operand o x) integer_leaf (search rules) (search rules)).drawn.steps.fits)

pub returns : goal.returns
returns c = let width = c.then_part-width.ensures _ _ (λ x o. draw_operand o x) integer_leaf (search rules) (search rules) in
    c.or_part.ensures _ _ _ (λ x o. draw_operand o x) _ width identifier_leaf (search rules) (search rules)
