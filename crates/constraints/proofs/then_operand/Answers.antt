-- `then_operand` meets its contract: a name, or else a number.
use Rattle.std.proofs.Common.{rules}
use Rattle.lexis.specs.Leaves.{identifier_leaf, integer_leaf}
use Rattle.spans.specs.Drawn.{draw_operand}
use Rattle.constraints.proofs.then_operand.Goals as goal

pub or_part-requires-clause-within : goal.or_part-requires-clause-within
or_part-requires-clause-within c =
    (c.requires, (c.then_part-name.ensures _ _ (λ x o. draw_operand o x) identifier_leaf (search rules) (search rules)).drawn.steps.fits)

pub returns : goal.returns
returns c = let name = c.then_part-name.ensures _ _ (λ x o. draw_operand o x) identifier_leaf (search rules) (search rules) in
    c.or_part.ensures _ _ _ (λ x o. draw_operand o x) _ name integer_leaf (search rules) (search rules)
