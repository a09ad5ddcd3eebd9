use Rattle.std.proofs.Common.{rules}
use Rattle.lexis.specs.Leaves.{size_modifier_leaf, integer_leaf}
use Rattle.spans.specs.Drawn.{draw_array_size}
use Rattle.fields.proofs.parts.then_size.Goals as goal

pub or_part-requires-clause-within : goal.or_part-requires-clause-within
or_part-requires-clause-within c =
    (c.requires, (c.then_part-modifier.ensures _ _ (λ x o. draw_array_size o x) size_modifier_leaf (search rules) (search rules)).drawn.steps.fits)

pub returns : goal.returns
returns c = let modifier = c.then_part-modifier.ensures _ _ (λ x o. draw_array_size o x) size_modifier_leaf (search rules) (search rules) in
    c.or_part.ensures _ _ _ (λ x o. draw_array_size o x) _ modifier integer_leaf (search rules) (search rules)
