use Rattle.std.proofs.Common.{rules}
use Rattle.lexis.specs.Leaves.{identifier_leaf, payload_identifier_leaf, body_identifier_leaf}
use Rattle.spans.specs.Drawn.{draw_target}
use Rattle.fields.proofs.parts.then_target.Goals as goal

pub or_part-payload-requires-clause-within : goal.or_part-payload-requires-clause-within
or_part-payload-requires-clause-within c =
    (c.requires, (c.then_part-field.ensures _ _ (λ x o. draw_target o x) identifier_leaf (search rules) (search rules)).drawn.steps.fits)

pub or_part-requires-clause-within : goal.or_part-requires-clause-within
or_part-requires-clause-within c =
    let field = c.then_part-field.ensures _ _ (λ x o. draw_target o x) identifier_leaf (search rules) (search rules) in (
      c.requires,
      (c.or_part-payload.ensures _ _ _ (λ x o. draw_target o x) _ field payload_identifier_leaf (search rules) (search rules)).drawn.steps.fits,
    )

pub returns : goal.returns
returns c = let field = c.then_part-field.ensures _ _ (λ x o. draw_target o x) identifier_leaf (search rules) (search rules) in
    let payload = c.or_part-payload.ensures _ _ _ (λ x o. draw_target o x) _ field payload_identifier_leaf (search rules) (search rules) in
    c.or_part.ensures _ _ _ (λ x o. draw_target o x) _ payload body_identifier_leaf (search rules) (search rules)
