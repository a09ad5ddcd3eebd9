use Rattle.std.specs.Prelude.{None, Some}
use Rattle.std.proofs.Common.{refl, ap, ◌∙◌}
use Rattle.grammar.specs.Drawing.{then, whole, draws_rule, from_start}
use Rattle.spans.specs.Parts.{gap, sign, mark, modifier, optional}
use Rattle.meaning.specs.Rules.{Rule}
use Rattle.spans.specs.declared.Span.{Span}
use Rattle.spans.specs.Drawn.{draw_part}
use Rattle.meaning.specs.Choice.{pick}
use Rattle.meaning.specs.Peg.{hit}
use Rattle.meaning.specs.Pdl.{payload_field}
use Rattle.fields.specs.Kinds.{describes}
use Rattle.fields.proofs.kinds.payload_field.Goals as goal

pub returns : goal.returns
unfolding payload_field
returns c = describes c.described.ensures
    (draws_rule Rule.payload_field refl
    (whole
    (then (sign (from_start c.literal.ensures))
    (then (gap c.then_blanks-b.ensures)
    (optional (λ p o. draw_part Rule.size_modifier o p) None (Some _) (λ o. refl) c.then_blanks-b.ensures.fits
    (then
    (then (then (sign c.then_literal.ensures) (mark c.next_byte.ensures))
    (then (gap c.then_blanks-c.ensures) (modifier c.then_size_modifier-d.ensures)))
    (mark c.next_byte-x.ensures))
    c.optional-at.ensures.is
    (c.kept-modifier.ensures ∙ ap (λ (i : Span). pick (hit c.next_byte-x.result) (Some i) None) c.between.ensures))))))
    (λ h. tt)
