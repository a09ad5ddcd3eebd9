use Rattle.meaning.specs.Rules.{Rule}
use Rattle.meaning.specs.Pdl.{CUSTOM_FIELD}
use Rattle.grammar.specs.Steps.{reads_rule}
use Rattle.grammar.specs.Drawing.{whole, then, retold}
use Rattle.lexis.specs.Leaves.{CUSTOM_FIELD_leaf}
use Rattle.spans.specs.Parts.{gap, sign, name, number, quoted}
use Rattle.declarations.specs.Headers.{custom_head}
use Rattle.declarations.specs.HeadParts.{word, headed}
use Rattle.spans.specs.OptionalSteps.{optional_token}
use Rattle.declarations.proofs.headers.custom_field_head.Goals as goal

pub returns : goal.returns
unfolding custom_head CUSTOM_FIELD
returns c = headed
    (whole
    (retold
    (then
    (then
    (then (word CUSTOM_FIELD_leaf (reads_rule Rule.CUSTOM_FIELD c.keyword-k.ensures))
    (then (gap c.then_blanks-a.ensures) (name c.then_identifier-id.ensures)))
    (then (gap c.then_blanks-b.ensures)
    (optional_token Rule.integer c.then_blanks-b.ensures.fits
    (then (sign c.then_literal.ensures) (then (gap c.then_blanks-c.ensures) (number c.then_integer-width.ensures)))
    c.optional.ensures.is c.kept.ensures c.between-3.ensures)))
    (then (gap c.then_blanks-d.ensures) (quoted c.then_string-at.ensures)))
    (λ h o. rw (c.between.ensures, c.between-2.ensures, c.between-4.ensures))))
    (λ h. tt) c.headed.ensures
