use Rattle.spans.specs.Parts.{gap, sign, mark}
use Rattle.spans.specs.OptionalSteps.{optional_list}
use Rattle.tags.proofs.then_braces.Goals as goal

pub returns : goal.returns
returns c = optional_list c.requires (sign c.then_literal.ensures) (gap c.then_blanks-a.ensures)
    c.then_enum_value_list-list.ensures (mark c.next_literal-x.ensures) c.optional.ensures.is c.kept.ensures
    c.between.ensures
