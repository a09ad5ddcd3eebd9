use Rattle.grammar.specs.Steps.{link, option}
use Rattle.declarations.proofs.next_fields.Goals as goal

pub returns : goal.returns
returns c = link c.then_blanks-b.ensures (option c.then_blanks-b.ensures.fits c.then_field_list.ensures
    c.optional.ensures.is)
