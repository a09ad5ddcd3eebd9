use Rattle.tags.proofs.enum_range.Goals as goal

pub returns : goal.returns
returns c = c.then_range.ensures.answers c.front-label.ensures c.then_integer.ensures
