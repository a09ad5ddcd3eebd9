-- `then_more` meets its contract: a comma, blanks and an item.
use Rattle.grammar.specs.Steps.{link}
use Rattle.lexis.proofs.lists.fn.then_list.then_more.Goals as goal

pub returns : goal.returns
returns g c = λ e steps.
    let b = c.then_blanks.ensures in
    link c.then_literal.ensures (link b (steps _ _ _ b.fits c.then_item.ensures))
