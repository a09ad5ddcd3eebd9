-- `then_list` meets its contract: an item, and the commas and items behind it or none.
use Rattle.std.proofs.Common.{refl}
use Rattle.meaning.specs.Pdl.{text, ◌~◌}
use Rattle.grammar.specs.Steps.{behind_miss, link, option}
use Rattle.lexis.proofs.lists.then_list.Goals as goal

pub returns-in-Missed : goal.returns-in-Missed
returns-in-Missed g c = λ e steps. behind_miss _ _ _ c.requires.within c.in-Missed.is

pub then_many-requires-clause-steps : goal.then_many-requires-clause-steps
then_many-requires-clause-steps g c = let h = c.requires.steps in (text "," ~ h.0, refl, λ t m r w k. k.1 h.0 h.1)

pub optional-requires : goal.optional-requires
optional-requires g c = let h = c.requires.steps in
    (c.then_blanks-b.ensures.fits, (c.then_many.ensures (text "," ~ h.0) refl (λ t m r w k. k.1 h.0 h.1)).fits)

pub returns : goal.returns
returns g c = λ e steps.
    let b = c.then_blanks-b.ensures in
    let more = c.then_many.ensures (text "," ~ e) refl (λ t m r w k. k.1 e steps) in
    link (steps _ _ _ c.requires.within c.then_item.ensures) (link b (option b.fits (link (c.then_more.ensures e steps) more) c.optional.ensures.is))
