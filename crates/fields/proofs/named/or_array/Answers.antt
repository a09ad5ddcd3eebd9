use Rattle.std.proofs.Common.{refl, ap₂, ◌∙◌}
use Rattle.grammar.specs.Matching.{stay}
use Rattle.grammar.specs.Drawing.{first}
use Rattle.spans.specs.Answers.{answered}
use Rattle.fields.specs.Kinds.{chosen, tried}
use Rattle.grammar.specs.Shared.{back}
use Rattle.fields.specs.Named.{arrayed}
use Rattle.fields.proofs.named.or_array.Goals as goal

pub returns-in-Took : goal.returns-in-Took
returns-in-Took c = let e = c.in-Took.is in
    record { or = λ n f h p d. answered e (first _ _ (first _ _ (arrayed p c.then_brackets-size.ensures) e) e) tt }

pub returns : goal.returns
returns c = let b = c.then_brackets-size.ensures in
    let e = c.in_default.is in
    let at = c.optional.ensures.is in
    record {
      or = λ n f h p d.
          chosen _ _ (tried _ (arrayed p b).reads e d (record { later = at ∙ back _ b.answers.drawn.steps e; same = refl })) (at ∙ ap₂ stay h e);
    }
