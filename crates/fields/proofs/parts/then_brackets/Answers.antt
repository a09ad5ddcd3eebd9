use Rattle.std.proofs.Common.{refl}
use Rattle.grammar.specs.Nodes.{nil_right}
use Rattle.grammar.specs.Drawing.{then, retold}
use Rattle.spans.specs.Parts.{gap, mark}
use Rattle.spans.specs.Answers.{continue}
use Rattle.fields.specs.Tokens.{omissible}
use Rattle.fields.specs.Named.{closed}
use Rattle.fields.proofs.parts.then_brackets.Goals as goal

pub returns : goal.returns
returns c = let left = mark c.next_byte.ensures in
    let size = then (gap c.then_blanks-b.ensures)
    (omissible (λ o. refl) c.then_blanks-b.ensures.fits c.then_size-size.ensures c.optional.ensures.is) in
    let right = mark c.next_byte-at.ensures in
    let kept = c.kept.ensures in
    record {
      answers = continue _ (retold (then (then left size) right) (λ h o. nil_right _)) (λ h. tt) kept;
      on = λ f. closed c.then_size-size.result.value f left size right kept;
    }
