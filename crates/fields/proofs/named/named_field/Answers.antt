use Rattle.std.proofs.Common.{ap, sym}
use Rattle.meaning.specs.Rules.{Rule}
use Rattle.grammar.specs.Drawing.{one, other, retold}
use Rattle.spans.specs.Drawn.{leaf_at}
use Rattle.spans.specs.Parts.{number, name}
use Rattle.spans.specs.Answers.{answered}
use Rattle.fields.specs.Kinds.{describes, chosen}
use Rattle.fields.specs.Named.{named_fields, front, with, scalar, typedef, group}
use Rattle.fields.proofs.named.named_field.Goals as goal

pub returns-in-Took : goal.returns-in-Took
unfolding named_fields
returns-in-Took c = let e = c.in-Took.is in
    let f = front c.then_identifier-a.ensures c.between-id.ensures c.next_byte.ensures c.then_blanks-b.ensures in
    let width = retold (number c.then_integer-width.ensures) (λ h o. ap (leaf_at Rule.integer o) (sym c.between-span.ensures)) in
    c.or_array.ensures.or _ _ e (with f (one _ _ width e)) (chosen _ _ (answered e (scalar f width) tt) e)

pub returns-in-Took-name : goal.returns-in-Took-name
unfolding named_fields
returns-in-Took-name c = let e = c.in_default.is in
    let k = c.in-Took-name.is in
    let q = c.optional-c.ensures.is in
    let f = front c.then_identifier-a.ensures c.between-id.ensures c.next_byte.ensures c.then_blanks-b.ensures in
    let type = retold (name c.then_identifier-name.ensures) (λ h o. ap (leaf_at Rule.identifier o) (sym c.between-span-in-Took-name.ensures)) in
    c.or_array-in-Took-name.ensures.or _ _ k (with f (other _ c.then_integer-width.ensures e q type))
    (answered k (typedef f _ c.then_integer-width.ensures e q type) tt)

pub returns : goal.returns
returns c = let e = c.in_default.is in
    let f = front c.then_identifier-a.ensures c.between-id.ensures c.next_byte.ensures c.then_blanks-b.ensures in
    describes c.described.ensures
    (group f _ c.then_integer-width.ensures e c.optional-c.ensures.is (name c.then_identifier-name.ensures) _
    c.in_default-name.is c.optional.ensures.is c.then_braces-group.ensures.drawn)
    c.then_braces-group.ensures.sound
