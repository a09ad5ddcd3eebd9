use Rattle.fields.specs.Kinds.{describes}
use Rattle.fields.specs.Named.{arrayed, front, with}
use Rattle.fields.proofs.kinds.array_field.Goals as goal

pub returns : goal.returns
returns c = describes c.described.ensures
    (arrayed
    (with (front c.then_identifier-a.ensures c.between-id.ensures c.next_byte.ensures c.then_blanks-b.ensures)
    c.then_element-kind.ensures.drawn)
    c.then_brackets-size.ensures)
    (λ h. tt)
