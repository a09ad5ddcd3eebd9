use Rattle.meaning.specs.Pdl.{field_desc}
use Rattle.fields.specs.Kinds.{word_fields, chosen}
use Rattle.fields.specs.Named.{or_named}
use Rattle.fields.proofs.field_desc.Goals as goal

pub returns-in-Took : goal.returns-in-Took
unfolding field_desc word_fields
returns-in-Took c = let e = c.in-Took.is in
    chosen _ _ (chosen _ _ (chosen _ _ (chosen _ _ c.word_field-words.ensures e) e) e) e

pub returns-in-Missed : goal.returns-in-Missed
unfolding field_desc word_fields
returns-in-Missed c = or_named _ c.word_field-words.ensures.drawn.reads c.in-Missed.is c.named_field.ensures c.marked.ensures
