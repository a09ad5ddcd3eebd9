use Rattle.fields.specs.Kinds.{word_fields}
use Rattle.fields.proofs.word_kind.Goals as goal

pub returns : goal.returns
unfolding word_fields
returns c = c.or_kind.ensures.or
    (c.or_kind-d-7.ensures.or (c.or_kind-d-6.ensures.or (c.or_kind-d-5.ensures.or (c.or_kind-d-4.ensures.or
    (c.or_kind-d-3.ensures.or (c.or_kind-d-2.ensures.or (c.or_kind-d.ensures.or c.of_kind-d.ensures)))))))
