use Rattle.std.proofs.Common.{sym, ◌∙◌}
use Rattle.declaration_rows.proofs.MemberLaws.{none_done, fields_done}
use Rattle.declaration_rows.proofs.put_fields.Goals as goal

pub returns-then-not-is_hit : goal.returns-then-not-is_hit
returns-then-not-is_hit c = none_done c.requires c.field-first.result c.field-first.ensures _ (sym c.is_hit.ensures ∙ c.if-not-is_hit.true)

pub returns : goal.returns
returns c = fields_done c.requires c.field-first.result c.field-first.ensures (sym c.is_hit.ensures ∙ c.if-not-is_hit.false)
    c.put_fields.ensures c.past_comma.ensures
