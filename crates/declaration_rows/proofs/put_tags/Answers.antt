use Rattle.declaration_rows.proofs.MemberLaws.{tags_done}
use Rattle.declaration_rows.proofs.put_tags.Goals as goal

pub returns : goal.returns
returns c = tags_done c.requires
    c.put_tags.ensures c.past_comma.ensures
