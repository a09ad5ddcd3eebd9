use Rattle.declaration_rows.proofs.MemberLaws.{bare_done, start_came, tagged_ready, tags_closed, fields_closed}
use Rattle.declaration_rows.proofs.put_members.Goals as goal

pub put_tags-requires : goal.put_tags-requires
put_tags-requires c = tagged_ready c.requires.came c.past_blanks.ensures c.requires c.in-Enum.is

pub returns-in-Enum-clause-goes : goal.returns-in-Enum-clause-goes
returns-in-Enum-clause-goes c = tags_closed c.requires.came c.past_blanks.ensures c.past_brace.ensures _ _ _ c.in-Enum.is c.put_tags.ensures

pub put_fields-requires : goal.put_fields-requires
put_fields-requires c = start_came c.requires.came c.past_blanks-i.ensures

pub returns-in-Packet-clause-goes : goal.returns-in-Packet-clause-goes
returns-in-Packet-clause-goes c =
    fields_closed c.requires.came c.past_blanks-i.ensures c.past_brace-in-Packet.ensures _ _ c.in-Packet.is c.put_fields.ensures

pub returns-in-Checksum-clause-goes : goal.returns-in-Checksum-clause-goes
returns-in-Checksum-clause-goes c = bare_done c.requires.came _ c.in-Checksum.is
