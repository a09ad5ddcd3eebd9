use Rattle.std.proofs.Common.{rules}
use Rattle.reading.specs.Acceptance.{matched}
use Rattle.walk.specs.Lending.{words}
use Rattle.reading.specs.OutcomeLaws.{refused_done, passed, short_done, accepted_done}
use Rattle.reading.proofs.read_into.Goals as goal

pub returns-in_err-counts-clause-read : goal.returns-in_err-counts-clause-read
returns-in_err-counts-clause-read c = refused_done c.args.src.now _ _ c.survey.ensures.told c.in_err-counts.was (search rules)

pub returns-in_err-room_for_all-clause-read : goal.returns-in_err-room_for_all-clause-read
returns-in_err-room_for_all-clause-read c =
    short_done c.args.src.now _ _ (passed c.args.src.now c.survey.ensures.told.is c.in_ok-counts.was) c.survey.ensures.told c.in_ok-counts.was
    c.room_for_all.ensures c.in_err-room_for_all.was (search rules)

pub put_file-requires : goal.put_file-requires
put_file-requires c = matched (passed c.args.src.now c.survey.ensures.told.is c.in_ok-counts.was)

pub endianness-requires : goal.endianness-requires
endianness-requires c = matched (passed c.args.src.now c.survey.ensures.told.is c.in_ok-counts.was)

pub returns-clause-read : goal.returns-clause-read
returns-clause-read c =
    accepted_done c.args.src.now _ _ (passed c.args.src.now c.survey.ensures.told.is c.in_ok-counts.was) c.survey.ensures.told c.in_ok-counts.was
    c.room_for_all.ensures (words c.put_file.new.tables) _ c.in_ok-room_for_all.was c.endianness.ensures c.put_file.ensures.tabled
    c.put_file.ensures.kept.comments c.put_comments.ensures
