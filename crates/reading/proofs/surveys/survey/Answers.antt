use Rattle.reading.specs.SurveyLaws.{too_long, invalid, no_match, matched, walk_on}
use Rattle.reading.proofs.surveys.survey.Goals as goal

pub returns-then-most-s-clause-told : goal.returns-then-most-s-clause-told
returns-then-most-s-clause-told c = too_long c.args.s.now c.longest-most.ensures c.if-most-s.true

pub returns-then-valid-s-clause-told : goal.returns-then-valid-s-clause-told
returns-then-valid-s-clause-told c = invalid c.args.s.now c.longest-most.ensures c.if-most-s.false c.valid_prefix-valid.ensures c.if-valid-s.true

pub returns-then-not-is_hit-clause-told : goal.returns-then-not-is_hit-clause-told
returns-then-not-is_hit-clause-told c = no_match c.args.s.now c.longest-most.ensures c.if-most-s.false c.valid_prefix-valid.ensures
    c.if-valid-s.false c.file-found.ensures c.is_hit.ensures c.if-not-is_hit.true

pub survey_rows-requires : goal.survey_rows-requires
survey_rows-requires c = matched c.args.s.now c.longest-most.ensures c.if-most-s.false c.valid_prefix-valid.ensures
    c.if-valid-s.false c.file-found.ensures c.is_hit.ensures c.if-not-is_hit.false

pub returns-clause-told : goal.returns-clause-told
returns-clause-told c = walk_on c.args.s.now c.longest-most.ensures c.if-most-s.false c.valid_prefix-valid.ensures
    c.if-valid-s.false c.file-found.ensures c.is_hit.ensures
    c.if-not-is_hit.false c.survey_rows.ensures.told
