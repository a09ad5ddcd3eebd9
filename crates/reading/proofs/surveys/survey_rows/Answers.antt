use Rattle.std.proofs.Common.{sym, ◌∙◌}
use Rattle.reading.specs.SurveyLaws.{bad_integer, rows_needed}
use Rattle.walk.specs.Lending.{words}
use Rattle.reading.proofs.surveys.survey_rows.Goals as goal

pub returns-in-Some-clause-told : goal.returns-in-Some-clause-told
returns-in-Some-clause-told c =
    bad_integer c.args.s.now _ (words c.put_file-n.new.tables) c.put_file-n.ensures.tabled c.put_file-n.ensures.kept.comments
    (sym c.error.ensures ∙ c.in-Some.is)

pub returns-clause-told : goal.returns-clause-told
returns-clause-told c =
    rows_needed c.args.s.now _ (words c.put_file-n.new.tables) c.put_file-n.ensures.tabled c.put_file-n.ensures.kept.comments _ c.put_comments-c.ensures
    c.requires (sym c.error.ensures ∙ c.in_default.is) c.counted.ensures c.counted-2.ensures c.counted-3.ensures c.counted-4.ensures c.counted-5.ensures
