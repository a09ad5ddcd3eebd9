use Rattle.std.proofs.Common.{rules, sym, ◌∙◌}
use Rattle.lexis.proofs.BlankTurns.{none_empty, none_begins}
use Rattle.lexis.proofs.blanks.blanks.Goals as goal

pub returns-then-is_empty : goal.returns-then-is_empty
returns-then-is_empty c = none_empty (search rules)

pub returns-then-not-may_begin : goal.returns-then-not-may_begin
returns-then-not-may_begin c = none_begins (search rules) (sym c.if-not-may_begin.true ∙ c.may_begin.ensures)
