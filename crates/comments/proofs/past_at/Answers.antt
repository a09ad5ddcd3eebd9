use Rattle.comments.proofs.Findings.{past_string}
use Rattle.comments.proofs.past_at.Goals as goal

pub returns-in-Took : goal.returns-in-Took
returns-in-Took c = past_string _ _ c.requires c.string.ensures c.in-Took.is
