use Rattle.std.proofs.Common.{rules}
use Rattle.lexis.specs.Leaves.{identifier_leaf}
use Rattle.fields.proofs.parts.next_name.Goals as goal

pub returns : goal.returns
returns c = c.next_token.ensures _ _ identifier_leaf (search rules)
