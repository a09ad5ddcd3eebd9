use Rattle.std.proofs.Common.{rules}
use Rattle.lexis.specs.Leaves.{integer_leaf}
use Rattle.fields.proofs.parts.next_number.Goals as goal

pub returns : goal.returns
returns c = c.next_token.ensures _ _ integer_leaf (search rules)
