-- `one` meets its contract: by the class of the first byte.
use Rattle.std.proofs.Common.{arith}
use Rattle.front.proofs.MatchLaws.{one_none, one_is, one_not}
use Rattle.front.proofs.matching.one.Goals as goal

pub returns-in-len1-up : goal.returns-in-len1-up
returns-in-len1-up c = one_is _ _ _ (λ z. omega (arith, z, c.in-len1-up.len_at_least)) c.in_class.ensures c.if-in_class.true

pub returns-in_default : goal.returns-in_default
returns-in_default c = one_none _ _ (omega (arith, c.in_default.len_below))

pub returns-in_default-2 : goal.returns-in_default-2
returns-in_default-2 c = one_not _ _ _ (λ z. omega (arith, z, c.in-len1-up.len_at_least)) c.in_class.ensures c.if-in_class.false
