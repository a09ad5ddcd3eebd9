-- `alignment::judge_dyn_bytes` meets its contract: what was accepted has a chunk row.
use Rattle.std.proofs.Common.{sym, arith}
use Rattle.alignment.specs.NumberLaws.{dyn_fit}
use Rattle.alignment.proofs.judge_dyn_bytes.Goals as goal

pub overflow_add-result : goal.overflow_add-result
overflow_add-result c = omega (arith, (dyn_fit _ (sym c.in_ok-check_dyn_bytes.ensures)).chunk)
