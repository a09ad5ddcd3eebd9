-- `alignment::judge_bytes` meets its contract: what was accepted has a chunk row.
use Rattle.std.proofs.Common.{sym, arith}
use Rattle.alignment.specs.NumberLaws.{bytes_fit}
use Rattle.alignment.proofs.judge_bytes.Goals as goal

pub overflow_add-result : goal.overflow_add-result
overflow_add-result c = omega (arith, (bytes_fit _ _ (sym c.in_ok-check_bytes.ensures)).chunk)
