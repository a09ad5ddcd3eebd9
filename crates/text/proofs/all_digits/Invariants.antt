-- `all_digits` meets its contract: the digits that are left, after those that said the number, say the whole.
use Rattle.std.proofs.Common.{◌≡◌, drop}
use Rattle.meaning.specs.Convert.{digits}
use Rattle.text.specs.Fitting.{in_range, reached}
use Rattle.text.proofs.all_digits.Given as goal

abbrev pub invariant-loop-b : goal.invariant-loop-b
invariant-loop-b l = (in_range (reached l.number) ≡ l.number) × (digits l.base l.s 0 ≡ digits l.base (drop l.b-index l.s) (reached l.number))
