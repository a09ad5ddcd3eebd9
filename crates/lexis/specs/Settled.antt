-- No two lengths satisfy what a run of blanks, or of a class of bytes, promises.
use Rattle.std.specs.Prelude.{ℕ, ◌≡◌, List, Bool}
use Rattle.std.proofs.Common.{ap, sym, ◌∙◌}
use Rattle.meaning.specs.Peg.{taken}
use Rattle.lexis.specs.Classes.{Runs}
use Rattle.lexis.specs.Skips.{Skips}

pub skips_settled : {t : List ℕ} {r s : ℕ} → Skips t r → Skips t s → r ≡ s
skips_settled x y = ap taken (sym x.is ∙ y.is)

pub runs_settled : {f : ℕ → Bool} {t : List ℕ} {r s : ℕ} → Runs f t r → Runs f t s → r ≡ s
runs_settled x y = x.is ∙ sym y.is
