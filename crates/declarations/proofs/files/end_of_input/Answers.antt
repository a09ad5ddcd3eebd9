use Rattle.std.specs.Prelude.{ℕ, ◌≡◌, Bool}
use Rattle.std.proofs.Common.{arith, ap, sym, eq-eqb, eqb-true, ◌∙◌}
use Rattle.meaning.specs.Choice.{pick}
use Rattle.declarations.specs.Files.{ended, unended}
use Rattle.declarations.proofs.files.end_of_input.Goals as goal

pub returns-then-is_empty : goal.returns-then-is_empty
returns-then-is_empty c = ended _ (eqb-true _ _ (sym c.is_empty.ensures ∙ c.if-is_empty.true))

pub returns : goal.returns
returns c = unended _
    (λ z. let n : ◌≡◌ {A = ℕ} 0 1 = ap (λ (b : Bool). pick b 0 1) (sym (eq-eqb _ _ z) ∙ sym c.is_empty.ensures ∙ c.if-is_empty.false) in
    omega arith)
