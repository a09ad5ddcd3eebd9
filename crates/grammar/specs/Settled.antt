-- No two matches satisfy what a matcher promises: each record says by one equation what its match is.
use Rattle.std.specs.Prelude.{ℕ, ◌≡◌, List, true}
use Rattle.std.proofs.Common.{sym, ◌∙◌}
use Rattle.meaning.specs.declared.Match.{Match}
use Rattle.meaning.specs.Peg.{Peg, hit}
use Rattle.meaning.specs.Forest.{Forest}
use Rattle.grammar.specs.Matching.{Reads, Steps, Tries, Stays}
use Rattle.grammar.specs.Drawing.{Draws, Follows}

pub stays_settled : {m x : Match} {t : List ℕ} {r s : Match} → Stays m x t r → Stays m x t s → r ≡ s
stays_settled x y = x.is ∙ sym y.is

module _ {g : Peg} {t : List ℕ} {r s : Match} where
  pub reads_settled : Reads g t r → Reads g t s → r ≡ s
  reads_settled x y = x.is ∙ sym y.is

  pub steps_settled : {m : Match} → Steps m g t r → Steps m g t s → r ≡ s
  steps_settled x y = x.is ∙ sym y.is

  pub tries_settled : {m : Match} → Tries m g t r → Tries m g t s → r ≡ s
  tries_settled x y = x.is ∙ sym y.is

  -- the nodes are settled where the match took
  module _ {v w : ℕ → Forest} where
    pub draws_settled : Draws g t r v → Draws g t s w → (r ≡ s) × (hit r ≡ true → hit s ≡ true → (o : ℕ) → v o ≡ w o)
    draws_settled x y = (reads_settled x.reads y.reads, λ h k o. sym (x.draws h o) ∙ y.draws k o)

    pub follows_settled : {m : Match} → Follows m g t r v → Follows m g t s w → (r ≡ s) × (hit r ≡ true → hit s ≡ true → (o : ℕ) → v o ≡ w o)
    follows_settled x y = (steps_settled x.steps y.steps, λ h k o. sym (x.draws h o) ∙ y.draws k o)
