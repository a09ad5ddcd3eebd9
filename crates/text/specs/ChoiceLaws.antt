-- Laws of tests: two at once, and one that cannot be.
use Rattle.std.specs.Prelude.{ℕ, ◌≡◌, refl, Bool, true, false}
use Rattle.std.proofs.Common.{arith}
use Rattle.meaning.specs.Choice.{both}

pub never : {A : Type 0} → false ≡ true → A
never e = absurd (let z : ◌≡◌ {A = ℕ} 0 1 = cc in omega arith)

pub both_is : (a b : Bool) → both a b ≡ true → (a ≡ true) × (b ≡ true)
both_is true b e = (refl, e)
both_is false b e = never e

pub both_false : (a : Bool) → both a false ≡ false
both_false true = refl
both_false false = refl

pub both_yes : (a : Bool) → both a true ≡ a
both_yes true = refl
both_yes false = refl
