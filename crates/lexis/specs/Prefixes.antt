-- The library's test of what a text starts with is the grammar's.
use Rattle.std.specs.Prelude.{ℕ, ◌≡◌, refl, List, [], ◌∷◌, Bool, true, false, ◌&&◌, eqb}
use Rattle.std.specs.List.{starts_with}
use Rattle.meaning.specs.Choice.{both}
use Rattle.meaning.specs.Peg.{prefixb}

pub starts : (l s : List ℕ) → starts_with eqb s l ≡ prefixb l s
starts [] s = refl
starts (x ∷ l) [] = refl
starts (x ∷ l) (y ∷ s) = rw (starts l s) (go (eqb x y))
  where
    go : (b : Bool) → b && prefixb l s ≡ both b (prefixb l s)
    go true = refl
    go false = refl
