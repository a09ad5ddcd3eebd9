-- One step of the search among starts of lines.
use Prim.Native.Nat.{ℕ, ◌+◌, ◌-◌, ◌≤◌, ◌<◌}
use mathlib.Core.Path.{◌≡◌}
use mathlib.Core.List.{List}
use native.Mathlib.Numerals.{add-one}
use lib.ListN.{length, get_or, drop, drop_of_length-le}
use lib.Seq.{drop-cons}
use lib.Dec.{ltb}
use Rattle.meaning.specs.declared.SourceLocation.{SourceLocation}
use Rattle.meaning.specs.Choice.{pick}
use Rattle.meaning.specs.Places.{at, fold}

pub fold_step : (o : ℕ) (ss : List ℕ) (i : ℕ) (p : SourceLocation) → i < length ss →
    fold o (drop i ss) i p ≡ pick (ltb o (get_or ss i 0)) p (fold o (drop (i + 1) ss) (i + 1) (at o i (o - get_or ss i 0)))
unfolding fold
fold_step o ss i p h = rw (drop-cons ss i 0, add-one i)

pub fold_end : (o : ℕ) (ss : List ℕ) (i : ℕ) (p : SourceLocation) → length ss ≤ i → fold o (drop i ss) i p ≡ p
unfolding fold
fold_end o ss i p h = rw (drop_of_length-le ss h)
