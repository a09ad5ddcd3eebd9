-- All declarations of a file that matches, as the walk goes over them.
use Rattle.std.specs.Prelude.{ℕ, ◌+◌, ◌≡◌, List, [], length, drop}
use Rattle.meaning.specs.Peg.{seq, star, run, bytewise, taken}
use Rattle.meaning.specs.Forest.{Forest, nodes}
use Rattle.meaning.specs.Pdl.{skip, declaration}
use Rattle.meaning.specs.Tables.{Lent}
use Rattle.meaning.specs.Walk.{parse_toplevel}
use Rattle.walk.specs.declared.Walk.{Walk}
use Rattle.walk.specs.State.{Wrote, At, Tallied}

-- the nodes of all declarations behind j, and where the last of them ends
unfoldable pub rest : List ℕ → ℕ → Forest
rest src j = nodes (star (bytewise (seq skip declaration))) j (drop j src)

unfoldable pub last : List ℕ → ℕ → ℕ
last src j = j + taken (run (star (bytewise (seq skip declaration))) (drop j src))

-- behind them and blanks is the end of the source
abbrev pub Reaches : List ℕ → ℕ → Type 0
Reaches src j = last src j + taken (run (bytewise skip) (drop (last src j) src)) ≡ length src

-- the walk starts at j, where the endianness line ends, and has met nothing
pub record Begun (src : List ℕ) (j : ℕ) (n : Walk) : Type 0 where
  pub came : At src j n
  pub reaches : Reaches src j
  pub nothing : Tallied [] n

-- and goes over all declarations
pub record GoesAll (src : List ℕ) (j : ℕ) (n r : Walk) (a b : Lent → Lent) : Type 0 where
  pub wrote : Wrote (parse_toplevel src [] (rest src j)) n r a b
