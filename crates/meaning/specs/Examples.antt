-- Worked examples beside P1 to P12, by computation, one file for each subject: a wrong edit of a definition is refused by one of them.
use Rattle.std.specs.Prelude.{ℕ, ◌≡◌, List, [], ◌∷◌, map}
pub mod Choices
pub mod Texts
pub mod Matches
pub mod Parts
pub mod Readings
pub mod Integers
pub mod Answers
pub mod Alignments
pub mod Feedings
pub mod Moves

-- what is computed, and what is wanted of it
pub data Example : Type 0 where
  ◌is◌ : ℕ → ℕ → Example
  ◌are◌ : List ℕ → List ℕ → Example

infix 3 ◌is◌ ◌are◌
abbrev got : Example → List ℕ
got (n is m) = n ∷ []
got (ns are ms) = ns

abbrev want : Example → List ℕ
want (n is m) = m ∷ []
want (ns are ms) = ms

-- a table of examples, as one statement
abbrev pub Hold : List Example → Type 0
Hold xs = map got xs ≡ map want xs
