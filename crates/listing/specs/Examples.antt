-- What the programs write of P1 to P9 is the text of the meaning's own table, which is cited and not repeated.
use Prim.Native.String.{String}
use Rattle.std.specs.Prelude.{ℕ, ◌≡◌, refl, List, [], ◌∷◌, length}
use Rattle.meaning.specs.Quoted.{bytes}
use Rattle.meaning.specs.Everything.{everything}
use Rattle.meaning.specs.Papers.{Case, reads, converts, aligns, lays, cases}
use Rattle.printing.specs.Lines.{digits_of, words, lines}
use Rattle.printing.specs.Answers.{answered}
use Rattle.listing.specs.declared.Wanted.TheVariants.{Tables}
use Rattle.listing.specs.Lists.{lines_of, listed}

-- of each source of the table with the lines that are wanted of it; the converter, the aligner and a layout have no such lines
abbrev of_readings : (String → String → List ℕ) → List Case → List (List ℕ)
of_readings f [] = []
of_readings f (reads s w ∷ cs) = f s w ∷ of_readings f cs
of_readings f (converts s r v ∷ cs) = of_readings f cs
of_readings f (aligns ks ns w ∷ cs) = of_readings f cs
of_readings f (lays s w ∷ cs) = of_readings f cs

pub papers_listed : of_readings (λ s w. listed Tables (bytes s)) cases ≡ of_readings (λ s w. bytes w) cases
unfolding everything digits_of words lines answered lines_of listed
papers_listed = refl

-- there are twelve: P1 to P9, of which P2 and P6 have two each, and the one for the order of bad integers
pub twelve : length (of_readings (λ s w. bytes w) cases) ≡ 12
twelve = refl
