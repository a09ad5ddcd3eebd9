-- What is asked of a matcher that is passed as a closure.
use Rattle.std.specs.Prelude.{ℕ, List}
use Rattle.std.specs.Fn.{Once, Shared}
use Rattle.std.proofs.Common.{Bor}
use Rattle.meaning.specs.declared.Match.{Match}
use Rattle.meaning.specs.Peg.{Peg}
use Rattle.grammar.specs.Matching.{Within, Reads, Steps}

-- what it takes of a text lies within the text
abbrev pub Fits : {F : Type 0} → Once F (Bor (List ℕ) × Unit {0}) Match → F → Type 0
Fits calls f = (t : Bor (List ℕ)) (r : Match) → calls.post f (t, tt) r → Within r t.now

-- it takes of each text what g takes
abbrev pub Matches : {F : Type 0} → Once F (Bor (List ℕ) × Unit {0}) Match → F → Peg → Type 0
Matches calls f g = (t : Bor (List ℕ)) (r : Match) → calls.post f (t, tt) r → Reads g t.now r

-- it may be called wherever a match ends
abbrev pub GoesOn : {F : Type 0} → Shared F (Bor (List ℕ) × (Match × Unit {0})) Match → F → Type 0
GoesOn calls f = (t : Bor (List ℕ)) (m : Match) → Within m t.now → calls.pre f (t, (m, tt))

-- it goes on from there over g
abbrev pub StepsOver : {F : Type 0} → Shared F (Bor (List ℕ) × (Match × Unit {0})) Match → F → Peg → Type 0
StepsOver calls f g = (t : Bor (List ℕ)) (m r : Match) → Within m t.now → calls.post f (t, (m, tt)) r → Steps m g t.now r
