-- What the matchers promise: each takes of a text what `run` says of its expression, byte by byte.
use Rattle.std.specs.Prelude.{ℕ, suc, ◌≤◌, ◌≡◌, List, [], ◌∷◌, Bool, true, false, length}
use Rattle.meaning.specs.declared.Match.{Match}
use Rattle.meaning.specs.declared.Match.TheVariants.{Missed, Took}
use Rattle.meaning.specs.Choice.{pick, both}
use Rattle.meaning.specs.Peg.{Peg, lit, range, any, any_byte, end, neg, seq, alt, star, opt, quiet, rule, after, or_else, run, bytewise}

-- a match takes at most the text, and its mark is at most the place behind it
abbrev pub Within : Match → List ℕ → Type 0
Within (Missed f) t = f ≤ suc (length t)
Within (Took n f) t = (n ≤ length t) × (f ≤ suc (length t))

-- r is what g takes of the text t
pub record Reads (g : Peg) (t : List ℕ) (r : Match) : Type 0 where
  pub is : r ≡ run (bytewise g) t
  pub fits : Within r t

-- r goes on from the match m over g
pub record Steps (m : Match) (g : Peg) (t : List ℕ) (r : Match) : Type 0 where
  pub is : r ≡ after m (λ u. run (bytewise g) u) t
  pub fits : Within r t

-- r is m, or where m missed what g takes of the text
pub record Tries (m : Match) (g : Peg) (t : List ℕ) (r : Match) : Type 0 where
  pub is : r ≡ or_else m (λ u. run (bytewise g) u) t
  pub fits : Within r t

-- x, or, where x missed, m with the mark of x
abbrev pub stay : Match → Match → Match
stay (Missed f) x = Missed f
stay (Took n f) (Missed g) = Took n g
stay (Took n f) (Took k g) = Took k g

-- r goes on from m, over x or, where x missed, over nothing
pub record Stays (m x : Match) (t : List ℕ) (r : Match) : Type 0 where
  pub is : r ≡ stay m x
  pub fits : Within r t

-- each match of p takes a byte, as a test of p
abbrev pub eats : Peg → Bool
eats (lit []) = false
eats (lit (x ∷ l)) = true
eats (range lo hi) = true
eats any = true
eats any_byte = true
eats end = false
eats (neg p) = false
eats (seq a b) = pick (eats a) true (eats b)
eats (alt a b) = both (eats a) (eats b)
eats (star p) = false
eats (opt p) = false
eats (quiet p) = eats p
eats (rule r p) = eats p
