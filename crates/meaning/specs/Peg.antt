-- Parsing expressions as pest's book has them, and what each takes of a text: `run` says how much, and how far a try failed
-- (W2's mark: that offset plus 1, or 0).
use Rattle.std.specs.Prelude.{ℕ, zero, suc, ◌+◌, max, List, [], ◌∷◌, Bool, true, false, length, drop, leb, eqb}
use Rattle.meaning.specs.declared.Match.{Match}
use Rattle.meaning.specs.declared.Match.TheVariants.{Missed, Took}
use Rattle.meaning.specs.Choice.{pick, both}
use Rattle.meaning.specs.Utf8.{character}
use Rattle.meaning.specs.Rules.{Rule}

pub data Peg : Type 0 where
  -- a quoted text, and 'a'..'z'
  lit : List ℕ → Peg
  range : ℕ → ℕ → Peg
  -- ANY, one character; and one byte, which the matchers take for it
  any : Peg
  any_byte : Peg
  -- the end of input
  end : Peg
  -- !p
  neg : Peg → Peg
  -- a ~ b with nothing between; a | b; p* with nothing between; p?
  seq : Peg → Peg → Peg
  alt : Peg → Peg → Peg
  star : Peg → Peg
  opt : Peg → Peg
  -- p, of which no try counts for the mark
  quiet : Peg → Peg
  -- p, whose match is a node
  rule : Rule → Peg → Peg

abbrev pub prefixb : List ℕ → List ℕ → Bool
prefixb [] t = true
prefixb (x ∷ l) [] = false
prefixb (x ∷ l) (y ∷ t) = both (eqb x y) (prefixb l t)

-- a mark, told from n bytes earlier
abbrev pub lift : ℕ → ℕ → ℕ
lift n zero = zero
lift n (suc g) = n + suc g

-- m, which stands n bytes on, after tries as far as the mark f
abbrev pub join : ℕ → ℕ → Match → Match
join n f (Missed g) = Missed (max f (lift n g))
join n f (Took k g) = Took (n + k) (max f (lift n g))

-- what follows a match, where it ends
abbrev pub after : Match → (List ℕ → Match) → List ℕ → Match
after (Missed f) p t = Missed f
after (Took n f) p t = join n f (p (drop n t))

abbrev pub or_else : Match → (List ℕ → Match) → List ℕ → Match
or_else (Missed f) p t = join 0 f (p t)
or_else (Took n f) p t = Took n f

abbrev pub maybe : Match → Match
maybe (Missed f) = Took 0 f
maybe (Took n f) = Took n f

abbrev pub turned : Match → Match
turned (Missed f) = Took 0 0
turned (Took n f) = Missed 0

abbrev pub hushed : Match → Match
hushed (Missed f) = Missed 0
hushed (Took n f) = Took n 0

abbrev pub again : Match → (List ℕ → Match) → List ℕ → Match
again (Missed f) q t = Took 0 f
again (Took n f) q t = join n f (q (drop n t))

unfoldable pub many : ℕ → (List ℕ → Match) → List ℕ → Match
many zero p t = Took 0 0
many (suc k) p t = again (p t) (λ u. many k p u) t

abbrev pub one_byte : (ℕ → Bool) → List ℕ → Match
one_byte f [] = Missed 1
one_byte f (x ∷ t) = pick (f x) (Took 1 0) (Missed 1)

abbrev pub one_letter : ℕ → Match
one_letter zero = Missed 1
one_letter (suc n) = Took (suc n) 0

abbrev pub at_end : List ℕ → Match
at_end [] = Took 0 0
at_end (x ∷ t) = Missed 1

abbrev pub within : ℕ → ℕ → ℕ → Bool
within lo hi x = both (leb lo x) (leb x hi)

unfoldable pub run : Peg → List ℕ → Match
run (lit l) t = pick (prefixb l t) (Took (length l) 0) (Missed 1)
run (range lo hi) t = one_byte (within lo hi) t
run any t = one_letter (character t)
run any_byte t = one_byte (λ x. true) t
run end t = at_end t
run (neg p) t = turned (run p t)
run (seq a b) t = after (run a t) (λ u. run b u) t
run (alt a b) t = or_else (run a t) (λ u. run b u) t
run (star p) t = many (suc (length t)) (λ u. run p u) t
run (opt p) t = maybe (run p t)
run (quiet p) t = hushed (run p t)
run (rule r p) t = run p t

-- the same expression with one byte where there was one character
abbrev pub bytewise : Peg → Peg
bytewise (lit l) = lit l
bytewise (range lo hi) = range lo hi
bytewise any = any_byte
bytewise any_byte = any_byte
bytewise end = end
bytewise (neg p) = neg (bytewise p)
bytewise (seq a b) = seq (bytewise a) (bytewise b)
bytewise (alt a b) = alt (bytewise a) (bytewise b)
bytewise (star p) = star (bytewise p)
bytewise (opt p) = opt (bytewise p)
bytewise (quiet p) = quiet (bytewise p)
bytewise (rule r p) = rule r (bytewise p)

abbrev pub hit : Match → Bool
hit (Missed f) = false
hit (Took n f) = true

abbrev pub taken : Match → ℕ
taken (Missed f) = 0
taken (Took n f) = n
