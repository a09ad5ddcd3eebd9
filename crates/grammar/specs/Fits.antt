-- Marks, and the law that what is taken is at most the text, for every expression.
use Rattle.std.specs.Prelude.{ℕ, zero, suc, ◌+◌, ◌≤◌, max, ◌≡◌, refl, List, [], ◌∷◌, Bool, true, false, length, drop, eqb}
use Rattle.std.proofs.Common.{arith, ap, ap₂, ◌∙◌, length-drop}
use Rattle.meaning.specs.declared.Match.{Match}
use Rattle.meaning.specs.declared.Match.TheVariants.{Missed, Took}
use Rattle.meaning.specs.Choice.{pick}
use Rattle.meaning.specs.Utf8.{character, formed, forms, has, Octet, holds}
use Rattle.meaning.specs.Peg.{Peg, lit, range, any, any_byte, end, neg, seq, alt, star, opt, quiet, rule, prefixb, lift, join, after, or_else, maybe, turned, hushed, again, many, one_byte, one_letter, at_end, within, run, taken}
use Rattle.grammar.specs.Matching.{Within}
use Rattle.grammar.specs.Picks.{both_2}

-- ---- marks
pub lift_pos : (n g : ℕ) → (g ≡ 0 → ⊥) → lift n g ≡ n + g
lift_pos n zero h = absurd (h refl)
lift_pos n (suc g) h = refl

pub lift_none : (n g : ℕ) → g ≡ 0 → lift n g ≡ 0
lift_none n zero h = refl
lift_none n (suc g) h = let z : ◌≡◌ {A = ℕ} 0 1 = omega arith in absurd (omega arith)

pub lift_le : (n g : ℕ) → lift n g ≤ n + g
lift_le n zero = omega arith
lift_le n (suc g) = omega arith

lift_lift : (n k h : ℕ) → lift n (lift k h) ≡ lift (n + k) h
lift_lift n k zero = refl
lift_lift n k (suc h) = lift_pos n (k + suc h) (λ e. omega arith) ∙ omega arith

lift_max : (n a b : ℕ) → lift n (max a b) ≡ max (lift n a) (lift n b)
lift_max n zero zero = refl
lift_max n zero (suc b) = lift_pos n (max zero (suc b)) (λ e. omega arith) ∙ omega arith
lift_max n (suc a) zero = lift_pos n (max (suc a) zero) (λ e. omega arith) ∙ omega arith
lift_max n (suc a) (suc b) = lift_pos n (max (suc a) (suc b)) (λ e. omega arith) ∙ omega arith

pub lift_0 : (g : ℕ) → lift 0 g ≡ g
lift_0 zero = refl
lift_0 (suc g) = omega arith

marks : (n f k g h : ℕ) → max f (lift n (max g (lift k h))) ≡ max (max f (lift n g)) (lift (n + k) h)
marks n f k g h = rw (lift_max, lift_lift) (omega arith)

pub join_join : (n f k g : ℕ) (m : Match) → join n f (join k g m) ≡ join (n + k) (max f (lift n g)) m
join_join n f k g (Missed h) = ap Missed (marks n f k g h)
join_join n f k g (Took j h) = ap₂ Took (omega arith) (marks n f k g h)

-- ---- what is taken is at most the text
pub within_taken : (m : Match) (t : List ℕ) → Within m t → taken m ≤ length t
within_taken (Missed f) t h = omega arith
within_taken (Took n f) t h = h.0

pub within_join : (n f : ℕ) (m : Match) (t : List ℕ) → n ≤ length t → f ≤ suc (length t) → Within m (drop n t) → Within (join n f m) t
within_join n f (Missed g) t hn hf h = omega (arith, lift_le n g, length-drop n t)
within_join n f (Took k g) t hn hf h = omega (arith, lift_le n g, length-drop n t)

pub within_after : (m : Match) (p : List ℕ → Match) (t : List ℕ) → Within m t → ((u : List ℕ) → Within (p u) u) → Within (after m p t) t
within_after (Missed f) p t h hp = h
within_after (Took n f) p t h hp = within_join n f (p (drop n t)) t h.0 h.1 (hp (drop n t))

pub within_or_else : (m : Match) (p : List ℕ → Match) (t : List ℕ) → Within m t → ((u : List ℕ) → Within (p u) u) → Within (or_else m p t) t
within_or_else (Missed f) p t h hp = within_join 0 f (p t) t (omega arith) h (hp t)
within_or_else (Took n f) p t h hp = h

within_again : (m : Match) (p : List ℕ → Match) (t : List ℕ) → Within m t → ((u : List ℕ) → Within (p u) u) → Within (again m p t) t
within_again (Missed f) p t h hp = (omega arith, h)
within_again (Took n f) p t h hp = within_join n f (p (drop n t)) t h.0 h.1 (hp (drop n t))

within_many : (k : ℕ) (p : List ℕ → Match) (t : List ℕ) → ((u : List ℕ) → Within (p u) u) → Within (many k p t) t
unfolding many
within_many zero p t hp = omega arith
within_many (suc k) p t hp = within_again (p t) (λ u. many k p u) t (hp t) (λ u. within_many k p u hp)

within_maybe : (m : Match) (t : List ℕ) → Within m t → Within (maybe m) t
within_maybe (Missed f) t h = omega arith
within_maybe (Took n f) t h = h

within_turned : (m : Match) (t : List ℕ) → Within (turned m) t
within_turned (Missed f) t = omega arith
within_turned (Took n f) t = omega arith

within_hushed : (m : Match) (t : List ℕ) → Within m t → Within (hushed m) t
within_hushed (Missed f) t h = omega arith
within_hushed (Took n f) t h = omega arith

within_pick : (b : Bool) (n : ℕ) (t : List ℕ) → (b ≡ true → n ≤ length t) → Within (pick b (Took n 0) (Missed 1)) t
within_pick true n t h = (h refl, omega arith)
within_pick false n t h = omega arith

prefix_le : (l t : List ℕ) → prefixb l t ≡ true → length l ≤ length t
prefix_le [] t h = omega arith
prefix_le (x ∷ l) [] h = absurd (let z : ◌≡◌ {A = ℕ} 0 1 = cc in omega arith)
prefix_le (x ∷ l) (y ∷ t) h = let r : length l ≤ length t = prefix_le l t (both_2 (eqb x y) (prefixb l t) h) in omega arith

within_one : (f : ℕ → Bool) (t : List ℕ) → Within (one_byte f t) t
within_one f [] = omega arith
within_one f (x ∷ t) = within_pick (f x) 1 (x ∷ t) (λ e. omega arith)

has_le : (f : List Octet) (t : List ℕ) → has f t ≡ true → length f ≤ length t
has_le [] t h = omega arith
has_le (x ∷ f) [] h = absurd (let z : ◌≡◌ {A = ℕ} 0 1 = cc in omega arith)
has_le (x ∷ f) (y ∷ t) h = let r : length f ≤ length t = has_le f t (both_2 (holds x y) (has f t) h) in omega arith

pick_le : (b : Bool) (m n k : ℕ) → (b ≡ true → m ≤ k) → n ≤ k → pick b m n ≤ k
pick_le true m n k h g = h refl
pick_le false m n k h g = g

formed_le : (fs : List (List Octet)) (t : List ℕ) → formed fs t ≤ length t
formed_le [] t = omega arith
formed_le (f ∷ fs) t = pick_le (has f t) (length f) (formed fs t) (length t) (has_le f t) (formed_le fs t)

-- a character is a part of its text
pub character_le : (t : List ℕ) → character t ≤ length t
unfolding character
character_le t = formed_le forms t

within_letter : (n : ℕ) (t : List ℕ) → n ≤ length t → Within (one_letter n) t
within_letter zero t h = omega arith
within_letter (suc n) t h = (h, omega arith)

within_end : (t : List ℕ) → Within (at_end t) t
within_end [] = omega arith
within_end (x ∷ t) = omega arith

pub within_run : (g : Peg) (t : List ℕ) → Within (run g t) t
unfolding run
within_run (lit l) t = within_pick (prefixb l t) (length l) t (prefix_le l t)
within_run (range lo hi) t = within_one (within lo hi) t
within_run any t = within_letter (character t) t (character_le t)
within_run any_byte t = within_one (λ x. true) t
within_run end t = within_end t
within_run (neg p) t = within_turned (run p t) t
within_run (seq a b) t = within_after (run a t) (λ u. run b u) t (within_run a t) (λ u. within_run b u)
within_run (alt a b) t = within_or_else (run a t) (λ u. run b u) t (within_run a t) (λ u. within_run b u)
within_run (star p) t = within_many (suc (length t)) (λ u. run p u) t (λ u. within_run p u)
within_run (opt p) t = within_maybe (run p t) t (within_run p t)
within_run (quiet p) t = within_hushed (run p t) t (within_run p t)
within_run (rule r p) t = within_run p t
