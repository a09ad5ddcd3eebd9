-- Expressions that take a byte, and a star of one, turn by turn: the fuel is never seen again.
use Prim.Native.Nat.{ℕ, zero, suc, ◌+◌, ◌≤◌, ◌<◌}
use Rattle.std.proofs.Common.{arith, subst, sym, ◌∙◌, drop-drop}
use Rattle.std.specs.Prelude.{◌≡◌, List, [], ◌∷◌, Bool, true, false, drop}
use Rattle.std.proofs.Math.Path.{refl, ap}
use Rattle.std.proofs.Math.ListN.{length, length-drop}
use Rattle.meaning.specs.declared.Match.{Match}
use Rattle.meaning.specs.declared.Match.TheVariants.{Missed, Took}
use Rattle.meaning.specs.Choice.{pick}
use Rattle.meaning.specs.Utf8.{character}
use Rattle.meaning.specs.Peg.{Peg, lit, range, any, any_byte, end, neg, seq, alt, star, opt, quiet, rule, prefixb, join, after, or_else, hushed, again, one_byte, one_letter, within, run, hit, taken}
use Rattle.meaning.specs.Forest.{Out, missed, took, outcome, join_o, again_o, many_o, eval}
use Rattle.grammar.specs.Matching.{Within, eats}
use Rattle.grammar.specs.Picks.{both_1, both_2}
use Rattle.grammar.specs.Hits.{no_hit, no_miss, taken_again, hit_star}
use Rattle.grammar.specs.Fits.{within_run, within_taken}
use Rattle.grammar.specs.Agree.{same, again_is}

-- ---- a match that takes a byte
abbrev pub Pos : Match → Type 0
Pos (Missed f) = Unit {0}
Pos (Took n f) = 0 < n

pos_join_left : (n f : ℕ) (m : Match) → 0 < n → Pos (join n f m)
pos_join_left n f (Missed g) h = tt
pos_join_left n f (Took k g) h = omega arith

pos_join_right : (n f : ℕ) (m : Match) → Pos m → Pos (join n f m)
pos_join_right n f (Missed g) h = tt
pos_join_right n f (Took k g) h = omega arith

pos_after_left : (m : Match) (p : List ℕ → Match) (t : List ℕ) → Pos m → Pos (after m p t)
pos_after_left (Missed f) p t h = tt
pos_after_left (Took n f) p t h = pos_join_left n f (p (drop n t)) h

pos_after_right : (m : Match) (p : List ℕ → Match) (t : List ℕ) → ((u : List ℕ) → Pos (p u)) → Pos (after m p t)
pos_after_right (Missed f) p t h = tt
pos_after_right (Took n f) p t h = pos_join_right n f (p (drop n t)) (h (drop n t))

pos_or_else : (m : Match) (p : List ℕ → Match) (t : List ℕ) → Pos m → Pos (p t) → Pos (or_else m p t)
pos_or_else (Missed f) p t h k = pos_join_right 0 f (p t) k
pos_or_else (Took n f) p t h k = h

pos_hushed : (m : Match) → Pos m → Pos (hushed m)
pos_hushed (Missed f) h = tt
pos_hushed (Took n f) h = h

pos_pick : (b : Bool) (n : ℕ) → Pos (pick b (Took (suc n) 0) (Missed 1))
pos_pick true n = omega arith
pos_pick false n = tt

pos_one : (f : ℕ → Bool) (t : List ℕ) → Pos (one_byte f t)
pos_one f [] = tt
pos_one f (x ∷ t) = pos_pick (f x) 0

pos_letter : (n : ℕ) → Pos (one_letter n)
pos_letter zero = tt
pos_letter (suc n) = omega arith

pos_seq : (a b : Bool) (m : Match) (p : List ℕ → Match) (t : List ℕ) → pick a true b ≡ true → (a ≡ true → Pos m) → (b ≡ true → (u : List ℕ) → Pos (p u))
    → Pos (after m p t)
pos_seq true b m p t e f g = pos_after_left m p t (f refl)
pos_seq false b m p t e f g = pos_after_right m p t (g e)

pub eats_pos : (g : Peg) → eats g ≡ true → (t : List ℕ) → Pos (run g t)
unfolding run
eats_pos (lit []) e t = absurd (let z : ◌≡◌ {A = ℕ} 0 1 = cc in omega arith)
eats_pos (lit (x ∷ l)) e t = pos_pick (prefixb (x ∷ l) t) (length l)
eats_pos (range lo hi) e t = pos_one (within lo hi) t
eats_pos any e t = pos_letter (character t)
eats_pos any_byte e t = pos_one (λ x. true) t
eats_pos end e t = absurd (let z : ◌≡◌ {A = ℕ} 0 1 = cc in omega arith)
eats_pos (neg p) e t = absurd (let z : ◌≡◌ {A = ℕ} 0 1 = cc in omega arith)
eats_pos (seq a b) e t = pos_seq (eats a) (eats b) (run a t) (λ u. run b u) t e (λ h. eats_pos a h t) (λ h u. eats_pos b h u)
eats_pos (alt a b) e t = pos_or_else (run a t) (λ u. run b u) t (eats_pos a (both_1 (eats a) (eats b) e) t) (eats_pos b (both_2 (eats a) (eats b) e) t)
eats_pos (star p) e t = absurd (let z : ◌≡◌ {A = ℕ} 0 1 = cc in omega arith)
eats_pos (opt p) e t = absurd (let z : ◌≡◌ {A = ℕ} 0 1 = cc in omega arith)
eats_pos (quiet p) e t = pos_hushed (run p t) (eats_pos p e t)
eats_pos (rule r p) e t = eats_pos p e t

pub hit_pos : (g : Peg) (t : List ℕ) → eats g ≡ true → hit (run g t) ≡ true → 0 < taken (run g t)
hit_pos g t e h = go (run g t) (eats_pos g e t) h
  where
    go : (m : Match) → Pos m → hit m ≡ true → 0 < taken m
    go (Missed f) p h = no_hit f h
    go (Took n f) p h = p

-- ---- a star, turn by turn
module _ (p : ℕ → List ℕ → Out) (inside : (i : ℕ) (u : List ℕ) → Within (outcome (p i u)) u) (pos : (i : ℕ) (u : List ℕ) → Pos (outcome (p i u))) where
  fuel_o : (j k : ℕ) (o : ℕ) (t : List ℕ) → length t < j → length t < k → many_o j p o t ≡ many_o k p o t
  unfolding many_o
  fuel_o zero k o t hj hk = absurd (omega arith)
  fuel_o (suc j) zero o t hj hk = absurd (omega arith)
  fuel_o (suc j) (suc k) o t hj hk = go (p o t) (inside o t) (pos o t) (λ n h g. fuel_o j k (o + n) (drop n t) (omega (arith, length-drop n t))
      (omega (arith, length-drop n t)))
    where
      go : (x : Out) → Within (outcome x) t → Pos (outcome x) → ((n : ℕ) → n ≤ length t → 0 < n → many_o j p (o + n) (drop n t) ≡ many_o k p (o + n) (drop n t))
          → again_o x (λ i u. many_o j p i u) o t ≡ again_o x (λ i u. many_o k p i u) o t
      go (missed f) w q r = refl
      go (took n f v) w q r = ap (λ (y : Out). join_o n f v y) (r n w.0 q)

  unroll_many_o : (o : ℕ) (t : List ℕ) → many_o (suc (length t)) p o t ≡ again_o (p o t) (λ i u. many_o (suc (length u)) p i u) o t
  unfolding many_o
  unroll_many_o o t = go (p o t) (inside o t) (pos o t)
    where
      go : (x : Out) → Within (outcome x) t → Pos (outcome x)
          → again_o x (λ i u. many_o (length t) p i u) o t ≡ again_o x (λ i u. many_o (suc (length u)) p i u) o t
      go (missed f) w q = refl
      go (took n f v) w q = ap (λ (y : Out). join_o n f v y)
          (fuel_o (length t) (suc (length (drop n t))) (o + n) (drop n t) (let a : n ≤ length t = w.0 in let b : 0 < n = q in omega (arith, length-drop n t))
          (omega arith))

pub unroll_o : (p : Peg) → eats p ≡ true → (o : ℕ) (t : List ℕ) → eval (star p) o t ≡ again_o (eval p o t) (λ i u. eval (star p) i u) o t
unfolding eval
unroll_o p e o t =
    unroll_many_o (λ i u. eval p i u) (λ i u. rw (same p i u) (within_run p u)) (λ i u. rw (same p i u) (eats_pos p e u)) o t

-- the same of `run`
pub unroll : (p : Peg) → eats p ≡ true → (t : List ℕ) → run (star p) t ≡ again (run p t) (λ u. run (star p) u) t
unroll p e t =
    sym (same (star p) 0 t) ∙ ap outcome (unroll_o p e 0 t)
    ∙ again_is (eval p 0 t) (λ i u. eval (star p) i u) (λ u. run (star p) u) 0 t (λ i u. same (star p) i u)
    ∙ ap (λ (m : Match). again m (λ u. run (star p) u) t) (same p 0 t)

-- ---- how much a star takes
-- nothing, where its expression misses
pub star_none : (p : Peg) → eats p ≡ true → (t : List ℕ) → hit (run p t) ≡ false → taken (run (star p) t) ≡ 0
star_none p e t h = ap taken (unroll p e t) ∙ go (run p t) h
  where
    go : (m : Match) → hit m ≡ false → taken (again m (λ u. run (star p) u) t) ≡ 0
    go (Missed f) q = refl
    go (Took n f) q = no_miss n f q

-- and else a turn and what follows it
pub star_some : (p : Peg) → eats p ≡ true → (t : List ℕ) → hit (run p t) ≡ true
    → taken (run (star p) t) ≡ taken (run p t) + taken (run (star p) (drop (taken (run p t)) t))
star_some p e t h = ap taken (unroll p e t) ∙ taken_again (run p t) (λ u. run (star p) u) t h (λ u. hit_star p u)

-- it ends where its expression misses; and what each turn keeps holds there, if it holds at the start
module _ (p : Peg) (some : eats p ≡ true) (Q : List ℕ → Type 0)
    (keeps : (u : List ℕ) → hit (run p u) ≡ true → Q u → Q (drop (taken (run p u)) u)) where
  abbrev Ends : List ℕ → Type 0
  Ends u = Q u × (hit (run p u) ≡ false)

  within_fuel : (k : ℕ) (t : List ℕ) → length t < k → Q t → Ends (drop (taken (run (star p) t)) t)
  within_fuel zero t l q = absurd (omega arith)
  within_fuel (suc k) t l q =
      go (hit (run p t)) refl
      (λ h. within_fuel k (drop (taken (run p t)) t)
      (omega (arith, length-drop (taken (run p t)) t, hit_pos p t some h, within_taken (run p t) t (within_run p t))) (keeps t h q))
    where
      go : (b : Bool) → hit (run p t) ≡ b
          → (hit (run p t) ≡ true → Ends (drop (taken (run (star p) (drop (taken (run p t)) t))) (drop (taken (run p t)) t)))
          → Ends (drop (taken (run (star p) t)) t)
      go true h next =
          subst Ends
          (drop-drop (taken (run (star p) (drop (taken (run p t)) t))) (taken (run p t)) t ∙ ap (λ (n : ℕ). drop n t) (sym (star_some p some t h)))
          (next h)
      go false h next = subst (λ (n : ℕ). Ends (drop n t)) (sym (star_none p some t h)) (q, h)

  pub star_ends : (t : List ℕ) → Q t → Q (drop (taken (run (star p) t)) t) × (hit (run p (drop (taken (run (star p) t)) t)) ≡ false)
  star_ends t q = within_fuel (suc (length t)) t (omega arith) q
