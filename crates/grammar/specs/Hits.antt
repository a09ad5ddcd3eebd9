-- Whether a match took, and how much, through each way in which matches and expressions are put together.
use Rattle.std.specs.Prelude.{ℕ, zero, suc, ◌+◌, ◌≡◌, refl, List, Bool, true, false, length, drop}
use Rattle.std.proofs.Common.{arith, sym, ◌∙◌}
use Rattle.meaning.specs.declared.Match.{Match}
use Rattle.meaning.specs.declared.Match.TheVariants.{Missed, Took}
use Rattle.meaning.specs.Choice.{pick, either}
use Rattle.meaning.specs.Peg.{Peg, lit, seq, alt, star, opt, prefixb, join, after, or_else, maybe, hushed, again, many, run, hit, taken}

-- ---- one match
pub no_hit : {A : Type 0} (f : ℕ) → hit (Missed f) ≡ true → A
no_hit f e = absurd (let z : ◌≡◌ {A = ℕ} 0 1 = cc in omega arith)

pub no_miss : {A : Type 0} (n f : ℕ) → hit (Took n f) ≡ false → A
no_miss n f e = absurd (let z : ◌≡◌ {A = ℕ} 0 1 = cc in omega arith)

pub taken_missed : (m : Match) → hit m ≡ false → taken m ≡ 0
taken_missed (Missed f) e = refl
taken_missed (Took n f) e = no_miss n f e

pub taken_hushed : (m : Match) → taken (hushed m) ≡ taken m
taken_hushed (Missed f) = refl
taken_hushed (Took n f) = refl

pub hit_maybe : (m : Match) → hit (maybe m) ≡ true
hit_maybe (Missed f) = refl
hit_maybe (Took n f) = refl

pub taken_maybe : (m : Match) → taken (maybe m) ≡ taken m
taken_maybe (Missed f) = refl
taken_maybe (Took n f) = refl

-- ---- a match that stands n bytes on
pub hit_join : (n f : ℕ) (m : Match) → hit (join n f m) ≡ hit m
hit_join n f (Missed g) = refl
hit_join n f (Took k g) = refl

pub taken_join : (n f : ℕ) (m : Match) → hit m ≡ true → taken (join n f m) ≡ n + taken m
taken_join n f (Missed g) e = no_hit g e
taken_join n f (Took k g) e = refl

-- or at the same place
pub taken_here : (f : ℕ) (m : Match) → taken (join 0 f m) ≡ taken m
taken_here f (Missed g) = refl
taken_here f (Took n g) = omega arith

-- ---- one match after another
pub hit_after : (m : Match) (p : List ℕ → Match) (t : List ℕ) → hit m ≡ true → hit (after m p t) ≡ hit (p (drop (taken m) t))
hit_after (Missed f) p t e = no_hit f e
hit_after (Took n f) p t e = hit_join n f (p (drop n t))

pub missed_after : (m : Match) (p : List ℕ → Match) (t : List ℕ) → hit m ≡ false → hit (after m p t) ≡ false
missed_after (Missed f) p t e = refl
missed_after (Took n f) p t e = no_miss n f e

pub hit_before : (m : Match) (p : List ℕ → Match) (t : List ℕ) → hit (after m p t) ≡ true → hit m ≡ true
hit_before (Missed f) p t e = e
hit_before (Took n f) p t e = refl

pub hit_behind : (m : Match) (p : List ℕ → Match) (t : List ℕ) → hit (after m p t) ≡ true → hit (p (drop (taken m) t)) ≡ true
hit_behind m p t e = sym (hit_after m p t (hit_before m p t e)) ∙ e

pub taken_after : (m : Match) (p : List ℕ → Match) (t : List ℕ) → hit (after m p t) ≡ true
    → taken (after m p t) ≡ taken m + taken (p (drop (taken m) t))
taken_after (Missed f) p t e = no_hit f e
taken_after (Took n f) p t e = taken_join n f (p (drop n t)) (sym (hit_join n f (p (drop n t))) ∙ e)

-- ---- one turn of a star, and the others
pub hit_again : (m : Match) (q : List ℕ → Match) (t : List ℕ) → ((u : List ℕ) → hit (q u) ≡ true) → hit (again m q t) ≡ true
hit_again (Missed f) q t h = refl
hit_again (Took n f) q t h = hit_join n f (q (drop n t)) ∙ h (drop n t)

pub taken_again : (m : Match) (q : List ℕ → Match) (t : List ℕ) → hit m ≡ true → ((u : List ℕ) → hit (q u) ≡ true)
    → taken (again m q t) ≡ taken m + taken (q (drop (taken m) t))
taken_again (Missed f) q t e h = no_hit f e
taken_again (Took n f) q t e h = taken_join n f (q (drop n t)) (h (drop n t))

hit_many : (k : ℕ) (p : List ℕ → Match) (t : List ℕ) → hit (many k p t) ≡ true
unfolding many
hit_many zero p t = refl
hit_many (suc k) p t = hit_again (p t) (λ u. many k p u) t (λ u. hit_many k p u)

-- ---- each kind of expression
pub hit_lit : (l t : List ℕ) → hit (run (lit l) t) ≡ prefixb l t
unfolding run
hit_lit l t = go (prefixb l t)
  where
    go : (b : Bool) → hit (pick b (Took (length l) 0) (Missed 1)) ≡ b
    go true = refl
    go false = refl

-- where b matches behind a, both match where a does
pub hit_seq : (a b : Peg) (t : List ℕ) → hit (run b (drop (taken (run a t)) t)) ≡ true → hit (run (seq a b) t) ≡ hit (run a t)
unfolding run
hit_seq a b t h = go (run a t) h
  where
    go : (m : Match) → hit (run b (drop (taken m) t)) ≡ true → hit (after m (λ u. run b u) t) ≡ hit m
    go (Missed f) e = refl
    go (Took n f) e = hit_join n f (run b (drop n t)) ∙ e

pub taken_seq : (a b : Peg) (t : List ℕ) → hit (run a t) ≡ true → hit (run b (drop (taken (run a t)) t)) ≡ true
    → taken (run (seq a b) t) ≡ taken (run a t) + taken (run b (drop (taken (run a t)) t))
unfolding run
taken_seq a b t h k = taken_after (run a t) (λ u. run b u) t (hit_after (run a t) (λ u. run b u) t h ∙ k)

pub hit_alt : (a b : Peg) (t : List ℕ) → hit (run (alt a b) t) ≡ either (hit (run a t)) (hit (run b t))
unfolding run
hit_alt a b t = go (run a t)
  where
    go : (m : Match) → hit (or_else m (λ u. run b u) t) ≡ either (hit m) (hit (run b t))
    go (Missed f) = hit_join 0 f (run b t)
    go (Took n f) = refl

pub taken_alt : (a b : Peg) (t : List ℕ) → taken (run (alt a b) t) ≡ pick (hit (run a t)) (taken (run a t)) (taken (run b t))
unfolding run
taken_alt a b t = go (run a t)
  where
    go : (m : Match) → taken (or_else m (λ u. run b u) t) ≡ pick (hit m) (taken m) (taken (run b t))
    go (Missed f) = taken_here f (run b t)
    go (Took n f) = refl

pub hit_opt : (g : Peg) (t : List ℕ) → hit (run (opt g) t) ≡ true
unfolding run
hit_opt g t = hit_maybe (run g t)

pub taken_opt : (g : Peg) (t : List ℕ) → taken (run (opt g) t) ≡ taken (run g t)
unfolding run
taken_opt g t = taken_maybe (run g t)

pub hit_star : (p : Peg) (t : List ℕ) → hit (run (star p) t) ≡ true
unfolding run
hit_star p t = hit_many (suc (length t)) (λ u. run p u) t
