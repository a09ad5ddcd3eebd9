-- Expressions whose match has a mark, which says how far a try of it came. A choice of which one such part is left does what that
-- part does, marks and all.
use Rattle.std.specs.Prelude.{ℕ, zero, suc, ◌≤◌, ◌<◌, ◌≡◌, List, [], ◌∷◌, Bool, length, drop}
use Rattle.std.proofs.Common.{arith, ap₂, ◌∙◌, length-drop}
use Rattle.std.proofs.Math.Path.{refl, ap}
use Rattle.std.proofs.Math.Bool.{true, false}
use Rattle.meaning.specs.declared.Match.{Match}
use Rattle.meaning.specs.declared.Match.TheVariants.{Missed, Took}
use Rattle.meaning.specs.Choice.{pick, both, either}
use Rattle.meaning.specs.Utf8.{character}
use Rattle.meaning.specs.Peg.{Peg, lit, range, any, any_byte, end, neg, seq, alt, star, opt, quiet, rule, prefixb, lift, join, after, or_else, hushed, again, many, one_byte, one_letter, at_end, within, run, hit}
use Rattle.grammar.specs.Matching.{Within, eats}
use Rattle.grammar.specs.Picks.{both_1, both_2}
use Rattle.grammar.specs.Hits.{no_hit, hit_seq, hit_opt, hit_star}
use Rattle.grammar.specs.Fits.{lift_0, within_run}
use Rattle.grammar.specs.Stars.{Pos, eats_pos}
use Rattle.grammar.specs.Openings.{opens, misses}
use Rattle.grammar.specs.Choices.{left}

-- ---- a miss that has a mark; a match that has one, whether it took or not
abbrev pub MissMark : Match → Type 0
MissMark (Missed f) = 1 ≤ f
MissMark (Took n f) = Unit {0}

abbrev pub Mark : Match → Type 0
Mark (Missed f) = 1 ≤ f
Mark (Took n f) = 1 ≤ f

lift_one : (n g : ℕ) → 1 ≤ g → 1 ≤ lift n g
lift_one n zero h = omega arith
lift_one n (suc g) h = omega arith

miss_mark_hit : (m : Match) → hit m ≡ true → MissMark m
miss_mark_hit (Missed f) e = no_hit f e
miss_mark_hit (Took n f) e = tt

miss_mark_pick : (b : Bool) (n : ℕ) → MissMark (pick b (Took n 0) (Missed 1))
miss_mark_pick true n = tt
miss_mark_pick false n = omega arith

miss_mark_one : (f : ℕ → Bool) (t : List ℕ) → MissMark (one_byte f t)
miss_mark_one f [] = omega arith
miss_mark_one f (x ∷ t) = miss_mark_pick (f x) 1

miss_mark_letter : (n : ℕ) → MissMark (one_letter n)
miss_mark_letter zero = omega arith
miss_mark_letter (suc n) = tt

miss_mark_end : (t : List ℕ) → MissMark (at_end t)
miss_mark_end [] = tt
miss_mark_end (x ∷ t) = omega arith

miss_mark_join : (n f : ℕ) (m : Match) → MissMark m → MissMark (join n f m)
miss_mark_join n f (Missed g) h = omega (arith, lift_one n g h)
miss_mark_join n f (Took k g) h = tt

miss_mark_after : (m : Match) (p : List ℕ → Match) (t : List ℕ) → MissMark m → ((u : List ℕ) → MissMark (p u)) → MissMark (after m p t)
miss_mark_after (Missed f) p t h k = h
miss_mark_after (Took n f) p t h k = miss_mark_join n f (p (drop n t)) (k (drop n t))

mark_before : (n f : ℕ) (m : Match) → 1 ≤ f → Mark (join n f m)
mark_before n f (Missed g) h = omega arith
mark_before n f (Took k g) h = omega arith

mark_behind : (n f : ℕ) (m : Match) → Mark m → Mark (join n f m)
mark_behind n f (Missed g) h = omega (arith, lift_one n g h)
mark_behind n f (Took k g) h = omega (arith, lift_one n g h)

mark_of_miss : (m : Match) → Mark m → MissMark m
mark_of_miss (Missed f) h = h
mark_of_miss (Took n f) h = tt

miss_mark_or_else : (m : Match) (p : List ℕ → Match) (t : List ℕ) → MissMark m → MissMark (or_else m p t)
miss_mark_or_else (Missed f) p t h = mark_of_miss (join 0 f (p t)) (mark_before 0 f (p t) h)
miss_mark_or_else (Took n f) p t h = tt

never : {A : Type 0} → false ≡ true → A
never e = absurd (let z : ◌≡◌ {A = ℕ} 0 1 = cc in omega arith)

-- ---- the same as tests of an expression: it never misses; each miss of it has a mark; each match of it has one
abbrev sure : Peg → Bool
sure (lit l) = false
sure (range lo hi) = false
sure any = false
sure any_byte = false
sure end = false
sure (neg p) = false
sure (seq a b) = both (sure a) (sure b)
sure (alt a b) = false
sure (star p) = true
sure (opt p) = true
sure (quiet p) = false
sure (rule r p) = false

abbrev pub marks_misses : Peg → Bool
marks_misses (lit l) = true
marks_misses (range lo hi) = true
marks_misses any = true
marks_misses any_byte = true
marks_misses end = true
marks_misses (neg p) = false
marks_misses (seq a b) = both (marks_misses a) (marks_misses b)
marks_misses (alt a b) = marks_misses a
marks_misses (star p) = true
marks_misses (opt p) = true
marks_misses (quiet p) = sure p
marks_misses (rule r p) = marks_misses p

-- a star's last turn is a miss
abbrev pub marks_matches : Peg → Bool
marks_matches (lit l) = false
marks_matches (range lo hi) = false
marks_matches any = false
marks_matches any_byte = false
marks_matches end = false
marks_matches (neg p) = false
marks_matches (seq a b) = either (marks_matches a) (marks_matches b)
marks_matches (alt a b) = false
marks_matches (star p) = both (eats p) (marks_misses p)
marks_matches (opt p) = false
marks_matches (quiet p) = false
marks_matches (rule r p) = marks_matches p

sure_hits : (g : Peg) → sure g ≡ true → (t : List ℕ) → hit (run g t) ≡ true
sure_hits (lit l) e t = cc
sure_hits (range lo hi) e t = cc
sure_hits any e t = cc
sure_hits any_byte e t = cc
sure_hits end e t = cc
sure_hits (neg p) e t = cc
sure_hits (seq a b) e t = hit_seq a b t (sure_hits b (both_2 (sure a) (sure b) e) _) ∙ sure_hits a (both_1 (sure a) (sure b) e) t
sure_hits (alt a b) e t = cc
sure_hits (star p) e t = hit_star p t
sure_hits (opt p) e t = hit_opt p t
sure_hits (quiet p) e t = cc
sure_hits (rule r p) e t = cc

miss_mark_hushed : (m : Match) → hit m ≡ true → MissMark (hushed m)
miss_mark_hushed (Missed f) e = no_hit f e
miss_mark_hushed (Took n f) e = tt

miss_mark : (g : Peg) → marks_misses g ≡ true → (t : List ℕ) → MissMark (run g t)
unfolding run
miss_mark (lit l) e t = miss_mark_pick (prefixb l t) (length l)
miss_mark (range lo hi) e t = miss_mark_one (within lo hi) t
miss_mark any e t = miss_mark_letter (character t)
miss_mark any_byte e t = miss_mark_one (λ x. true) t
miss_mark end e t = miss_mark_end t
miss_mark (neg p) e t = never e
miss_mark (seq a b) e t =
    miss_mark_after (run a t) (λ u. run b u) t (miss_mark a (both_1 (marks_misses a) (marks_misses b) e) t)
    (λ u. miss_mark b (both_2 (marks_misses a) (marks_misses b) e) u)
miss_mark (alt a b) e t = miss_mark_or_else (run a t) (λ u. run b u) t (miss_mark a e t)
miss_mark (star p) e t = miss_mark_hit (run (star p) t) (hit_star p t)
miss_mark (opt p) e t = miss_mark_hit (run (opt p) t) (hit_opt p t)
miss_mark (quiet p) e t = miss_mark_hushed (run p t) (sure_hits p e t)
miss_mark (rule r p) e t = miss_mark p e t

-- one of two parts has a mark, and so has a miss of the first
mark_seq : (x y : Bool) (m : Match) (p : List ℕ → Match) (t : List ℕ) → either x y ≡ true → MissMark m → (x ≡ true → Mark m)
    → (y ≡ true → (u : List ℕ) → Mark (p u)) → Mark (after m p t)
mark_seq x y (Missed f) p t e h a b = h
mark_seq true y (Took n f) p t e h a b = mark_before n f (p (drop n t)) (a refl)
mark_seq false y (Took n f) p t e h a b = mark_behind n f (p (drop n t)) (b e (drop n t))

mark_many : (p : Peg) → eats p ≡ true → marks_misses p ≡ true → (k : ℕ) (t : List ℕ) → length t < k → Mark (many k (λ u. run p u) t)
unfolding many
mark_many p a b zero t h = absurd (omega arith)
mark_many p a b (suc k) t h =
    go (run p t) (eats_pos p a t) (within_run p t) (miss_mark p b t)
    (λ n i j. mark_many p a b k (drop n t) (omega (arith, length-drop n t)))
  where
    go : (m : Match) → Pos m → Within m t → MissMark m → ((n : ℕ) → 0 < n → n ≤ length t → Mark (many k (λ u. run p u) (drop n t)))
        → Mark (again m (λ u. many k (λ v. run p v) u) t)
    go (Missed f) i j z r = z
    go (Took n f) i j z r = mark_behind n f (many k (λ u. run p u) (drop n t)) (r n i j.0)

match_mark : (g : Peg) → marks_misses g ≡ true → marks_matches g ≡ true → (t : List ℕ) → Mark (run g t)
unfolding run
match_mark (lit l) e h t = never h
match_mark (range lo hi) e h t = never h
match_mark any e h t = never h
match_mark any_byte e h t = never h
match_mark end e h t = never h
match_mark (neg p) e h t = never h
match_mark (seq a b) e h t =
    let ea = both_1 (marks_misses a) (marks_misses b) e in
    mark_seq (marks_matches a) (marks_matches b) (run a t) (λ u. run b u) t h (miss_mark a ea t) (λ i. match_mark a ea i t)
    (λ i u. match_mark b (both_2 (marks_misses a) (marks_misses b) e) i u)
match_mark (alt a b) e h t = never h
match_mark (star p) e h t = mark_many p (both_1 (eats p) (marks_misses p) h) (both_2 (eats p) (marks_misses p) h) (suc (length t)) t (omega arith)
match_mark (opt p) e h t = never h
match_mark (quiet p) e h t = never h
match_mark (rule r p) e h t = match_mark p e h t

-- ---- beside a match that has a mark, a part that misses at once changes nothing
beside : (m : Match) → Mark m → join 0 1 m ≡ m
beside (Missed g) h = ap Missed (omega (arith, lift_0 g))
beside (Took n g) h = ap₂ Took (omega arith) (omega (arith, lift_0 g))

behind : (m : Match) (p : List ℕ → Match) (t : List ℕ) → Mark m → p t ≡ Missed 1 → or_else m p t ≡ m
behind (Missed f) p t h e = rw e (ap Missed (omega arith))
behind (Took n f) p t h e = refl

module _ (q : List ℕ → Bool) (t : List ℕ) (gone : (l : List ℕ) → q l ≡ true → prefixb l t ≡ false) where
  abbrev Alone : Peg → Peg → Type 0
  Alone g h = marks_misses h ≡ true → marks_matches h ≡ true → run g t ≡ run h t

  pub alone : (g : Peg) → Alone g (left q g)
  unfolding run
  alone (lit l) e h = refl
  alone (range lo hi) e h = refl
  alone any e h = refl
  alone any_byte e h = refl
  alone end e h = refl
  alone (neg p) e h = refl
  alone (seq a b) e h = refl
  alone (alt a b) e h = go (opens q a) refl (opens q b) refl (alone a) (alone b) e h
    where
      go : (x : Bool) → opens q a ≡ x → (y : Bool) → opens q b ≡ y → Alone a (left q a) → Alone b (left q b)
          → Alone (alt a b) (pick x (left q b) (pick y (left q a) (alt a b)))
      go true i y j ka kb e h =
          ap (λ (m : Match). or_else m (λ u. run b u) t) (misses q t gone a i) ∙ ap (λ (m : Match). join 0 1 m) (kb e h)
          ∙ beside (run (left q b) t) (match_mark (left q b) e h t)
      go false i true j ka kb e h =
          ap (λ (m : Match). or_else m (λ u. run b u) t) (ka e h)
          ∙ behind (run (left q a) t) (λ u. run b u) t (match_mark (left q a) e h t) (misses q t gone b j)
      go false i false j ka kb e h = refl
  alone (star p) e h = refl
  alone (opt p) e h = refl
  alone (quiet p) e h = refl
  alone (rule r p) e h = refl
