-- Matches as steps: sequences, options, choices and loops, each a law about what its parts answered.
use Rattle.std.specs.Prelude.{ℕ, suc, ◌+◌, ◌-◌, ◌≤◌, ◌<◌, max, ◌≡◌, refl, List, true, length, take, drop}
use Rattle.std.proofs.Common.{arith, ap, ap₂, subst, sym, ◌∙◌, length-drop, take_all, drop-drop}
use Rattle.meaning.specs.declared.Match.{Match}
use Rattle.meaning.specs.declared.Match.TheVariants.{Missed, Took}
use Rattle.meaning.specs.Rules.{Rule}
use Rattle.meaning.specs.Peg.{Peg, seq, alt, star, opt, quiet, rule, lift, join, after, or_else, maybe, hushed, again, run, bytewise, taken}
use Rattle.grammar.specs.Matching.{Within, Reads, Steps, Tries, Stays, stay, eats}
use Rattle.grammar.specs.Fits.{lift_0, join_join, within_run, within_after, within_or_else}
use Rattle.grammar.specs.Stars.{Pos, eats_pos, unroll}

-- ---- an answer that is the meaning's fits
pub reads : (g : Peg) (t : List ℕ) (r : Match) → r ≡ run (bytewise g) t → Reads g t r
reads g t r e = record { is = e; fits = subst (λ (m : Match). Within m t) (sym e) (within_run (bytewise g) t) }

pub steps : (m : Match) (g : Peg) (t : List ℕ) (r : Match) → Within m t → r ≡ after m (λ u. run (bytewise g) u) t → Steps m g t r
steps m g t r h e =
    record { is = e; fits = subst (λ (x : Match). Within x t) (sym e) (within_after m (λ u. run (bytewise g) u) t h (λ u. within_run (bytewise g) u)) }

pub tries : (m : Match) (g : Peg) (t : List ℕ) (r : Match) → Within m t → r ≡ or_else m (λ u. run (bytewise g) u) t → Tries m g t r
tries m g t r h e =
    record { is = e; fits = subst (λ (x : Match). Within x t) (sym e) (within_or_else m (λ u. run (bytewise g) u) t h (λ u. within_run (bytewise g) u)) }

-- behind a match that missed nothing is tried
pub behind_miss : (m : Match) (g : Peg) (t : List ℕ) {f : ℕ} → Within m t → m ≡ Missed f → Steps m g t m
behind_miss m g t h e = steps m g t m h (e ∙ ap (λ (x : Match). after x (λ u. run (bytewise g) u) t) (sym e))

-- ---- what joining two matches needs
within_miss : (m : Match) (t : List ℕ) (g : ℕ) → Within m t → m ≡ Missed g → g ≤ suc (length t)
within_miss m t g h e = subst (λ (x : Match). Within x t) e h

within_took : (m : Match) (t : List ℕ) (k g : ℕ) → Within m t → m ≡ Took k g → (k ≤ length t) × (g ≤ suc (length t))
within_took m t k g h e = subst (λ (x : Match). Within x t) e h

module _ (t : List ℕ) (n : ℕ) (m : Match) (hn : n ≤ length t) (h : Within m (drop n t)) where
  pub miss_sum : (g : ℕ) → m ≡ Missed g → n + g ≤ suc (length t)
  miss_sum g e = omega (arith, within_miss m (drop n t) g h e, length-drop n t)

  pub took_sum : (k g : ℕ) → m ≡ Took k g → (n + k ≤ length t) × (n + g ≤ suc (length t))
  took_sum k g e = let w : (k ≤ length (drop n t)) × (g ≤ suc (length (drop n t))) = within_took m (drop n t) k g h e in omega (arith, length-drop n t)

pub join_miss : (n f g r : ℕ) (m : Match) → m ≡ Missed g → r ≡ max f (lift n g) → Missed r ≡ join n f m
join_miss n f g r m e q = rw (e, q)

pub join_took : (n f k g r : ℕ) (m : Match) → m ≡ Took k g → r ≡ max f (lift n g) → Took (n + k) r ≡ join n f m
join_took n f k g r m e q = rw (e, q)

pub took_le : (m : Match) (t : List ℕ) (n f : ℕ) → Within m t → m ≡ Took n f → n ≤ length t
took_le m t n f w e = (subst (λ (x : Match). Within x t) e w).0

-- ---- a part `&s[n..]` of a text, as the borrow checker has it
pub rest_is : (n : ℕ) (t : List ℕ) → take (length t - n) (drop n t) ≡ drop n t
rest_is n t = take_all (length t - n) (drop n t) (omega (arith, length-drop n t))

pub at : (n : ℕ) (t : List ℕ) {g : Peg} {x : Match} → Reads g (take (length t - n) (drop n t)) x → Reads g (drop n t) x
at n t {g} {x} h = subst (λ (u : List ℕ). Reads g u x) (rest_is n t) h

-- ---- one part after another
pub after_seq : (m : Match) (p q : List ℕ → Match) (t : List ℕ) → after m (λ u. after (p u) q u) t ≡ after (after m p t) q t
after_seq (Missed f) p q t = refl
after_seq (Took n f) p q t = go (p (drop n t))
  where
    go : (x : Match) → join n f (after x q (drop n t)) ≡ after (join n f x) q t
    go (Missed g) = refl
    go (Took k g) = join_join n f k g (q (drop k (drop n t))) ∙ ap (λ (u : List ℕ). join (n + k) (max f (lift n g)) (q u)) (drop-drop k n t)

pub join_0 : (m : Match) → m ≡ join 0 0 m
join_0 (Missed g) = ap Missed (omega (arith, lift_0 g))
join_0 (Took n g) = ap₂ Took (omega arith) (omega (arith, lift_0 g))

pub chain : {a b : Peg} {t : List ℕ} {m r : Match} → Reads a t m → Steps m b t r → Reads (seq a b) t r
unfolding run
chain {a} {b} {t} {m} {r} h k = record { is = k.is ∙ ap (λ (x : Match). after x (λ u. run (bytewise b) u) t) h.is; fits = k.fits }

pub link : {a b : Peg} {t : List ℕ} {m x r : Match} → Steps m a t x → Steps x b t r → Steps m (seq a b) t r
unfolding run
link {a} {b} {t} {m} {x} {r} h k =
    record {
      is = k.is ∙ ap (λ (y : Match). after y (λ u. run (bytewise b) u) t) h.is
          ∙ sym (after_seq m (λ u. run (bytewise a) u) (λ u. run (bytewise b) u) t);
      fits = k.fits;
    }

-- a step from the start is a match
pub start : {g : Peg} {t : List ℕ} {r : Match} → Steps (Took 0 0) g t r → Reads g t r
start {g} {t} {r} h = record { is = h.is ∙ sym (join_0 (run (bytewise g) t)); fits = h.fits }

pub taken_at : (n : ℕ) (t : List ℕ) {g : Peg} {x : Match} → Steps (Took 0 0) g (take (length t - n) (drop n t)) x
    → taken x ≡ taken (run (bytewise g) (drop n t))
taken_at n t h = ap taken (at n t (start h)).is

pub reads_rule : {g : Peg} {t : List ℕ} {r : Match} (k : Rule) → Reads g t r → Reads (rule k g) t r
unfolding run
reads_rule k h = record { is = h.is; fits = h.fits }

pub steps_rule : {g : Peg} {t : List ℕ} {m r : Match} (k : Rule) → Steps m g t r → Steps m (rule k g) t r
unfolding run
steps_rule k h = record { is = h.is; fits = h.fits }

-- a wrapper's two arms
pub missed : {g : Peg} {t : List ℕ} {m : Match} (f : ℕ) → Within m t → m ≡ Missed f → Steps m g t (Missed f)
missed {g} {t} {m} f w e = steps m g t (Missed f) w (ap (λ (x : Match). after x (λ u. run (bytewise g) u) t) (sym e))

pub took : {g : Peg} {t : List ℕ} {m x r : Match} (n f : ℕ) → Within m t → m ≡ Took n f → Reads g (take (length t - n) (drop n t)) x → r ≡ join n f x
    → Steps m g t r
took {g} {t} {m} {x} {r} n f w e h k =
    steps m g t r w (k ∙ ap (λ (y : Match). join n f y) (at n t h).is ∙ ap (λ (y : Match). after y (λ u. run (bytewise g) u) t) (sym e))

-- ---- a part that may be missing
stay_opt : (m : Match) (p : List ℕ → Match) (t : List ℕ) → stay m (after m p t) ≡ after m (λ u. maybe (p u)) t
stay_opt (Missed f) p t = refl
stay_opt (Took n f) p t = go (p (drop n t))
  where
    go : (x : Match) → stay (Took n f) (join n f x) ≡ join n f (maybe x)
    go (Missed g) = ap (λ (k : ℕ). Took k (max f (lift n g))) (omega arith)
    go (Took k g) = refl

pub option : {p : Peg} {t : List ℕ} {m x r : Match} → Within m t → Steps m p t x → r ≡ stay m x → Steps m (opt p) t r
unfolding run
option {p} {t} {m} {x} {r} w h e = steps m (opt p) t r w (e ∙ ap (stay m) h.is ∙ stay_opt m (λ u. run (bytewise p) u) t)

pub stays : (m x r : Match) (t : List ℕ) → Within m t → Within x t → r ≡ stay m x → Stays m x t r
stays m x r t w v e = record { is = e; fits = subst (λ (z : Match). Within z t) (sym e) (go m x w v) }
  where
    go : (m x : Match) → Within m t → Within x t → Within (stay m x) t
    go (Missed f) x w v = w
    go (Took n f) (Missed g) w v = (w.0, v)
    go (Took n f) (Took k g) w v = v

-- ---- a choice
pub choice : {a b : Peg} {t : List ℕ} {m r : Match} → Reads a t m → Tries m b t r → Reads (alt a b) t r
unfolding run
choice {a} {b} {t} {m} {r} h k = record { is = k.is ∙ ap (λ (x : Match). or_else x (λ u. run (bytewise b) u) t) h.is; fits = k.fits }

-- m took, or g is tried where it missed
pub untried : {g : Peg} {t : List ℕ} {m : Match} (n f : ℕ) → Within m t → m ≡ Took n f → Tries m g t (Took n f)
untried {g} {t} {m} n f w e = tries m g t (Took n f) w (ap (λ (x : Match). or_else x (λ u. run (bytewise g) u) t) (sym e))

pub tried : {g : Peg} {t : List ℕ} {m x r : Match} (f : ℕ) → Within m t → m ≡ Missed f → Reads g t x → r ≡ join 0 f x → Tries m g t r
tried {g} {t} {m} {x} {r} f w e h k =
    tries m g t r w (k ∙ ap (λ (y : Match). join 0 f y) h.is ∙ ap (λ (y : Match). or_else y (λ u. run (bytewise g) u) t) (sym e))

pub quieted : {g : Peg} {t : List ℕ} {m r : Match} → Reads g t m → r ≡ hushed m → Reads (quiet g) t r
unfolding run
quieted {g} {t} {m} {r} h e = reads (quiet g) t r (e ∙ ap hushed h.is)

-- ---- a loop over a star
module _ (p : Peg) (e : eats p ≡ true) (t : List ℕ) where
  star_again : (n f : ℕ) (x : Match) → run p (drop n t) ≡ x → join n f (run (star p) (drop n t)) ≡ join n f (again x (λ u. run (star p) u) (drop n t))
  star_again n f x h = ap (λ (y : Match). join n f y) (unroll p e (drop n t) ∙ ap (λ (y : Match). again y (λ u. run (star p) u) (drop n t)) h)

  turn : (m : Match) (k g : ℕ) → after m (λ u. run p u) t ≡ Took k g → after m (λ u. run (star p) u) t ≡ after (Took k g) (λ u. run (star p) u) t
  turn (Missed f) k g h = cc
  turn (Took n f) k g h = star_again n f (run p (drop n t)) refl ∙ go (run p (drop n t)) h
    where
      go : (x : Match) → join n f x ≡ Took k g → join n f (again x (λ u. run (star p) u) (drop n t)) ≡ join k g (run (star p) (drop k t))
      go (Missed j) q = cc
      go (Took j i) q = join_join n f j i (run (star p) (drop j (drop n t)))
          ∙ ap (λ (u : List ℕ). join (n + j) (max f (lift n i)) (run (star p) u)) (drop-drop j n t) ∙ ap (λ (y : Match). after y (λ u. run (star p) u) t) q

  stop : (m : Match) (g : ℕ) → after m (λ u. run p u) t ≡ Missed g → stay m (Missed g) ≡ after m (λ u. run (star p) u) t
  stop (Missed f) g h = refl
  stop (Took n f) g h = sym (star_again n f (run p (drop n t)) refl ∙ go (run p (drop n t)) h)
    where
      go : (x : Match) → join n f x ≡ Missed g → join n f (again x (λ u. run (star p) u) (drop n t)) ≡ Took n g
      go (Missed j) q = let r : max f (lift n j) ≡ g = cc in ap₂ Took (omega arith) r
      go (Took j i) q = cc

  grows : (m : Match) (k g : ℕ) → after m (λ u. run p u) t ≡ Took k g → taken m < k
  grows (Missed f) k g h = absurd (let z : ◌≡◌ {A = ℕ} 0 1 = cc in omega arith)
  grows (Took n f) k g h = go (run p (drop n t)) (eats_pos p e (drop n t)) h
    where
      go : (x : Match) → Pos x → join n f x ≡ Took k g → n < k
      go (Missed j) q r = absurd (let z : ◌≡◌ {A = ℕ} 0 1 = cc in omega arith)
      go (Took j i) q r = let s : n + j ≡ k = cc in let z : 0 < j = q in omega arith

-- from m₀, the loop over `star p` has come to m
pub record Rest (p : Peg) (t : List ℕ) (m₀ m : Match) : Type 0 where
  pub fits : Within m t
  pub left : after m₀ (λ u. run (star (bytewise p)) u) t ≡ after m (λ u. run (star (bytewise p)) u) t

pub rest_start : {p : Peg} (t : List ℕ) (m : Match) → Within m t → Rest p t m m
rest_start t m w = record { fits = w; left = refl }

pub rest_more : {p : Peg} {t : List ℕ} {m₀ m x : Match} (k g : ℕ) → eats (bytewise p) ≡ true → Rest p t m₀ m → Steps m p t x → x ≡ Took k g → Rest p t m₀ x
rest_more {p} {t} {m₀} {m} {x} k g e h s q =
    record {
      fits = s.fits;
      left = h.left ∙ turn (bytewise p) e t m k g (sym s.is ∙ q)
          ∙ ap (λ (y : Match). after y (λ u. run (star (bytewise p)) u) t) (sym q);
    }

pub rest_less : {p : Peg} {t : List ℕ} {m x : Match} (k g : ℕ) → eats (bytewise p) ≡ true → Steps m p t x → x ≡ Took k g
    → length t - taken x < length t - taken m
rest_less {p} {t} {m} {x} k g e s q =
    let a : taken m < k = grows (bytewise p) e t m k g (sym s.is ∙ q) in
    let b : k ≤ length t = took_le x t k g s.fits q in
    let d : taken x ≡ k = ap taken q in
    omega arith

pub rest_done : {p : Peg} {t : List ℕ} {m₀ m x r : Match} (g : ℕ) → eats (bytewise p) ≡ true → Within m₀ t → Rest p t m₀ m → Steps m p t x → x ≡ Missed g
    → r ≡ stay m x → Steps m₀ (star p) t r
rest_done {p} {t} {m₀} {m} {x} {r} g e w h s q k =
    steps m₀ (star p) t r w (k ∙ ap (stay m) q ∙ stop (bytewise p) e t m g (sym s.is ∙ q) ∙ sym h.left)
