-- Stars: one step and a star again, and what holds where a star or a sequence ends.
use Rattle.std.specs.Prelude.{◌≡◌, List, [], drop}
use Rattle.std.proofs.Math.Path.{refl}
use Rattle.std.proofs.Common.{ap, sym, ◌∙◌, arith, drop-drop}
use Prim.Native.Nat.{ℕ, zero, suc, ◌+◌, ◌≤◌, ◌<◌}
use Rattle.std.proofs.Math.ListN.{length, length-drop}
use Rattle.meaning.specs.Peg.{Peg, seq, star}
use Rattle.meaning.specs.Forest.{Forest, nil, ◌⊕◌}
use Rattle.locality.specs.Plain.{Out, missed, took, after, seq_e, star_s, plain, size, shift, Took, Holds}
use Rattle.locality.specs.PlainLaws.{after_after}
use Rattle.locality.specs.Looks.{star_unfold, far, fits, star_sf_ge}

pub star_took_suc : (p : Peg) (s : List ℕ) (n : ℕ) (f : Forest) → 1 ≤ n → plain p s ≡ took n f → plain (star p) s ≡ after n f (plain (star p) (drop n s))
star_took_suc p s zero f l e = absurd (omega arith)
star_took_suc p s (suc n) f l e = (star_unfold p s).0 ∙ rw e refl

-- a match, and a star after it
pub star_cont : (p : Peg) (s : List ℕ) (n : ℕ) (f : Forest) (o : Out) → 1 ≤ n → Took o → plain p s ≡ after n f o
    → plain (star p) s ≡ after n f (seq_e o (λ k. plain (star p) (drop k (drop n s))))
star_cont p s n f missed l i e = absurd i
star_cont p s n f (took k g) l i e =
    star_took_suc p s (n + k) (f ⊕ shift n g) (omega arith) e
    ∙ ap (λ t. after (n + k) (f ⊕ shift n g) (plain (star p) t)) (sym (drop-drop k n s))
    ∙ sym (after_after n k f g (plain (star p) (drop k (drop n s))))

pub star_ge : (p : Peg) (s : List ℕ) → far p s ≤ far (star p) s
star_ge p s = rw (star_unfold p s).1 (star_sf_ge (far p s) (plain p s) (λ n. far (star p) (drop n s)))

-- ---- where a match ends

holds_after : (o : Out) (n : ℕ) (f : Forest) (P : List ℕ → Type 0) (s : List ℕ) → Holds (λ m g. P (drop m (drop n s))) o
    → Holds (λ m g. P (drop m s)) (after n f o)
holds_after missed n f P s h = tt
holds_after (took m g) n f P s h = rw drop-drop at h

pub seq_ends : (a b : Peg) (P Q : List ℕ → Type 0) (s : List ℕ) → Holds (λ n f. P (drop n s)) (plain a s)
    → ((t : List ℕ) → P t → Holds (λ n f. Q (drop n t)) (plain b t)) → Holds (λ n f. Q (drop n s)) (plain (seq a b) s)
unfolding plain
seq_ends a b P Q s h q = go (plain a s) h
  where
    go : (o : Out) → Holds (λ n f. P (drop n s)) o → Holds (λ n f. Q (drop n s)) (seq_e o (λ n. plain b (drop n s)))
    go missed i = tt
    go (took n f) i = holds_after (plain b (drop n s)) n f Q s (q (drop n s) i)

-- p takes nothing here
abbrev pub Still : Peg → List ℕ → Type 0
Still p s = size (plain p s) ≡ 0

-- what holds where a star starts and where each of its steps ends holds where the star ends, and no step is left there
module _ (p : Peg) (P : List ℕ → Type 0) (a : (s : List ℕ) → Holds (λ n f. P (drop n s)) (plain p s)) where
  within_fuel : (k : ℕ) (s : List ℕ) → length s < k → P s → Holds (λ n f. P (drop n s) × Still p (drop n s)) (plain (star p) s)
  within_fuel zero s l z = absurd (omega arith)
  within_fuel (suc k) s l z =
      rw (star_unfold p s).0 (go (plain p s) refl (a s) (fits p s) (λ n b. within_fuel k (drop (suc n) s) (omega (arith, length-drop (suc n) s))))
    where
      go : (o : Out) → size (plain p s) ≡ size o → Holds (λ n f. P (drop n s)) o → size o ≤ length s
          → ((n : ℕ) → suc n ≤ length s → P (drop (suc n) s)
          → Holds (λ m f. P (drop m (drop (suc n) s)) × Still p (drop m (drop (suc n) s))) (plain (star p) (drop (suc n) s)))
          → Holds (λ n f. P (drop n s) × Still p (drop n s)) (star_s o (λ n. plain (star p) (drop n s)))
      go missed e x w q = (z, e)
      go (took zero f) e x w q = (z, e)
      go (took (suc n) f) e x w q = holds_after (plain (star p) (drop (suc n) s)) (suc n) f (λ t. P t × Still p t) s (q n w x)

  pub star_ends : (s : List ℕ) → P s → Holds (λ n f. P (drop n s) × Still p (drop n s)) (plain (star p) s)
  star_ends s z = within_fuel (suc (length s)) s (omega arith) z

pub still_star : (p : Peg) (s : List ℕ) → Still p s → plain (star p) s ≡ took 0 nil
still_star p s z = (star_unfold p s).0 ∙ go (plain p s) z
  where
    go : (o : Out) → size o ≡ 0 → star_s o (λ n. plain (star p) (drop n s)) ≡ took 0 nil
    go missed e = refl
    go (took zero f) e = refl
    go (took (suc n) f) e = absurd (omega arith)

pub star_nil : (p : Peg) → plain (star p) [] ≡ took 0 nil
star_nil p = still_star p [] (omega (arith, fits p []))
