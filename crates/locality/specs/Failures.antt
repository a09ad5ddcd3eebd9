-- A failed alternative, and the one that then took: how far the failed one looked.
use Rattle.std.specs.Prelude.{◌≡◌, refl, Bool, true, false, not, List, [], ◌∷◌, ℕ, suc, ◌+◌, ◌≤◌, max, eqb, length, drop}
use Rattle.std.proofs.Common.{ap, arith, eqb-true}
use Rattle.meaning.specs.Choice.{both, pick}
use Rattle.meaning.specs.Rules.{Rule}
use Rattle.meaning.specs.Peg.{Peg, lit, range, any, any_byte, end, neg, seq, alt, star, opt, quiet, rule, prefixb, within}
use Rattle.meaning.specs.Forest.{Forest}
use Rattle.text.specs.ChoiceLaws.{never, both_is}
use Rattle.locality.specs.Plain.{Out, missed, took, after, seq_e, alt_e, rule_e, star_e, plain, Took}
use Rattle.locality.specs.Holding.{Law, taken}
use Rattle.locality.specs.Least.{nullable}
use Rattle.locality.specs.PlainLaws.{star_took}
use Rattle.locality.specs.Looks.{lit_f, seq_f, alt_f, star_f, far, alt_f_le}
use Rattle.locality.specs.Absorbing.{Absorbs, Bound, lost, lost_f, more, abs_le, abs_more, abs_rule, lost_le}
use Rattle.locality.specs.Firsts.{firsts, offs, abs_first₂, misses, near}
use Rattle.locality.specs.Literals.{differ, differ_far}

pub lost_rule : {e : List ℕ → ℕ} {q : Peg} (p : Peg) (r t : Rule) → Absorbs (lost p) q e → Absorbs (lost (rule r p)) (rule t q) e
unfolding lost plain far
lost_rule {e} {q} p r t a = abs_rule t (abs_le (λ s. go (plain p s) (far p s)) a)
  where
    go : (o : Out) (x : ℕ) → lost_f (rule_e r o) x ≤ lost_f o x
    go missed x = omega arith
    go (took n f) x = omega arith

-- a and then r, where a takes
pub part : {e : List ℕ → ℕ} {a : Peg} (r : Peg) → Absorbs (far a) a e → ((s : List ℕ) → far r s ≤ e s) → Absorbs (far (seq a r)) a e
unfolding far
part {e} {a} r f l = record { at = λ s. go s (plain a s) (f.at s) }
  where
    go : (s : List ℕ) (o : Out) → Bound o (far a s) (λ n. e (drop n s)) → Bound o (seq_f (far a s) o (λ n. far r (drop n s))) (λ n. e (drop n s))
    go s missed i = tt
    go s (took n f) i = omega (arith, l (drop n s))

-- a star is not missed
pub lost_star : (a b : Peg) (s : List ℕ) → lost (seq a (star b)) s ≤ far a s
unfolding lost plain far
lost_star a b s = go (plain a s)
  where
    took_after : (n y : ℕ) (f : Forest) (o : Out) → Took o → lost_f (after n f o) y ≤ 0
    took_after n y f missed i = absurd i
    took_after n y f (took m g) i = omega arith

    go : (o : Out) → lost_f (seq_e o (λ n. star_e (plain b) (suc (length (drop n s))) (drop n s)))
        (seq_f (far a s) o (λ n. star_f (plain b) (far b) (suc (length (drop n s))) (drop n s))) ≤ far a s
    go missed = omega arith
    go (took n f) =
        omega (
          arith,
          took_after n (max (far a s) (n + star_f (plain b) (far b) (suc (length (drop n s))) (drop n s))) f
              (star_e (plain b) (suc (length (drop n s))) (drop n s))
              (star_took (plain b) (suc (length (drop n s))) (drop n s)),
        )

-- ---- alternatives that begin with quoted texts

abbrev pub outside : List ℕ → ℕ → ℕ → Bool
outside [] a b = false
outside (c ∷ l) a b = not (within a b c)

-- whatever b takes begins so that the literal l does not match there, and shows it within what b takes
abbrev pub begins : List ℕ → Peg → Bool
begins l (lit m) = differ l m
begins l (range a b) = outside l a b
begins l any = false
begins l any_byte = false
begins l (quiet p) = begins l p
begins l end = false
begins l (neg p) = false
begins l (seq a b) = begins l a
begins l (alt a b) = both (begins l a) (begins l b)
begins l (star p) = false
begins l (opt p) = false
begins l (rule r p) = begins l p

abbrev Leads : List ℕ → Peg → List ℕ → ℕ → Forest → Type 0
Leads l p s n f = begins l p ≡ true → (lit_f l s ≤ n) × (prefixb l s ≡ false)

range_leads : (l : List ℕ) (a b x : ℕ) (s : List ℕ) → within a b x ≡ true → outside l a b ≡ true
    → (lit_f l (x ∷ s) ≤ 1) × (prefixb l (x ∷ s) ≡ false)
range_leads [] a b x s p h = never h
range_leads (c ∷ l) a b x s p h = go (eqb c x) refl
  where
    go : (w : Bool) → eqb c x ≡ w → (pick w (suc (lit_f l s)) 1 ≤ 1) × (both w (prefixb l s) ≡ false)
    go false q = (omega arith, refl)
    go true q = never (rw (eqb-true c x q, p) at h)

leads : (l : List ℕ) → Law (Leads l)
leads l = record {
  on_lit = λ m s e h. differ_far l m s h e;
  on_range = λ a b x s e h. range_leads l a b x s e h;
  on_any = λ x s h. never h;
  on_any_byte = λ x s h. never h;
  on_end = λ h. never h;
  on_neg = λ p s h. never h;
  on_seq = λ a b s n m f g e x y h. let i = x h in (omega (arith, i.0), i.1);
  on_left = λ a b s n f x h. x (both_is (begins l a) (begins l b) h).0;
  on_right = λ a b s n f e x h. x (both_is (begins l a) (begins l b) h).1;
  on_stop = λ p s h. never h;
  on_step = λ p s n m f g e x y h. never h;
  on_none = λ p s h. never h;
  on_some = λ p s n f x h. never h;
  on_quiet = λ p s n f x. x;
  on_rule = λ r p s n f e x. x;
}

-- wherever b takes, the expression misses, at a quoted text that it begins with
abbrev pub opens : Peg → Peg → Bool
opens (lit l) b = begins l b
opens (range lo hi) b = false
opens any b = false
opens any_byte b = false
opens (quiet p) b = opens p b
opens end b = false
opens (neg p) b = false
opens (seq x y) b = opens x b
opens (alt x y) b = both (opens x b) (opens y b)
opens (star p) b = false
opens (opt p) b = false
opens (rule r p) b = opens p b

seq_no : (o : Out) (x m : ℕ) (k : ℕ → Out) (h : ℕ → ℕ) → (o ≡ missed) × (x ≤ m) → (seq_e o k ≡ missed) × (seq_f x o h ≤ m)
seq_no o x m k h i = (rw i.0, rw i.0 i.1)

alt_no : (o r : Out) (x y m : ℕ) → (o ≡ missed) × (x ≤ m) → (r ≡ missed) × (y ≤ m) → (alt_e o r ≡ missed) × (alt_f x o y ≤ m)
alt_no o r x y m i j = (rw i.0 j.0, alt_f_le o x y m i.1 j.1)

head_no : (p b : Peg) → opens p b ≡ true → (s : List ℕ) (n : ℕ) (f : Forest) → plain b s ≡ took n f → (plain p s ≡ missed) × (far p s ≤ n)
unfolding plain far
head_no (lit l) b d s n f e = let i = taken (leads l) b s n f e d in (rw i.1, i.0)
head_no (range lo hi) b d s n f e = never d
head_no any b d s n f e = never d
head_no any_byte b d s n f e = never d
head_no (quiet p) b d s n f e = head_no p b d s n f e
head_no end b d s n f e = never d
head_no (neg p) b d s n f e = never d
head_no (seq x y) b d s n f e = seq_no (plain x s) (far x s) n (λ m. plain y (drop m s)) (λ m. far y (drop m s)) (head_no x b d s n f e)
head_no (alt x y) b d s n f e =
    let i = both_is (opens x b) (opens y b) d in
    alt_no (plain x s) (plain y s) (far x s) (far y s) n (head_no x b i.0 s n f e) (head_no y b i.1 s n f e)
head_no (star p) b d s n f e = never d
head_no (opt p) b d s n f e = never d
head_no (rule r p) b d s n f e = let i = head_no p b d s n f e in (ap (rule_e r) i.0, i.1)

pub lost_head : {e : List ℕ → ℕ} (a b : Peg) → opens a b ≡ true → Absorbs (lost a) b e
lost_head {e} a b d = record { at = λ s. go s (plain b s) refl }
  where
    go : (s : List ℕ) (o : Out) → plain b s ≡ o → Bound o (lost a s) (λ n. e (drop n s))
    go s missed q = tt
    go s (took n f) q = omega (arith, (head_no a b d s n f q).1, lost_le a s)

-- two failed alternatives
pub lost_two : {e : List ℕ → ℕ} {b : Peg} (x y : Peg) → Absorbs (lost x) b e → Absorbs (lost y) b e → Absorbs (lost (alt x y)) b e
unfolding lost plain far more
lost_two {e} {b} x y p q = abs_le (λ s. go (plain x s) (plain y s) (far x s) (far y s)) (abs_more p q)
  where
    go : (o r : Out) (m n : ℕ) → lost_f (alt_e o r) (alt_f m o n) ≤ max (lost_f o m) (lost_f r n)
    go missed missed m n = omega arith
    go missed (took k f) m n = omega arith
    go (took k f) r m n = omega arith

-- ---- a choice inside a failed alternative

pub lost_alt₁ : {e : List ℕ → ℕ} {x : Peg} (y t : Peg) → Absorbs (lost (seq x t)) x e → Absorbs (lost (seq (alt x y) t)) x e
unfolding lost plain far
lost_alt₁ {e} {x} y t a = record { at = λ s. go s (plain x s) (a.at s) }
  where
    go : (s : List ℕ) (o : Out) → Bound o (lost_f (seq_e o (λ n. plain t (drop n s))) (seq_f (far x s) o (λ n. far t (drop n s)))) (λ n. e (drop n s))
        → Bound o (lost_f (seq_e (alt_e o (plain y s)) (λ n. plain t (drop n s)))
        (seq_f (alt_f (far x s) o (far y s)) (alt_e o (plain y s)) (λ n. far t (drop n s)))) (λ n. e (drop n s))
    go s missed i = tt
    go s (took n f) i = i

pub lost_alt₂ : {e : List ℕ → ℕ} {y : Peg} (x t : Peg) → offs (firsts x) (firsts y) ≡ true → nullable x ≡ false → nullable y ≡ false
    → Absorbs (lost (seq y t)) y e → Absorbs (lost (seq (alt x y) t)) y e
unfolding lost plain far
lost_alt₂ {e} {y} x t d u v a = abs_first₂ (firsts x) (λ s q. rw (misses x s u q) (go s (plain y s) (near x s q))) d v a
  where
    longer : (o : Out) (m z w : ℕ) → m ≤ 1 → lost_f o (max (max m z) w) ≤ max 1 (lost_f o (max z w))
    longer missed m z w l = omega arith
    longer (took n f) m z w l = omega arith

    go : (s : List ℕ) (r : Out) → far x s ≤ 1
        → lost_f (seq_e r (λ n. plain t (drop n s))) (seq_f (max (far x s) (far y s)) r (λ n. far t (drop n s)))
        ≤ max 1 (lost_f (seq_e r (λ n. plain t (drop n s))) (seq_f (far y s) r (λ n. far t (drop n s))))
    go s missed l = omega arith
    go s (took n f) l = longer (after n f (plain t (drop n s))) (far x s) (far y s) (n + far t (drop n s)) l
