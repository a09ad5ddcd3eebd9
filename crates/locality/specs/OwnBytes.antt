-- An expression that looks at nothing behind its end: what it takes depends on its own bytes only. Whatever follows, it takes the same
-- bytes, with the same nodes: by its plain meaning, and by its full one.
use Rattle.std.specs.Prelude.{◌≡◌, refl, true, List, ◌++◌, ℕ, ◌+◌, ◌≤◌, length, drop, take}
use Rattle.std.proofs.Common.{sym, ap, ap₂, ◌∙◌, subst, arith, take-append-drop, length-take-le}
use Rattle.meaning.specs.Peg.{Peg, bytewise}
use Rattle.meaning.specs.Forest.{Forest, eval, Out as Full, missed as failed, took as held}
use Rattle.locality.specs.Plain.{Out, missed, took, plain}
use Rattle.locality.specs.Looks.{far, took_le, local}
use Rattle.locality.specs.Absorbing.{Absorbs, nought, one, one_le}
use Rattle.locality.specs.Likeness.{placed, Like, steady, alike}

pub far_one : (p : Peg) (s : List ℕ) (n : ℕ) (f : Forest) → Absorbs (far p) p one → plain p s ≡ took n f → far p s ≤ n + 1
far_one p s n f a e = omega (arith, rw e at (a.at s), one_le (drop n s))

pub far_none : (p : Peg) (s : List ℕ) (n : ℕ) (f : Forest) → Absorbs (far p) p nought → plain p s ≡ took n f → far p s ≤ n
unfolding nought
far_none p s n f a e = omega (arith, rw e at (a.at s))

pub own : (p : Peg) → Absorbs (far p) p nought → (s u : List ℕ) (n : ℕ) (f : Forest) → plain p s ≡ took n f
    → plain p (take n s ++ u) ≡ took n f
own p a s u n f e =
    let l : length (take n s) ≡ n = length-take-le n s (took_le p s n f e) in
    let q : far p (take n s ++ drop n s) ≤ length (take n s) = rw (take-append-drop n s) (omega (arith, far_none p s n f a e)) in
    sym (local p (take n s) (drop n s) u q).0 ∙ ap (plain p) (take-append-drop n s) ∙ e

-- ---- by the full meaning
-- (The mark may differ: it tells how far a try failed, and tries go on behind the match.)

-- a match of n bytes with the nodes w, at whatever mark
pub record Takes (g : Peg) (o : ℕ) (t : List ℕ) (n : ℕ) (w : Forest) : Type 0 where
  pub mark : ℕ
  pub is : eval (bytewise g) o t ≡ held n mark w

pub lasting : (g : Peg) → steady g ≡ true → Absorbs (far g) g nought → (o n : ℕ) (s u : List ℕ) (w : Forest) → Takes g o s n w
    → Takes g o (take n s ++ u) n w
lasting g h a o n s u w t = go (plain g s) refl (subst (λ (x : Full). Like o x (plain g s)) t.is (alike g h o s))
  where
    back : (F : Forest) → w ≡ placed o F → plain g (take n s ++ u) ≡ took n F → (x : Full) → eval (bytewise g) o (take n s ++ u) ≡ x
        → Like o x (plain g (take n s ++ u)) → Takes g o (take n s ++ u) n w
    back F p k (failed f) r l = absurd (subst (Like o (failed f)) k l)
    back F p k (held m f v) r l =
        let z = subst (Like o (held m f v)) k l in
        record { mark = f; is = r ∙ ap₂ (λ (i : ℕ) (y : Forest). held i f y) z.0 (z.1 ∙ sym p) }

    go : (x : Out) → plain g s ≡ x → Like o (held n t.mark w) (plain g s) → Takes g o (take n s ++ u) n w
    go missed p l = absurd (subst (Like o (held n t.mark w)) p l)
    go (took m F) p l =
        let z = subst (Like o (held n t.mark w)) p l in
        let k : plain g s ≡ took n F = p ∙ ap (λ (i : ℕ). took i F) (sym z.0) in
        back F z.1 (own g a s u n F k) (eval (bytewise g) o (take n s ++ u)) refl (alike g h o (take n s ++ u))
