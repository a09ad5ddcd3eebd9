-- Laws of plain outcomes: nodes moved and put side by side, one outcome behind another, and what is never missed.
use Rattle.std.specs.Prelude.{◌≡◌, refl, List, ℕ, zero, suc, ◌+◌, length, drop}
use Rattle.std.proofs.Common.{sym, ap, ap₂, ◌∙◌, subst, arith, drop-drop}
use Rattle.meaning.specs.Peg.{Peg, seq, star, opt}
use Rattle.meaning.specs.Forest.{Forest, nil, tree, ◌⊕◌}
use Rattle.grammar.specs.Nodes.{⊕-assoc}
use Rattle.locality.specs.Plain.{Out, missed, took, shift, after, plain, seq_e, star_s, size, Took, opt_e, star_e, nodes}

pub shift-⊕ : (k : ℕ) (f g : Forest) → shift k (f ⊕ g) ≡ shift k f ⊕ shift k g
shift-⊕ k nil g = refl
shift-⊕ k (tree r s n c f) g = ap (tree r (k + s) n c) (shift-⊕ k f g)

shift_shift : (a b : ℕ) (f : Forest) → shift a (shift b f) ≡ shift (a + b) f
shift_shift a b nil = refl
shift_shift a b (tree r s n c f) = ap₂ (λ (x : ℕ) (y : Forest). tree r x n c y) (omega arith) (shift_shift a b f)

shift_zero : (f : Forest) → shift 0 f ≡ f
shift_zero nil = refl
shift_zero (tree r s n c f) = ap₂ (λ (x : ℕ) (y : Forest). tree r x n c y) (omega arith) (shift_zero f)

pub after_after : (a b : ℕ) (f g : Forest) (o : Out) → after a f (after b g o) ≡ after (a + b) (f ⊕ shift a g) o
after_after a b f g missed = refl
after_after a b f g (took m h) =
    ap₂ took (omega arith) (ap (λ (x : Forest). f ⊕ x) (shift-⊕ a g (shift b h) ∙ ap (λ (x : Forest). shift a g ⊕ x) (shift_shift a b h))
    ∙ sym (⊕-assoc f (shift a g) (shift (a + b) h)))

pub after_zero : (o : Out) → after 0 nil o ≡ o
after_zero missed = refl
after_zero (took m h) = ap₂ took (omega arith) (shift_zero h)

abbrev pub cont : Out → Out → Out
cont missed r = missed
cont (took n f) r = after n f r

pub after_cont : (n : ℕ) (f : Forest) (o r : Out) → after n f (cont o r) ≡ cont (after n f o) r
after_cont n f missed r = refl
after_cont n f (took m g) r = after_after n m f g r

pub size_after_took : (n : ℕ) (f : Forest) (o : Out) → Took o → size (after n f o) ≡ n + size o
size_after_took n f missed i = absurd i
size_after_took n f (took m g) i = refl

pub took_part : (n m : ℕ) (f F : Forest) (o : Out) → after n f o ≡ took m F → (b : Forest) × ((o ≡ took (size o) b) × ((n + size o ≡ m) × (F ≡ f ⊕ shift n b)))
took_part n m f F missed q = absurd (subst Took (sym q) tt)
took_part n m f F (took k g) q = (g, (refl, (ap size q, sym (ap nodes q))))

-- ---- sequences and options

pub seq_is : (a b : Peg) (s : List ℕ) → plain (seq a b) s ≡ seq_e (plain a s) (λ n. plain b (drop n s))
unfolding plain
seq_is a b s = refl

-- a first part made longer in front
pub seq_after : (p : Peg) (n : ℕ) (f : Forest) (o : Out) (t : List ℕ)
    → seq_e (after n f o) (λ j. plain p (drop j t)) ≡ after n f (seq_e o (λ j. plain p (drop j (drop n t))))
seq_after p n f missed t = refl
seq_after p n f (took m g) t =
    ap (λ x. after (n + m) (f ⊕ shift n g) (plain p x)) (sym (drop-drop m n t)) ∙ sym (after_after n m f g (plain p (drop m (drop n t))))

pub seq_front : (a b : Peg) (n : ℕ) (f : Forest) (s t : List ℕ) → drop n s ≡ t → plain a s ≡ after n f (plain a t)
    → plain (seq a b) s ≡ after n f (plain (seq a b) t)
seq_front a b n f s t d e =
    seq_is a b s ∙ ap (λ o. seq_e o (λ j. plain b (drop j s))) e ∙ seq_after b n f (plain a t) s
    ∙ ap (after n f) (ap (λ x. seq_e (plain a t) (λ j. plain b (drop j x))) d ∙ sym (seq_is a b t))

pub seq_took_is : (a b : Peg) (s : List ℕ) (k : ℕ) (g : Forest) → plain a s ≡ took k g → plain (seq a b) s ≡ after k g (plain b (drop k s))
seq_took_is a b s k g e = seq_is a b s ∙ ap (λ o. seq_e o (λ n. plain b (drop n s))) e

pub opt_is : (p : Peg) (s : List ℕ) → plain (opt p) s ≡ opt_e (plain p s)
unfolding plain
opt_is p s = refl

pub opt_same : (n : ℕ) (f : Forest) (o : Out) → Took o → opt_e (after n f o) ≡ after n f o
opt_same n f missed i = absurd i
opt_same n f (took m g) i = refl

-- ---- a star is never missed

star_s_took : (o : Out) (k : ℕ → Out) → ((n : ℕ) → Took (k n)) → Took (star_s o k)
star_s_took missed k q = tt
star_s_took (took zero f) k q = tt
star_s_took (took (suc n) f) k q = go (k (suc n)) (q (suc n))
  where
    go : (o : Out) → Took o → Took (after (suc n) f o)
    go missed i = i
    go (took m g) i = tt

pub star_took : (g : List ℕ → Out) (k : ℕ) (s : List ℕ) → Took (star_e g k s)
star_took g zero s = tt
star_took g (suc k) s = star_s_took (g s) (λ n. star_e g k (drop n s)) (λ n. star_took g k (drop n s))

pub seq_took : (o : Out) (k : ℕ → Out) → Took o → ((n : ℕ) → Took (k n)) → Took (seq_e o k)
seq_took missed k i q = i
seq_took (took n f) k i q = go (k n) (q n)
  where
    go : (o : Out) → Took o → Took (after n f o)
    go missed i = i
    go (took m g) i = tt

pub star_is : (p : Peg) (s : List ℕ) → Took (plain (star p) s)
unfolding plain
star_is p s = star_took (plain p) (suc (length s)) s
