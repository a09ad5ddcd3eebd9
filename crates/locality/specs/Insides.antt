-- Every node of a plain match, placed in the source, lies inside what the match takes.
use Rattle.std.specs.Prelude.{◌≡◌, List, ℕ, suc, ◌+◌}
use Rattle.std.proofs.Common.{arith}
use Rattle.meaning.specs.Peg.{Peg}
use Rattle.meaning.specs.Forest.{Forest, ◌⊕◌}
use Rattle.grammar.specs.Limits.{Limits, wider, limits-⊕}
use Rattle.locality.specs.Plain.{took, shift, plain}
use Rattle.locality.specs.Holding.{Law, taken}
use Rattle.locality.specs.Likeness.{placed, placed-⊕, placed_shift}

abbrev pub Inside : ℕ → Forest → Type 0
Inside n f = (o : ℕ) → Limits o (o + n) (placed o f)

abbrev Inner : Peg → List ℕ → ℕ → Forest → Type 0
Inner p s n f = Inside n f

two : (n m : ℕ) (f g : Forest) → Inside n f → Inside m g → Inside (n + m) (f ⊕ shift n g)
two n m f g h k o =
    rw (placed-⊕ o f (shift n g), placed_shift o n g)
    (limits-⊕ o (o + (n + m)) (placed o f) (placed (o + n) g)
    (wider o (o + n) o (o + (n + m)) (placed o f) (omega arith) (omega arith) (h o))
    (wider (o + n) (o + n + m) o (o + (n + m)) (placed (o + n) g) (omega arith) (omega arith) (k (o + n))))

law : Law Inner
law = record {
  on_lit = λ l s e o. tt;
  on_range = λ lo hi x s e o. tt;
  on_any = λ x s o. tt;
  on_any_byte = λ x s o. tt;
  on_end = λ o. tt;
  on_neg = λ p s o. tt;
  on_seq = λ a b s n m f g e x y. two n m f g x y;
  on_left = λ a b s n f x. x;
  on_right = λ a b s n f e x. x;
  on_stop = λ p s o. tt;
  on_step = λ p s n m f g e x y. two (suc n) m f g x y;
  on_none = λ p s o. tt;
  on_some = λ p s n f x. x;
  on_quiet = λ p s n f x. x;
  on_rule = λ r p s n f e x o.
      (omega arith, (omega arith, (wider (o + 0) (o + 0 + n) o (o + n) (placed (o + 0) f) (omega arith) (omega arith) (x (o + 0)), tt)));
}

pub inside : (p : Peg) (s : List ℕ) (n : ℕ) (f : Forest) → plain p s ≡ took n f → Inside n f
inside = taken law
