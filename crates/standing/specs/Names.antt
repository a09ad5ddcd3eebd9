-- Which rules a match's nodes can be of, one after the other: computed from the expression.
use Rattle.std.specs.Prelude.{◌≡◌, refl, Bool, true, false, List, [], ◌∷◌, ◌++◌, ℕ, suc}
use Rattle.std.proofs.Common.{ap, ◌∙◌}
use Rattle.meaning.specs.Choice.{pick, both}
use Rattle.meaning.specs.Rules.{Rule, is}
use Rattle.meaning.specs.Peg.{Peg, lit, range, any, any_byte, end, neg, seq, alt, star, opt, quiet, rule}
use Rattle.meaning.specs.Forest.{Forest, nil, tree, ◌⊕◌}
use Rattle.text.specs.ChoiceLaws.{both_is, never}
use Rattle.locality.specs.Plain.{Out, took, shift, plain, Holds}
use Rattle.locality.specs.Holding.{holds_map, taken, Law, holding}
use Rattle.locality.specs.Likeness.{placed}

-- the rules of nodes side by side, without comments
abbrev pub names : Forest → List Rule
names nil = []
names (tree r s l k more) = pick (is Rule.COMMENT r) (names more) (r ∷ names more)

pub names-⊕ : (f g : Forest) → names (f ⊕ g) ≡ names f ++ names g
names-⊕ nil g = refl
names-⊕ (tree r s l k more) g = go (is Rule.COMMENT r) (names-⊕ more g)
  where
    go : (b : Bool) → names (more ⊕ g) ≡ names more ++ names g
        → pick b (names (more ⊕ g)) (r ∷ names (more ⊕ g)) ≡ pick b (names more) (r ∷ names more) ++ names g
    go true e = e
    go false e = ap (λ (x : List Rule). r ∷ x) e

names_shift : (n : ℕ) (f : Forest) → names (shift n f) ≡ names f
names_shift n nil = refl
names_shift n (tree r s l k more) = ap (λ (x : List Rule). pick (is Rule.COMMENT r) x (r ∷ x)) (names_shift n more)

pub names_placed : (o : ℕ) (f : Forest) → names (placed o f) ≡ names f
names_placed o nil = refl
names_placed o (tree r s l k more) = ap (λ (x : List Rule). pick (is Rule.COMMENT r) x (r ∷ x)) (names_placed o more)

-- ---- a test that every match's names pass
abbrev empty : List Rule → Bool
empty [] = true
empty (r ∷ rs) = false

abbrev one : Rule → List Rule
one r = pick (is Rule.COMMENT r) [] (r ∷ [])

unfoldable pub every : Peg → (List Rule → Bool) → Bool
every (lit l) t = t []
every (range lo hi) t = t []
every any t = t []
every any_byte t = t []
every end t = t []
every (neg p) t = t []
every (seq a b) t = every a (λ x. every b (λ y. t (x ++ y)))
every (alt a b) t = both (every a t) (every b t)
every (star p) t = both (every p empty) (t [])
every (opt p) t = both (every p t) (t [])
every (quiet p) t = every p t
every (rule r p) t = t (one r)

is_empty : (x : List Rule) → empty x ≡ true → x ≡ []
is_empty [] h = refl
is_empty (r ∷ x) h = never h

abbrev Passing : Peg → List ℕ → ℕ → Forest → Type 0
Passing p s n f = (t : List Rule → Bool) → every p t ≡ true → t (names f) ≡ true

pub names_two : (n : ℕ) (f g : Forest) → names (f ⊕ shift n g) ≡ names f ++ names g
names_two n f g = names-⊕ f (shift n g) ∙ ap (λ (x : List Rule). names f ++ x) (names_shift n g)

law : Law Passing
unfolding every
law = record {
  on_lit = λ l s e t h. h;
  on_range = λ lo hi x s e t h. h;
  on_any = λ x s t h. h;
  on_any_byte = λ x s t h. h;
  on_end = λ t h. h;
  on_neg = λ p s t h. h;
  on_seq = λ a b s n m f g e x y t h. ap t (names_two n f g) ∙ y (λ z. t (names f ++ z)) (x (λ z. every b (λ w. t (z ++ w))) h);
  on_left = λ a b s n f x t h. x t (both_is (every a t) (every b t) h).0;
  on_right = λ a b s n f e x t h. x t (both_is (every a t) (every b t) h).1;
  on_stop = λ p s t h. (both_is (every p empty) (t []) h).1;
  on_step = λ p s n m f g e x y t h.
      ap t (names_two (suc n) f g ∙ ap (λ (z : List Rule). z ++ names g) (is_empty (names f) (x empty (both_is (every p empty) (t []) h).0))) ∙ y t h;
  on_none = λ p s t h. (both_is (every p t) (t []) h).1;
  on_some = λ p s n f x t h. x t (both_is (every p t) (t []) h).0;
  on_quiet = λ p s n f x. x;
  on_rule = λ r p s n f e x t h. h;
}

pub passing : (p : Peg) (t : List Rule → Bool) → every p t ≡ true → (s : List ℕ) (n : ℕ) (f : Forest) → plain p s ≡ took n f
    → t (names f) ≡ true
passing p t h s n f e = taken law p s n f e t h

abbrev pub Passes : (List Rule → Bool) → Out → Type 0
Passes t o = Holds (λ n f. t (names f) ≡ true) o

pub passes : (p : Peg) (t : List Rule → Bool) → every p t ≡ true → (s : List ℕ) → Passes t (plain p s)
passes p t h s = holds_map (plain p s) (λ n f x. x t h) (holding law p s)
