-- Notes on a grammar: what the rules of a node's children pass, by the node's rule. That every node passes them is computed from the
-- expression, and carried to a source's nodes without comments.
use Rattle.std.specs.Prelude.{ℕ, suc, ◌+◌, ◌≡◌, refl, Bool, true, false, List, [], ◌∷◌, ◌++◌}
use Rattle.std.proofs.Common.{ap, subst, ◌∙◌}
use Rattle.meaning.specs.Choice.{pick, both}
use Rattle.meaning.specs.Rules.{Rule, is}
use Rattle.meaning.specs.Peg.{Peg, lit, range, any, any_byte, end, neg, seq, alt, star, opt, quiet, rule}
use Rattle.meaning.specs.Forest.{Forest, nil, tree, clean, ◌⊕◌}
use Rattle.meaning.specs.Walk.{part, absent, node, following}
use Rattle.text.specs.ChoiceLaws.{both_is}
use Rattle.locality.specs.Plain.{took, shift, plain}
use Rattle.locality.specs.Holding.{Law, holds_map, holding, NodeLaw, allowed, nodes_hold}
use Rattle.locality.specs.Likeness.{placed}
use Rattle.standing.specs.Names.{names, names_two, names_placed, every, Passes, passes}
use Rattle.standing.specs.Kinds.{rules, rules_clean}

-- ---- a list: every node is of such a rule
abbrev pub all : (Rule → Bool) → List Rule → Bool
all t [] = true
all t (r ∷ rs) = both (t r) (all t rs)

all-++ : (t : Rule → Bool) (x y : List Rule) → all t x ≡ true → all t y ≡ true → all t (x ++ y) ≡ true
all-++ t [] y h k = k
all-++ t (r ∷ x) y h k = let i = both_is (t r) (all t x) h in rw i.0 (all-++ t x y i.1 k)

unfoldable pub only : (Rule → Bool) → Peg → Bool
only t (lit l) = true
only t (range lo hi) = true
only t any = true
only t any_byte = true
only t end = true
only t (neg p) = true
only t (seq a b) = both (only t a) (only t b)
only t (alt a b) = both (only t a) (only t b)
only t (star p) = only t p
only t (opt p) = only t p
only t (quiet p) = only t p
only t (rule r p) = every (rule r p) (all t)

module _ (t : Rule → Bool) where
  abbrev Only : Peg → List ℕ → ℕ → Forest → Type 0
  Only p s n f = only t p ≡ true → all t (names f) ≡ true

  both_all : (n : ℕ) (f g : Forest) → all t (names f) ≡ true → all t (names g) ≡ true → all t (names (f ⊕ shift n g)) ≡ true
  both_all n f g h k = ap (all t) (names_two n f g) ∙ all-++ t (names f) (names g) h k

  only_law : Law Only
  unfolding only every
  only_law = record {
    on_lit = λ l s e h. refl;
    on_range = λ lo hi x s e h. refl;
    on_any = λ x s h. refl;
    on_any_byte = λ x s h. refl;
    on_end = λ h. refl;
    on_neg = λ p s h. refl;
    on_seq = λ a b s n m f g e x y h. let i = both_is (only t a) (only t b) h in both_all n f g (x i.0) (y i.1);
    on_left = λ a b s n f x h. x (both_is (only t a) (only t b) h).0;
    on_right = λ a b s n f e x h. x (both_is (only t a) (only t b) h).1;
    on_stop = λ p s h. refl;
    on_step = λ p s n m f g e x y h. both_all (suc n) f g (x h) (y h);
    on_none = λ p s h. refl;
    on_some = λ p s n f x. x;
    on_quiet = λ p s n f x. x;
    on_rule = λ r p s n f e x h. h;
  }

  pub only_passes : (p : Peg) → only t p ≡ true → (s : List ℕ) → Passes (all t) (plain p s)
  only_passes p h s = holds_map (plain p s) (λ n f x. x h) (holding only_law p s)

-- ---- a note: the children of a node of this rule pass the test, which is computed
pub record Note : Type 0 where
  pub of : Rule
  pub test : List Rule → Bool
  pub by : Peg → Bool
  pub sound : (p : Peg) → by p ≡ true → (s : List ℕ) → Passes test (plain p s)

infix 30 ◌has◌
abbrev pub ◌has◌ : Rule → (List Rule → Bool) → Note
r has t = record { of = r; test = t; by = λ p. every p t; sound = λ p h s. passes p t h s }

infix 30 ◌lists◌
abbrev pub ◌lists◌ : Rule → Rule → Note
r lists q = record { of = r; test = all (is q); by = only (is q); sound = only_passes (is q) }

-- a rule's children, by each note
abbrev pub RuleNotes : List Note → Rule → List Rule → Type 0
RuleNotes [] r x = Unit {0}
RuleNotes (n ∷ ns) r x = (is n.of r ≡ true → n.test x ≡ true) × RuleNotes ns r x

-- so of all nodes, whose children's rules are listed by g
abbrev pub AllNotes : (Forest → List Rule) → List Note → Forest → Type 0
AllNotes g ns nil = Unit {0}
AllNotes g ns (tree r s l k more) = RuleNotes ns r (g k) × (AllNotes g ns k × AllNotes g ns more)

abbrev pub tests_rule : List Note → Rule → Peg → Bool
tests_rule [] r p = true
tests_rule (n ∷ ns) r p = both (pick (is n.of r) (n.by p) true) (tests_rule ns r p)

rule_notes : (ns : List Note) (r : Rule) (p : Peg) → tests_rule ns r p ≡ true → (s : List ℕ) (n : ℕ) (f : Forest) → plain p s ≡ took n f
    → RuleNotes ns r (names f)
rule_notes [] r p e s n f q = tt
rule_notes (m ∷ ms) r p e s n f q =
    let i = both_is (pick (is m.of r) (m.by p) true) (tests_rule ms r p) e in
    (λ z. subst (Passes m.test) q (m.sound p (rw z at i.0) s), rule_notes ms r p i.1 s n f q)

module _ (ns : List Note) where
  notes-⊕ : (f g : Forest) → AllNotes names ns f → AllNotes names ns g → AllNotes names ns (f ⊕ g)
  notes-⊕ nil g h k = k
  notes-⊕ (tree r s l c more) g h k = (h.0, (h.1.0, notes-⊕ more g h.1.1 k))

  notes_shift : (n : ℕ) (f : Forest) → AllNotes names ns f → AllNotes names ns (shift n f)
  notes_shift n nil h = tt
  notes_shift n (tree r s l c more) h = (h.0, (h.1.0, notes_shift n more h.1.1))

  law : NodeLaw (λ n f. AllNotes names ns f) (tests_rule ns)
  law = record {
    none = λ n. tt;
    two = λ n m f g h k. notes-⊕ f (shift n g) h (notes_shift n g k);
    node = λ r p e s n f q h. (rule_notes ns r p e s n f q, (h, tt));
  }

  pub all_notes : (p : Peg) → allowed (tests_rule ns) p ≡ true → (s : List ℕ) (n : ℕ) (f : Forest) → plain p s ≡ took n f → AllNotes names ns f
  all_notes = nodes_hold law

  -- the nodes placed in a source, without comments
  pub notes_clean : (o : ℕ) (f : Forest) → AllNotes names ns f → AllNotes rules ns (clean (placed o f))
  notes_clean o nil h = tt
  notes_clean o (tree r s l k more) h = go (is Rule.COMMENT r) (notes_clean (o + s) k h.1.0) (notes_clean o more h.1.1)
    where
      here : RuleNotes ns r (rules (clean (placed (o + s) k)))
      here = rw (rules_clean (placed (o + s) k), names_placed (o + s) k) h.0

      go : (b : Bool) → AllNotes rules ns (clean (placed (o + s) k)) → AllNotes rules ns (clean (placed o more))
          → AllNotes rules ns (pick b (clean (placed o more)) (tree r (o + s) l (clean (placed (o + s) k)) (clean (placed o more))))
      go true a q = q
      go false a q = (here, (a, q))

  -- ---- the walk's steps keep them
  pub notes_next : (r : Rule) (w : Forest) → AllNotes rules ns w → AllNotes rules ns (part r w).next
  notes_next r nil h = tt
  notes_next r (tree q s l k more) h = go (is r q)
    where
      go : (b : Bool) → AllNotes rules ns (pick b (node s l k more) (absent (tree q s l k more))).next
      go true = h.1.1
      go false = h

  pub notes_following : (w : Forest) → AllNotes rules ns w → AllNotes rules ns (following w)
  notes_following nil h = tt
  notes_following (tree q s l k more) h = h.1.1

  pub notes_kids : (r : Rule) (w : Forest) → AllNotes rules ns w → AllNotes rules ns (part r w).kids
  notes_kids r nil h = tt
  notes_kids r (tree q s l k more) h = go (is r q)
    where
      go : (b : Bool) → AllNotes rules ns (pick b (node s l k more) (absent (tree q s l k more))).kids
      go true = h.1.0
      go false = tt
