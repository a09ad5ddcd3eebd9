-- Every node of a match has a byte or more, ends before the next one begins, and holds its children: computed from the grammar. So is
-- more of some nodes: a quoted text has two bytes, a tag has one child, a range tag opens with its name, a comment has no children.
use Rattle.std.specs.Prelude.{◌≡◌, refl, Bool, true, false, List, [], ◌∷◌, ℕ, ◌+◌, ◌≤◌, leb, eqb, length}
use Rattle.std.proofs.Common.{sym, ap, ◌∙◌, subst, arith, leb-true}
use Rattle.meaning.specs.Choice.{pick, both}
use Rattle.meaning.specs.Rules.{Rule, order, is}
use Rattle.meaning.specs.Peg.{Peg}
use Rattle.meaning.specs.Forest.{Forest, nil, tree, ◌⊕◌, clean}
use Rattle.meaning.specs.Pdl.{rules as grammar}
use Rattle.reading.specs.Sources.{whole}
use Rattle.text.specs.ChoiceLaws.{both_is, never}
use Rattle.locality.specs.Plain.{shift, plain, took}
use Rattle.locality.specs.Holding.{NodeLaw, allowed, nodes_hold}
use Rattle.locality.specs.Likeness.{placed, placed-⊕, placed_shift}
use Rattle.locality.specs.Least.{least, AtLeast, at_least}
use Rattle.standing.specs.Sources.{core}
use Rattle.standing.specs.Names.{names, names_placed, every, Passes, passes}
use Rattle.standing.specs.Kinds.{starting, rules, rules_clean}
use Rattle.standing.specs.Files.{eoi, Core, Whole, to_core}
use Rattle.standing.specs.WholeSources.{nodes_are}

-- ---- what is asked of a node, by its rule's number: how many bytes at the least, and the rules of its children
abbrev pub bytes_of : ℕ → ℕ
bytes_of o = pick (eqb (order Rule.string) o) 2 1

abbrev few : List Rule → Bool
few [] = true
few (r ∷ []) = true
few (r ∷ q ∷ rs) = false

abbrev pub fitting : ℕ → List Rule → Bool
fitting o x = pick (eqb (order Rule.enum_tag) o) (few x) (pick (eqb (order Rule.enum_range) o) (starting Rule.identifier x) true)

-- what is known of nodes, by the rule's number, start and length
abbrev pub Known : Type 1
Known = ℕ → ℕ → ℕ → Type 0

-- of a node of the rule r at s with l bytes and these children, whose rules `of` tells; P is known of it
pub record Fit (of : Forest → List Rule) (P : Known) (r : Rule) (s l : ℕ) (kids : Forest) : Type 0 where
  pub known : P (order r) s l
  pub bytes : bytes_of (order r) ≤ l
  pub fits : fitting (order r) (of kids) ≡ true
  pub alone : is Rule.COMMENT r ≡ true → kids ≡ nil

-- nodes from lo to hi, each behind the one before it
pub data Ranged (of : Forest → List Rule) (P : Known) : ℕ → ℕ → Forest → Type 0 where
  bare : {lo hi : ℕ} → lo ≤ hi → Ranged of P lo hi nil
  grown : {lo hi : ℕ} {r : Rule} {s l : ℕ} {kids more : Forest} → Fit of P r s l kids → lo ≤ s → Ranged of P s (s + l) kids → Ranged of P (s + l) hi more
      → Ranged of P lo hi (tree r s l kids more)

module _ {of : Forest → List Rule} {P : Known} where
  pub higher : {lo mid hi : ℕ} {w : Forest} → lo ≤ mid → Ranged of P mid hi w → Ranged of P lo hi w
  higher {lo} {mid} {hi} e (bare h) = let q : lo ≤ hi = omega arith in bare q
  higher {lo} e (grown {s = s} f h i j) = let q : lo ≤ s = omega arith in grown f q i j

  pub wider : {lo mid hi : ℕ} {w : Forest} → mid ≤ hi → Ranged of P lo mid w → Ranged of P lo hi w
  wider {lo} {mid} {hi} e (bare h) = let q : lo ≤ hi = omega arith in bare q
  wider e (grown f h i j) = grown f h i (wider e j)

  pub upward : {lo hi : ℕ} {w : Forest} → Ranged of P lo hi w → lo ≤ hi
  upward (bare h) = h
  upward (grown f h i j) = omega (arith, upward j)

  ranged-⊕ : {lo mid hi : ℕ} {v w : Forest} → Ranged of P lo mid v → Ranged of P mid hi w → Ranged of P lo hi (v ⊕ w)
  ranged-⊕ (bare h) k = higher h k
  ranged-⊕ (grown f h i j) k = grown f h i (ranged-⊕ j k)

-- ---- a node in a forest, by its rule's number
pub data In : Forest → ℕ → ℕ → ℕ → Type 0 where
  top : {r : Rule} {s l : ℕ} {kids more : Forest} → In (tree r s l kids more) (order r) s l
  below : {r : Rule} {s l : ℕ} {kids more : Forest} {o a n : ℕ} → In kids o a n → In (tree r s l kids more) o a n
  beside : {r : Rule} {s l : ℕ} {kids more : Forest} {o a n : ℕ} → In more o a n → In (tree r s l kids more) o a n

module _ {of : Forest → List Rule} {P Q : Known} where
  -- what holds of every node in a forest is known of it
  pub knowing : {lo hi : ℕ} {w : Forest} → Ranged of P lo hi w → ((o s l : ℕ) → In w o s l → Q o s l) → Ranged of Q lo hi w
  knowing (bare h) k = bare h
  knowing (grown {r = r} {s} {l} f h i j) k =
      grown (record { known = k (order r) s l top; bytes = f.bytes; fits = f.fits; alone = f.alone }) h
      (knowing i (λ o a n x. k o a n (below x))) (knowing j (λ o a n x. k o a n (beside x)))

-- such a node lies there, and has its bytes
pub in_range : {of : Forest → List Rule} {P : Known} {lo hi o s l : ℕ} {w : Forest} → Ranged of P lo hi w → In w o s l
    → (s + l ≤ hi) × (bytes_of o ≤ l)
in_range (bare h) x = elim x [ ]
in_range (grown f h i j) top = (upward j, f.bytes)
in_range (grown f h i j) (below x) = let k = in_range i x in (omega (arith, k.0, upward j), k.1)
in_range (grown f h i j) (beside x) = in_range j x

-- ---- without comments
pub ranged_clean : {P : Known} {lo hi : ℕ} {w : Forest} → Ranged names P lo hi w → Ranged rules P lo hi (clean w)
ranged_clean (bare h) = bare h
ranged_clean {P} {lo} {hi} (grown {r = r} {s} {l} {kids} {more} f h i j) = go (is Rule.COMMENT r) (ranged_clean i) (ranged_clean j)
  where
    fit : Fit rules P r s l (clean kids)
    fit = record { known = f.known; bytes = f.bytes; fits = ap (fitting (order r)) (rules_clean kids) ∙ f.fits; alone = λ e. ap clean (f.alone e) }

    go : (b : Bool) → Ranged rules P s (s + l) (clean kids) → Ranged rules P (s + l) hi (clean more)
        → Ranged rules P lo hi (pick b (clean more) (tree r s l (clean kids) (clean more)))
    go true x y = higher (omega arith) y
    go false x y = grown fit h x y

-- ---- which expressions draw such nodes
abbrev no_rule : Rule → Peg → Bool
no_rule r p = false

abbrev None : ℕ → Forest → Type 0
None n f = f ≡ nil

none_law : NodeLaw None no_rule
none_law = record {
  none = λ n. refl;
  two = λ n m f g h k. rw (h, k);
  node = λ r p e s n f q h. never e;
}

abbrev shaped : Rule → Peg → Bool
shaped r p = pick (is Rule.enum_tag r) (every p few) (pick (is Rule.enum_range r) (every p (starting Rule.identifier)) true)

abbrev fit_rule : Rule → Peg → Bool
fit_rule r p = both (leb (bytes_of (order r)) (least p)) (both (shaped r p) (pick (is Rule.COMMENT r) (allowed no_rule p) true))

abbrev Any : Known
Any o s l = Unit {0}

module _ (r : Rule) (p : Peg) (s : List ℕ) (n : ℕ) (f : Forest) (q : plain p s ≡ took n f) where
  passed : (t : List Rule → Bool) → every p t ≡ true → t (names f) ≡ true
  passed t h = subst (Passes t) q (passes p t h s)

  fitted : (a b : Bool) → pick a (every p few) (pick b (every p (starting Rule.identifier)) true) ≡ true
      → pick a (few (names f)) (pick b (starting Rule.identifier (names f)) true) ≡ true
  fitted true b h = passed few h
  fitted false true h = passed (starting Rule.identifier) h
  fitted false false h = refl

  childless : (b : Bool) → b ≡ true → pick b (allowed no_rule p) true ≡ true → f ≡ nil
  childless true e h = nodes_hold none_law p h s n f q
  childless false e h = never e

  fit_node : fit_rule r p ≡ true → Fit names Any r 0 n f
  fit_node h =
      let i = both_is (leb (bytes_of (order r)) (least p)) _ h in
      let j = both_is (shaped r p) _ i.1 in
      record {
        known = tt;
        bytes = omega (arith, leb-true (bytes_of (order r)) (least p) i.0, subst (AtLeast (least p)) q (at_least p s));
        fits = fitted (is Rule.enum_tag r) (is Rule.enum_range r) j.0;
        alone = λ e. childless (is Rule.COMMENT r) e j.1;
      }

abbrev Ordered : ℕ → Forest → Type 0
Ordered n f = (o : ℕ) → Ranged names Any o (o + n) (placed o f)

law : NodeLaw Ordered fit_rule
law = record {
  none = λ n o. let q : o ≤ o + n = omega arith in bare q;
  two = λ n m f g h k o.
      let e : o + n + m ≡ o + (n + m) = omega arith in
      rw (placed-⊕ o f (shift n g), placed_shift o n g) (ranged-⊕ (h o) (rw e at (k (o + n))));
  node = λ r p e s n f q h o.
      let i = fit_node r p s n f q e in
      let a : o ≤ o + 0 = omega arith in
      let b : o + 0 + n ≤ o + n = omega arith in
      let fits : fitting (order r) (names (placed (o + 0) f)) ≡ true = ap (fitting (order r)) (names_placed (o + 0) f) ∙ i.fits in
      grown (record { known = tt; bytes = i.bytes; fits = fits; alone = λ z. ap (placed (o + 0)) (i.alone z) }) a (h (o + 0)) (bare b);
}

-- ---- the nodes of a source that the grammar matches
ranged : {s : List ℕ} {w : Forest} → Core s w → Ranged names Any 0 (length s) w
unfolding allowed every least grammar
ranged {s} c =
    let e : 0 + length s ≡ length s = omega arith in
    rw c.places (rw e at (nodes_hold law core refl s (length s) c.bare c.takes 0))

-- a node of the source, by its rule's number: it lies in the source, and has its bytes
pub record Stands (src : List ℕ) (o s l : ℕ) : Type 0 where
  pub there : In (whole src) o s l
  pub within : s + l ≤ length src
  pub bytes : bytes_of o ≤ l

in_left : (w : Forest) {v : Forest} {o s l : ℕ} → In v o s l → In (v ⊕ w) o s l
in_left w top = top
in_left w (below x) = below x
in_left w (beside x) = beside (in_left w x)

pub stand : {src : List ℕ} {w : Forest} → Whole src w → Ranged names (Stands src) 0 (length src) w
stand {src} a =
    let g = ranged (to_core a) in
    knowing g (λ o s l x.
    let k = in_range g x in
    record { there = subst (λ (v : Forest). In v o s l) (sym (nodes_are a)) (below (in_left (eoi (length src)) x)); within = k.0; bytes = k.1 })
