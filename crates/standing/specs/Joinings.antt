-- The same bytes behind two texts: behind p, of which the file rule makes the same nodes whatever follows, and behind an accepted
-- source q and a newline. The nodes of q stand, and those that were behind p follow, moved.
use Rattle.std.specs.Prelude.{◌≡◌, refl, List, [], ◌∷◌, ◌++◌, ℕ, suc, ◌+◌, length}
use Rattle.std.proofs.Common.{sym, ap, ap₂, ◌∙◌, subst, append-nil, arith, length-append}
use Rattle.meaning.specs.Utf8.{valid}
use Rattle.meaning.specs.Forest.{Forest, nil, tree, ◌⊕◌, clean}
use Rattle.meaning.specs.Pdl.{rules}
use Rattle.grammar.specs.Nodes.{nil_right}
use Rattle.grammar.specs.Limits.{Limits}
use Rattle.locality.specs.Plain.{took, shift, after, plain, size}
use Rattle.locality.specs.Holding.{allowed}
use Rattle.locality.specs.Least.{least}
use Rattle.locality.specs.PlainLaws.{took_part}
use Rattle.locality.specs.Likeness.{placed, placed-⊕, placed_shift}
use Rattle.grammar.specs.Limits.{wider}
use Rattle.locality.specs.Insides.{inside}
use Rattle.locality.specs.ValidTexts.{valid_behind, valid_line}
use Rattle.standing.specs.Sources.{body, core, file_append}
use Rattle.standing.specs.Names.{every}
use Rattle.standing.specs.Kinds.{Kinded, kinds_of}
use Rattle.standing.specs.CommentLengths.{Long, longs}
use Rattle.standing.specs.Files.{Whole, Core, to_whole, to_core}

-- nodes k bytes later in the source
abbrev pub moved_by : ℕ → Forest → Forest
moved_by k nil = nil
moved_by k (tree r s l kids more) = tree r (s + k) l (moved_by k kids) (moved_by k more)

placed_moved : (o k : ℕ) (f : Forest) → placed (o + k) f ≡ moved_by k (placed o f)
placed_moved o k nil = refl
placed_moved o k (tree r s l c more) =
    ap₂ (λ (x y : Forest). x ⊕ y) (ap (λ (i : ℕ). tree r i l (placed i c) nil) q ∙ ap (λ (x : Forest). tree r (o + s + k) l x nil) (placed_moved (o + s) k c))
    (placed_moved o k more)
  where
    q : o + k + s ≡ o + s + k
    q = omega arith

-- a text that begins a source: whatever follows, its nodes are F, and behind them stand those of what follows
pub record Head (p : List ℕ) (F : Forest) : Type 0 where
  pub good : valid p ≡ length p
  pub takes : (b : List ℕ) → plain core (p ++ b) ≡ after (length p) F (plain body b)

-- it is a source by itself
body_nil : plain body [] ≡ took 0 nil
unfolding plain rules
body_nil = refl

pub head_whole : {p : List ℕ} {F : Forest} → Head p F → Whole p (placed 0 F)
head_whole {p} {F} h =
    to_whole h.good
    (ap (plain core) (sym (append-nil p)) ∙ h.takes [] ∙ ap (after (length p) F) body_nil ∙ ap₂ took here (nil_right F)) refl
  where
    here : length p + 0 ≡ length p
    here = omega arith

-- the nodes behind p
pub record Follows (p b : List ℕ) (v old new : Forest) : Type 0 where
  pub is : v ≡ old ⊕ new
  pub holds : Limits (length p) (length (p ++ b)) new
  pub kinds : Kinded (clean new)
  pub long : Long new

pub record Stands (p q b : List ℕ) (k : ℕ) (old w v : Forest) : Type 0 where
  pub new : Forest
  pub follows : Follows p b v old new
  pub joined : Whole (q ++ 10 ∷ b) (w ⊕ moved_by k new)

body_kinds : (u : List ℕ) (b : Forest) (o n : ℕ) → plain body u ≡ took n b → Kinded (clean (placed o b))
unfolding allowed every rules
body_kinds u b o n e = kinds_of body refl u n b e o

body_long : (u : List ℕ) (b : Forest) (o n : ℕ) → plain body u ≡ took n b → Long (placed o b)
unfolding allowed least rules
body_long u b o n e = longs body refl u n b e o

stands : (p q b : List ℕ) {k : ℕ} {F w v : Forest} → Head p F → length p + k ≡ length q + 1 → valid q ≡ length q → valid (p ++ b) ≡ length (p ++ b)
    → Core q w → Core (p ++ b) v
    → Stands p q b k (placed 0 F) w v
stands p q b {k} {F} {w} {v} h n vq vb cq cb =
    let x = took_part (length p) (length (p ++ b)) F cb.bare (plain body b) (sym (h.takes b) ∙ cb.takes) in
    let g = x.0 in
    let d : size (plain body b) ≡ length b = omega (arith, x.1.1.0, length-append p b) in
    let takes : plain core (q ++ 10 ∷ b) ≡ took (length (q ++ 10 ∷ b)) (cq.bare ⊕ shift (suc (length q)) g) =
    file_append q b cq.bare cq.takes ∙ ap (after (suc (length q)) cq.bare) x.1.0
    ∙ ap (λ i. took i (cq.bare ⊕ shift (suc (length q)) g)) (omega (arith, length-append q (10 ∷ b), d)) in
    let at_new : Limits (length p) (length p + length b) (placed (length p) g)
    = subst (λ i. Limits (length p) (length p + i) (placed (length p) g)) d (inside body b (size (plain body b)) g x.1.0 (length p)) in
    let m : 0 + suc (length q) ≡ length p + k = omega arith in
    let here : placed 0 (cq.bare ⊕ shift (suc (length q)) g) ≡ w ⊕ moved_by k (placed (length p) g) =
    placed-⊕ 0 cq.bare (shift (suc (length q)) g)
    ∙ ap₂ (λ (y z : Forest). y ⊕ z) (sym cq.places) (placed_shift 0 (suc (length q)) g ∙ ap (λ i. placed i g) m ∙ placed_moved (length p) k g) in
    record {
      new = placed (length p) g;
      follows = record {
        is = cb.places ∙ ap (placed 0) x.1.1.1 ∙ placed-⊕ 0 F (shift (length p) g)
            ∙ ap (λ (y : Forest). placed 0 F ⊕ y) (placed_shift 0 (length p) g ∙ ap (λ i. placed i g) (omega arith));
        holds =
            wider (length p) (length p + length b) (length p) (length (p ++ b)) (placed (length p) g) (omega arith)
            (omega (arith, length-append p b)) at_new;
        kinds = body_kinds b g (length p) (size (plain body b)) x.1.0;
        long = body_long b g (length p) (size (plain body b)) x.1.0;
      };
      joined = to_whole (valid_line q b vq (valid_behind p b h.good vb)) takes (sym here);
    }

-- THE THEOREM, of nodes: q, a newline and b is whole, with the nodes of q and then those that b had behind p
pub standing : (p q b : List ℕ) {k : ℕ} {F w v : Forest} → Head p F → length p + k ≡ length q + 1 → Whole q w → Whole (p ++ b) v
    → Stands p q b k (placed 0 F) w v
standing p q b h n x y = stands p q b h n x.good y.good (to_core x) (to_core y)

-- a source that p begins: the nodes of p, and those behind it
pub split : (p b : List ℕ) {F v : Forest} → Head p F → Whole (p ++ b) v → (x : Forest) × Whole (p ++ b) (placed 0 F ⊕ x)
split p b h y =
    let n = standing p (p ++ b) b {k = length b + 1} h (omega (arith, length-append p b)) y y in
    (n.new, rw (sym n.follows.is) y)
