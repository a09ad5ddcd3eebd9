-- What a pass yields over a match: the comments of the match's forest, and then what it yields from there. Once for each form
-- of expression, over any pass.
use Prim.Native.Nat.{ℕ, zero, suc, ◌+◌}
use Rattle.std.proofs.Common.{arith, ap, sym, ◌∙◌, append-nil, append_assoc, drop-drop}
use Rattle.std.proofs.Math.Nat.{add-zero}
use Rattle.std.specs.Prelude.{◌≡◌, refl, List, [], ◌++◌, Bool, false, drop}
use Rattle.meaning.specs.Choice.{pick}
use Rattle.meaning.specs.Rules.{Rule, is}
use Rattle.meaning.specs.Forest.{Forest, nil, tree, ◌⊕◌, Out, missed, took, join_o, after_o, or_else_o, maybe_o, turned_o, hushed_o, again_o, note_o, many_o}
use Rattle.meaning.specs.Tables.{Item}
use Rattle.meaning.specs.Walk.{comment_row, comments}

comments-⊕ : (src : List ℕ) (v w : Forest) → comments src (v ⊕ w) ≡ comments src v ++ comments src w
unfolding comments
comments-⊕ src nil w = refl
comments-⊕ src (tree r s l k more) w =
    rw (comments-⊕ src more w) (sym (append_assoc (pick (is Rule.COMMENT r) (comment_row src s l) [] ++ comments src k) (comments src more) (comments src w)))

pub comments_node : (src : List ℕ) (r : Rule) (o n : ℕ) (w : Forest)
    → comments src (tree r o n w nil) ≡ pick (is Rule.COMMENT r) (comment_row src o n) [] ++ comments src w
unfolding comments
comments_node src r o n w = append-nil (pick (is Rule.COMMENT r) (comment_row src o n) [] ++ comments src w)

-- pass o t is what the pass yields over the text t at offset o
abbrev pub Yields : List ℕ → (ℕ → List ℕ → List Item) → Out → ℕ → List ℕ → Type 0
Yields src pass (missed f) o t = Unit {0}
Yields src pass (took n f w) o t = pass o t ≡ comments src w ++ pass (o + n) (drop n t)

module _ (src : List ℕ) (pass : ℕ → List ℕ → List Item) where
  pub yields_nil : (o f : ℕ) (t : List ℕ) → Yields src pass (took 0 f nil) o t
  unfolding comments
  yields_nil o f t = rw add-zero

  yields_join : (n f : ℕ) (w : Forest) (x : Out) (o : ℕ) (t : List ℕ) → pass o t ≡ comments src w ++ pass (o + n) (drop n t)
      → Yields src pass x (o + n) (drop n t)
      → Yields src pass (join_o n f w x) o t
  yields_join n f w (missed g) o t e h = tt
  yields_join n f w (took k g v) o t e h =
      let a : o + n + k ≡ o + (n + k) = omega arith in
      let h' = rw (drop-drop, a) at h in
      e ∙ rw (h', comments-⊕) (sym (append_assoc (comments src w) (comments src v) (pass (o + (n + k)) (drop (n + k) t))))

  pub yields_after : (x : Out) (p : ℕ → List ℕ → Out) (o : ℕ) (t : List ℕ) → Yields src pass x o t
      → ((i : ℕ) (u : List ℕ) → Yields src pass (p i u) i u) → Yields src pass (after_o x p o t) o t
  yields_after (missed f) p o t e h = tt
  yields_after (took n f w) p o t e h = yields_join n f w (p (o + n) (drop n t)) o t e (h (o + n) (drop n t))

  yields_again : (x : Out) (p : ℕ → List ℕ → Out) (o : ℕ) (t : List ℕ) → Yields src pass x o t → ((i : ℕ) (u : List ℕ) → Yields src pass (p i u) i u)
      → Yields src pass (again_o x p o t) o t
  yields_again (missed f) p o t e h = yields_nil o f t
  yields_again (took n f w) p o t e h = yields_join n f w (p (o + n) (drop n t)) o t e (h (o + n) (drop n t))

  pub yields_many : (k : ℕ) (p : ℕ → List ℕ → Out) (o : ℕ) (t : List ℕ) → ((i : ℕ) (u : List ℕ) → Yields src pass (p i u) i u)
      → Yields src pass (many_o k p o t) o t
  unfolding many_o
  yields_many zero p o t h = yields_nil o 0 t
  yields_many (suc k) p o t h = yields_again (p o t) (λ i u. many_o k p i u) o t (h o t) (λ i u. yields_many k p i u h)

  pub yields_or_else : (x : Out) (p : ℕ → List ℕ → Out) (o : ℕ) (t : List ℕ) → Yields src pass x o t → Yields src pass (p o t) o t
      → Yields src pass (or_else_o x p o t) o t
  yields_or_else (missed f) p o t e h = yields_join 0 f nil (p o t) o t (yields_nil o f t) (let z : o + 0 ≡ o = add-zero o in rw z h)
  yields_or_else (took n f w) p o t e h = e

  pub yields_maybe : (x : Out) (o : ℕ) (t : List ℕ) → Yields src pass x o t → Yields src pass (maybe_o x) o t
  yields_maybe (missed f) o t e = yields_nil o f t
  yields_maybe (took n f w) o t e = e

  pub yields_turned : (x : Out) (o : ℕ) (t : List ℕ) → Yields src pass (turned_o x) o t
  yields_turned (missed f) o t = yields_nil o 0 t
  yields_turned (took n f w) o t = tt

  pub yields_hushed : (x : Out) (o : ℕ) (t : List ℕ) → Yields src pass x o t → Yields src pass (hushed_o x) o t
  yields_hushed (missed f) o t e = tt
  yields_hushed (took n f w) o t e = e

  pub yields_note : (r : Rule) (x : Out) (o : ℕ) (t : List ℕ) → is Rule.COMMENT r ≡ false → Yields src pass x o t → Yields src pass (note_o r o x) o t
  yields_note r (missed f) o t q e = tt
  yields_note r (took n f w) o t q e =
      e
      ∙ ap (λ (xs : List Item). xs ++ pass (o + n) (drop n t))
      (sym (comments_node src r o n w ∙ ap (λ (b : Bool). pick b (comment_row src o n) [] ++ comments src w) q))
