-- A source whose file rule matches, and its nodes: those before the end, and the end. The full meaning of `file` and the plain
-- one of its core say the same.
use Rattle.std.specs.Prelude.{◌≡◌, refl, Bool, true, false, List, [], ◌∷◌, ℕ, ◌+◌, length, drop}
use Rattle.std.proofs.Common.{sym, ap, ap₂, ◌∙◌, subst, arith}
use Rattle.meaning.specs.Utf8.{valid}
use Rattle.meaning.specs.Rules.{Rule}
use Rattle.meaning.specs.Peg.{Peg, end, seq, hit}
use Rattle.meaning.specs.Forest.{Forest, nil, tree, ◌⊕◌, clean, outcome, eval, Out as Full, missed as failed, took as held}
use Rattle.meaning.specs.Pdl.{skip, EOI, file, rules}
use Rattle.grammar.specs.Bytewise.{file_joined}
use Rattle.grammar.specs.Nodes.{⊕-assoc}
use Rattle.grammar.specs.Limits.{Limits}
use Rattle.locality.specs.Plain.{Out, missed, took, shift, after, seq_e, rule_e, plain}
use Rattle.locality.specs.Holding.{allowed}
use Rattle.locality.specs.Least.{least}
use Rattle.locality.specs.PlainLaws.{shift-⊕}
use Rattle.locality.specs.Likeness.{placed, placed-⊕, Like, steady, alike}
use Rattle.grammar.specs.Limits.{wider}
use Rattle.locality.specs.Insides.{inside}
use Rattle.locality.specs.Closings.{Final, end_final, seq_final}
use Rattle.standing.specs.Sources.{before, core}
use Rattle.standing.specs.Names.{every}
use Rattle.standing.specs.Kinds.{Kinded, kinds_of}
use Rattle.standing.specs.CommentLengths.{Long, longs}

-- ---- the end's node
abbrev pub eoi : ℕ → Forest
eoi n = tree Rule.EOI n 0 nil nil

abbrev closed : Out → Out
closed missed = missed
closed (took n f) = took n (f ⊕ eoi n)

after_closed : (n : ℕ) (f : Forest) (o : Out) → after n f (closed o) ≡ closed (after n f o)
after_closed n f missed = refl
after_closed n f (took m g) = ap (took (n + m)) (ap (λ (x : Forest). f ⊕ x) (shift-⊕ n g (eoi m)) ∙ sym (⊕-assoc f (shift n g) (eoi (n + m))))

seq_closed : (a b c : Peg) → ((s : List ℕ) → plain b s ≡ closed (plain c s)) → (s : List ℕ) → plain (seq a b) s ≡ closed (plain (seq a c) s)
unfolding plain
seq_closed a b c h s = go (plain a s)
  where
    go : (o : Out) → seq_e o (λ n. plain b (drop n s)) ≡ closed (seq_e o (λ n. plain c (drop n s)))
    go missed = refl
    go (took n f) = ap (after n f) (h (drop n s)) ∙ after_closed n f (plain c (drop n s))

end_closed : (s : List ℕ) → plain EOI s ≡ closed (plain end s)
unfolding plain EOI
end_closed [] = refl
end_closed (x ∷ s) = refl

is_steady : steady file ≡ true
unfolding rules steady
is_steady = refl

file_is : (s : List ℕ) → plain file s ≡ rule_e Rule.file (closed (plain core s))
unfolding plain file
file_is s = ap (rule_e Rule.file) (seq_closed before (seq skip EOI) (seq skip end) (seq_closed skip EOI end end_closed) s)

core_final : (s : List ℕ) → Final s (plain core s)
core_final = seq_final before _ (seq_final skip end end_final)

-- ---- the source and its nodes before the end; some mark
pub record Whole (s : List ℕ) (w : Forest) : Type 0 where
  pub good : valid s ≡ length s
  pub mark : ℕ
  pub is : eval file 0 s ≡ held (length s) mark (tree Rule.file 0 (length s) (w ⊕ eoi (length s)) nil)

-- the plain meaning of such a source
pub record Core (s : List ℕ) (w : Forest) : Type 0 where
  pub bare : Forest
  pub takes : plain core s ≡ took (length s) bare
  pub places : w ≡ placed 0 bare
  pub holds : Limits 0 (length s) w
  pub kinds : Kinded (clean w)
  pub long : Long w

full : (s : List ℕ) (F : Forest) → valid s ≡ length s → plain core s ≡ took (length s) F → Whole s (placed 0 F)
full s F v e = go (eval file 0 s) refl (subst (λ (x : Full). Like 0 x (plain file s)) (file_joined 0 s v) (alike file is_steady 0 s))
  where
    here : 0 + length s ≡ length s
    here = omega arith

    whole_file : plain file s ≡ took (length s) (tree Rule.file 0 (length s) (F ⊕ eoi (length s)) nil)
    whole_file = file_is s ∙ ap (λ o. rule_e Rule.file (closed o)) e

    go : (x : Full) → eval file 0 s ≡ x → Like 0 x (plain file s) → Whole s (placed 0 F)
    go (failed f) q h = absurd (subst (Like 0 (failed f)) whole_file h)
    go (held n f w) q h =
        let k = subst (Like 0 (held n f w)) whole_file h in
        record {
          good = v;
          mark = f;
          is =
              q ∙ ap₂ (λ (a : ℕ) (b : Forest). held a f b) k.0
              (k.1 ∙ ap (λ c. tree Rule.file 0 (length s) c nil) (placed-⊕ 0 F (eoi (length s)) ∙ ap (λ i. placed 0 F ⊕ eoi i) here));
        }

-- a node less at the end
abbrev front : Forest → Forest
front nil = nil
front (tree r s l k nil) = nil
front (tree r s l k (tree r' s' l' k' more)) = tree r s l k (front (tree r' s' l' k' more))

front_is : (w : Forest) (n : ℕ) → front (w ⊕ eoi n) ≡ w
front_is nil n = refl
front_is (tree r s l k nil) n = refl
front_is (tree r s l k (tree r' s' l' k' more)) n = ap (tree r s l k) (front_is (tree r' s' l' k' more) n)

abbrev nodes_of : Full → Forest
nodes_of (failed f) = nil
nodes_of (held n f nil) = nil
nodes_of (held n f (tree r s l k more)) = k

pub to_whole : {s : List ℕ} {w F : Forest} → valid s ≡ length s → plain core s ≡ took (length s) F → w ≡ placed 0 F → Whole s w
to_whole {s} {w} {F} v e p = subst (Whole s) (sym p) (full s F v e)

-- a source that the file rule matches is whole, and so are its nodes
core_of : (s : List ℕ) → hit (outcome (eval file 0 s)) ≡ true → valid s ≡ length s → (F : Forest) × (plain core s ≡ took (length s) F)
core_of s h v = go (plain core s) refl (core_final s) (subst (λ (x : Full). Like 0 x (plain file s)) (file_joined 0 s v) (alike file is_steady 0 s))
  where
    hits : (x : Full) → hit (outcome x) ≡ true → Like 0 x missed → ⊥
    hits (failed f) e q = subst T e tt
      where
        T : Bool → Type 0
        T true = ⊥
        T false = Unit {0}
    hits (held n f w) e q = q

    go : (o : Out) → plain core s ≡ o → Final s o → Like 0 (eval file 0 s) (plain file s) → (F : Forest) × (plain core s ≡ took (length s) F)
    go missed e d k = absurd (hits (eval file 0 s) h (subst (Like 0 (eval file 0 s)) (file_is s ∙ ap (λ o. rule_e Rule.file (closed o)) e) k))
    go (took n F) e d k = (F, e ∙ ap (λ m. took m F) d)

core_inside : (s : List ℕ) (F : Forest) → plain core s ≡ took (length s) F → Limits 0 (length s) (placed 0 F)
core_inside s F e = wider 0 (0 + length s) 0 (length s) (placed 0 F) (omega arith) (omega arith) (inside core s (length s) F e 0)

core_kinds : (s : List ℕ) (F : Forest) → plain core s ≡ took (length s) F → Kinded (clean (placed 0 F))
unfolding allowed every rules
core_kinds s F e = kinds_of core refl s (length s) F e 0

core_long : (s : List ℕ) (F : Forest) → plain core s ≡ took (length s) F → Long (placed 0 F)
unfolding allowed least rules
core_long s F e = longs core refl s (length s) F e 0

pub whole_of : (s : List ℕ) → valid s ≡ length s → hit (outcome (eval file 0 s)) ≡ true → (w : Forest) × Whole s w
whole_of s v h = let x = core_of s h v in (placed 0 x.0, full s x.0 v x.1)

pub to_core : {s : List ℕ} {w : Forest} → Whole s w → Core s w
to_core {s} {w} h =
    let x = core_of s (ap (λ y. hit (outcome y)) h.is) h.good in
    let y = full s x.0 h.good x.1 in
    let p : w ≡ placed 0 x.0 =
    sym (front_is w (length s)) ∙ ap (λ (z : Full). front (nodes_of z)) (sym h.is ∙ y.is) ∙ front_is (placed 0 x.0) (length s) in
    record {
      bare = x.0;
      takes = x.1;
      places = p;
      holds = rw p (core_inside s x.0 x.1);
      kinds = rw p (core_kinds s x.0 x.1);
      long = rw p
          (core_long s x.0 x.1);
    }
