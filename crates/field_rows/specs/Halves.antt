-- A field's description and its condition stand one behind the other.
use Prim.Native.Nat.{ℕ, ◌+◌, ◌≤◌, ◌<◌}
use Rattle.std.proofs.Common.{arith, subst, ◌∙◌}
use Rattle.std.specs.Prelude.{◌≡◌, List, Bool, true, false, drop}
use Rattle.std.proofs.Math.Path.{refl, ap, sym}
use Rattle.meaning.specs.Choice.{pick}
use Rattle.meaning.specs.Rules.{Rule}
use Rattle.meaning.specs.Peg.{Peg, seq, opt, after, run, bytewise, hit, taken}
use Rattle.meaning.specs.Forest.{Forest, nil, tree, ◌⊕◌, nodes}
use Rattle.meaning.specs.Walk.{following}
use Rattle.meaning.specs.Pdl.{text, ◌~◌, skip, constraint, field_desc, field}
use Rattle.grammar.specs.Hits.{hit_before, hit_behind, taken_after, taken_opt}
use Rattle.grammar.specs.Stars.{hit_pos}
use Rattle.grammar.specs.Nodes.{nodes_seq, nodes_opt, nodes_rule}
use Rattle.grammar.specs.Limits.{Limits, nodes_limits}
use Rattle.lexis.specs.Leaves.{skip_none}
use Rattle.spans.specs.declared.FieldDesc.{FieldDesc}
use Rattle.spans.specs.declared.FieldDesc.TheVariants.{Checksum, Padding, Size, Count, ElementSize, Body, Payload, FixedScalar, FixedEnum, Reserved, Array, Scalar, Typedef, Group}
use Rattle.spans.specs.declared.Matched.{Matched}
use Rattle.spans.specs.declared.Field.{Field}
use Rattle.spans.specs.Drawn.{draw_condition, draw_desc, draw_field}
use Rattle.spans.specs.Answers.{Fielded}

-- ---- a description draws one tree
pub following_desc : (o : ℕ) (t : List ℕ) (n : ℕ) (f : FieldDesc) (w : Forest) → following (draw_desc o t n f ⊕ w) ≡ w
following_desc o t n (Checksum id) w = refl
following_desc o t n (Padding size) w = refl
following_desc o t n (Size id width) w = refl
following_desc o t n (Count id width) w = refl
following_desc o t n (ElementSize id width) w = refl
following_desc o t n Body w = refl
following_desc o t n (Payload modifier) w = refl
following_desc o t n (FixedScalar value width) w = refl
following_desc o t n (FixedEnum tag type) w = refl
following_desc o t n (Reserved width) w = refl
following_desc o t n (Array id element size) w = refl
following_desc o t n (Scalar id width) w = refl
following_desc o t n (Typedef id type) w = refl
following_desc o t n (Group id constraints) w = refl

-- ---- the two halves of a text of n bytes at o
pub record Halves (o n : ℕ) (v w : Forest) : Type 0 where
  pub k : ℕ
  pub fits : k ≤ n
  pub first : Limits o (o + k) v
  pub second : Limits (o + k) (o + n) w
  pub some : (r : Rule) (s l : ℕ) (kids more : Forest) → w ≡ tree r s l kids more → k + 1 ≤ n

-- what a field is made of: its description, and blanks with the condition
abbrev tail : Peg
tail = seq skip (opt (text "if" ~ constraint))

abbrev clause : Peg
clause = text "if" ~ constraint

abbrev blankless : List ℕ → List ℕ
blankless u = drop (taken (run (bytewise skip) u)) u

-- where it leaves a node it takes a byte, as the condition does
tail_some : (j : ℕ) (u : List ℕ) (r : Rule) (s l : ℕ) (kids more : Forest) → hit (run (bytewise tail) u) ≡ true
    → nodes (bytewise tail) j u ≡ tree r s l kids more
    → 0 < taken (run (bytewise tail) u)
unfolding run
tail_some j u r s l kids more h e = go (hit (run (bytewise clause) (blankless u))) refl
  where
    drawn : nodes (bytewise tail) j u
        ≡ pick (hit (run (bytewise clause) (blankless u))) (nodes (bytewise clause) (j + taken (run (bytewise skip) u)) (blankless u)) nil
    drawn =
        nodes_seq (bytewise skip) (bytewise (opt clause)) j u (hit_before (run (bytewise skip) u) (λ x. run (bytewise (opt clause)) x) u h)
        (hit_behind (run (bytewise skip) u) (λ x. run (bytewise (opt clause)) x) u h)
        ∙ ap (λ (w : Forest). w ⊕ nodes (bytewise (opt clause)) (j + taken (run (bytewise skip) u)) (blankless u)) (skip_none j u)
        ∙ nodes_opt (bytewise clause) (j + taken (run (bytewise skip) u)) (blankless u)

    go : (b : Bool) → hit (run (bytewise clause) (blankless u)) ≡ b → 0 < taken (run (bytewise tail) u)
    go true i =
        let p : 0 < taken (run (bytewise clause) (blankless u)) = hit_pos (bytewise clause) (blankless u) refl i in
        let q : taken (run (bytewise tail) u) ≡ taken (run (bytewise skip) u) + taken (run (bytewise (opt clause)) (blankless u))
        = taken_after (run (bytewise skip) u) (λ x. run (bytewise (opt clause)) x) u h in
        omega (arith, p, q, taken_opt (bytewise clause) (blankless u))
    go false i =
        let z : tree r s l kids more ≡ nil
        = sym e ∙ drawn ∙ ap (λ (b : Bool). pick b (nodes (bytewise clause) (j + taken (run (bytewise skip) u)) (blankless u)) nil) i in
        absurd (let n : ◌≡◌ {A = ℕ} 0 1 = cc in omega arith)

abbrev cut : List ℕ → ℕ
cut t = taken (run (bytewise field_desc) t)

abbrev back : ℕ → List ℕ → Forest
back o t = nodes (bytewise tail) (o + cut t) (drop (cut t) t)

-- the match of the description, and of what follows it
module _ {t : List ℕ} {f : Matched Field} (d : Fielded t f) (h : hit f.at ≡ true) where
  both : hit (after (run (bytewise field_desc) t) (λ u. run (bytewise tail) u) t) ≡ true
  unfolding field run
  both = ap hit (sym d.drawn.reads.is) ∙ h

  front_hit : hit (run (bytewise field_desc) t) ≡ true
  front_hit = hit_before (run (bytewise field_desc) t) (λ u. run (bytewise tail) u) t both

  back_hit : hit (run (bytewise tail) (drop (cut t) t)) ≡ true
  back_hit = hit_behind (run (bytewise field_desc) t) (λ u. run (bytewise tail) u) t both

  pub desc_hit : hit f.value.desc.at ≡ true
  desc_hit = ap hit d.described.drawn.reads.is ∙ front_hit

  long : taken f.at ≡ cut t + taken (run (bytewise tail) (drop (cut t) t))
  unfolding field run
  long = ap taken d.drawn.reads.is ∙ taken_after (run (bytewise field_desc) t) (λ u. run (bytewise tail) u) t both

  -- the description's nodes are those that it draws, so the others are the condition's
  condition_is : (o : ℕ) → back o t ≡ draw_condition o f.value.condition
  unfolding field run
  condition_is o =
      let v : Forest = draw_desc o t (taken f.value.desc.at) f.value.desc.value in
      let l : ℕ = taken (run (bytewise (seq field_desc tail)) t) in
      let x : tree Rule.field o l (v ⊕ back o t) nil ≡ draw_field o t f
      = ap (λ (w : Forest). tree Rule.field o l (w ⊕ back o t) nil) (sym (d.described.drawn.draws desc_hit o))
      ∙ ap (λ (w : Forest). tree Rule.field o l w nil) (sym (nodes_seq (bytewise field_desc) (bytewise tail) o t front_hit back_hit))
      ∙ sym (nodes_rule Rule.field (bytewise (seq field_desc tail)) o t refl both) ∙ d.drawn.draws h o in
      let e : v ⊕ back o t ≡ v ⊕ draw_condition o f.value.condition = cc in
      sym (following_desc o t (taken f.value.desc.at) f.value.desc.value (back o t)) ∙ ap following e
      ∙ following_desc o t (taken f.value.desc.at) f.value.desc.value (draw_condition o f.value.condition)

  pub halves : (o : ℕ) → Halves o (taken f.at) (draw_desc o t (taken f.value.desc.at) f.value.desc.value) (draw_condition o f.value.condition)
  halves o =
      let i : o + cut t + taken (run (bytewise tail) (drop (cut t) t)) ≡ o + taken f.at = omega (arith, long) in
      record {
        k = cut t;
        fits = omega (arith, long);
        first = subst (Limits o (o + cut t)) (d.described.drawn.draws desc_hit o) (nodes_limits (bytewise field_desc) o t);
        second =
            subst (Limits (o + cut t) (o + taken f.at)) (condition_is o)
            (subst (λ (j : ℕ). Limits (o + cut t) j (back o t)) i (nodes_limits (bytewise tail) (o + cut t) (drop (cut t) t)));
        some = λ r s l kids more x. omega (arith, long, tail_some (o + cut t) (drop (cut t) t) r s l kids more back_hit (condition_is o ∙ x));
      }
