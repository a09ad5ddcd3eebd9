-- The laws of walking over all declarations, turn by turn.
use Rattle.std.specs.Prelude.{ℕ, zero, suc, ◌+◌, ◌-◌, ◌≤◌, ◌<◌, ◌≡◌, refl, true, length, drop}
use Rattle.std.proofs.Common.{arith, subst, sym, ◌∙◌}
use Rattle.std.proofs.Math.Path.{ap}
use mathlib.Core.List.{List, [], ◌++◌, append-nil, append_assoc}
use Rattle.meaning.specs.Peg.{run, bytewise, hit, taken}
use Rattle.meaning.specs.Forest.{Forest, nil, tree, ◌⊕◌, nodes}
use Rattle.meaning.specs.Pdl.{skip, declaration}
use Rattle.meaning.specs.Tables.{Item, Lent}
use Rattle.meaning.specs.Walk.{node, kinds, kind_in, parse_declaration, parse_kind, parse_toplevel}
use Rattle.lexis.specs.Skips.{Skips, skips}
use Rattle.walk.specs.declared.Walk.{Walk}
use Rattle.walk.specs.declared.Walked.{Walked}
use Rattle.walk.specs.State.{Wrote, At}
use Rattle.walk.specs.Steps.{wrote_none, wrote_then, wrote_as, tallied_then, at_on}
use Rattle.declaration_rows.specs.Declarations.{takes_byte, one_items, Ready, GoesOne}
use Rattle.declaration_rows.specs.Braces.{past_blanks, past_within}
use Rattle.declaration_rows.specs.Lists.{rest, last, Reaches, Begun, GoesAll}
use Rattle.declaration_rows.specs.NextLaws.{no_more, one_more, last_more, at_end_lem, before_end}

-- a declaration's items do not depend on what follows it
same_kind : (src : List ℕ) (xs : List Item) (n s l : ℕ) (kids v w : Forest) → parse_kind src xs n (node s l kids v) ≡ parse_kind src xs n (node s l kids w)
unfolding parse_declaration
same_kind src xs zero s l kids v w = refl
same_kind src xs (suc n) s l kids v w = refl

-- the walk over two forests, one after the other
pub toplevel-⊕ : (src : List ℕ) (xs : List Item) (v w : Forest)
    → parse_toplevel src xs (v ⊕ w) ≡ parse_toplevel src xs v ++ parse_toplevel src (xs ++ parse_toplevel src xs v) w
unfolding parse_toplevel
toplevel-⊕ src xs nil w = ap (λ (ys : List Item). parse_toplevel src ys w) (sym (append-nil xs))
toplevel-⊕ src xs (tree r s l k more) w =
    let ys : List Item = parse_kind src xs (kind_in kinds r 1) (node s l k more) in
    ap (λ (zs : List Item). zs ++ parse_toplevel src (xs ++ zs) (more ⊕ w)) (same_kind src xs (kind_in kinds r 1) s l k (more ⊕ w) more)
    ∙ go ys (toplevel-⊕ src (xs ++ ys) more w)
  where
    go : (ys : List Item) → parse_toplevel src (xs ++ ys) (more ⊕ w) ≡ parse_toplevel src (xs ++ ys) more ++ parse_toplevel src
        (xs ++ ys ++ parse_toplevel src (xs ++ ys) more) w
        → ys ++ parse_toplevel src (xs ++ ys) (more ⊕ w) ≡ ys ++ parse_toplevel src (xs ++ ys) more ++ parse_toplevel src
        (xs ++ (ys ++ parse_toplevel src (xs ++ ys) more)) w
    go ys e =
        ap (λ (zs : List Item). ys ++ zs) e
        ∙ sym (append_assoc ys (parse_toplevel src (xs ++ ys) more) _)
        ∙ ap (λ (zs : List Item). ys ++ parse_toplevel src (xs ++ ys) more ++ parse_toplevel src zs w) (append_assoc xs ys (parse_toplevel src (xs ++ ys) more))

-- the walk has come to i: what it has done of the declarations behind j, and what is left
pub record Turning (src : List ℕ) (j : ℕ) (n : Walk) (a : Lent → Lent) (i : ℕ) (m : Walk) (b : Lent → Lent) : Type 0 where
  pub came : At src i m
  pub reaches : Reaches src i
  pub so_far : List Item
  pub wrote : Wrote so_far n m a b
  pub left : parse_toplevel src [] (rest src j) ≡ so_far ++ parse_toplevel src so_far (rest src i)

-- and stands behind the blanks there
pub record Standing (src : List ℕ) (j : ℕ) (n : Walk) (a : Lent → Lent) (at : ℕ) (m : Walk) (b : Lent → Lent) : Type 0 where
  pub from : ℕ
  pub turning : Turning src j n a from m b
  pub is : at ≡ past_blanks src from

pub turn_start : {src : List ℕ} {j at : ℕ} {n : Walk} (a : Lent → Lent) → Begun src j n → at ≡ past_blanks src j → Standing src j n a at n a
turn_start {j = j} {n = n} a w e =
    record { from = j; turning = record { came = w.came; reaches = w.reaches; so_far = []; wrote = wrote_none n a; left = refl }; is = e }

module _ {src : List ℕ} {j : ℕ} {n : Walk} (s : Begun src j n) {a : Lent → Lent} {at : ℕ} {m : Walk} {b : Lent → Lent} (v : Standing src j n a at m b) where
  abbrev w : Turning src j n a v.from m b
  w = v.turning

  sk : Skips (drop v.from src) (taken (run (bytewise skip) (drop v.from src)))
  sk = skips (drop v.from src)

  pub stand_in : at ≤ length src
  stand_in = omega (arith, v.is, past_within src v.from w.came.within)

  pub turn_done : length src ≤ at → GoesAll src j n m a b
  unfolding parse_toplevel
  turn_done h =
      let e : past_blanks src v.from ≡ length src = omega (arith, stand_in, v.is, h) in
      let z : rest src v.from ≡ nil = no_more src v.from _ sk (at_end_lem src v.from _ sk w.came.within e) in
      record { wrote = wrote_as (sym (w.left ∙ ap (λ (u : Forest). w.so_far ++ parse_toplevel src w.so_far u) z ∙ append-nil _)) w.wrote }

  module _ (h : at < length src) where
    hits : hit (run (bytewise declaration) (drop (past_blanks src v.from) src)) ≡ true
    hits = before_end src v.from _ sk w.reaches (λ (e : past_blanks src v.from ≡ length src). omega (arith, v.is, h, e))

    pub turn_ready : Ready src at m
    turn_ready =
        record {
          came = at_on (omega (arith, v.is)) stand_in w.came;
          hits = ap (λ (i : ℕ). hit (run (bytewise declaration) (drop i src))) v.is ∙ hits;
        }

    module _ {r : Walked} {c : Lent → Lent} (g : GoesOne src at m r b c) {at' : ℕ} (e : at' ≡ past_blanks src r.end) where
      pub turn_less : length src - at' < length src - at
      turn_less = omega (arith, h, e, g.ends, takes_byte (drop at src) turn_ready.hits)

      o : GoesOne src (past_blanks src v.from) m r b c
      o = subst (λ (i : ℕ). GoesOne src i m r b c) v.is g

      pub turn_more : Standing src j n a at' r.walk c
      turn_more =
          let i : ℕ = past_blanks src v.from in
          let ys : List Item = one_items src i w.so_far in
          record {
            from = r.end;
            turning = record {
              came = o.came;
              reaches =
                  subst (λ (l : ℕ). l + taken (run (bytewise skip) (drop l src)) ≡ length src)
                  (last_more src v.from _ sk hits ∙ ap (last src) (sym o.ends)) w.reaches;
              so_far = w.so_far ++ ys;
              wrote = wrote_then w.wrote (o.wrote w.so_far (tallied_then s.nothing w.wrote));
              left =
                  w.left
                  ∙ ap (λ (u : Forest). w.so_far ++ parse_toplevel src w.so_far u)
                  (one_more src v.from _ sk hits ∙ ap (λ (l : ℕ). nodes (bytewise declaration) i (drop i src) ⊕ rest src l) (sym o.ends))
                  ∙ ap (λ (zs : List Item). w.so_far ++ zs) (toplevel-⊕ src w.so_far (nodes (bytewise declaration) i (drop i src)) (rest src r.end))
                  ∙ sym (append_assoc w.so_far ys _);
            };
            is = e;
          }
