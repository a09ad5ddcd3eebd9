-- What the walk's small functions return, one law for each way out.
use Rattle.std.specs.Prelude.{Option}
use Prim.Native.Nat.{ℕ, zero, suc, ◌+◌, ◌-◌, ◌≤◌, ◌<◌}
use native.Mathlib.Omega.{arith}
use mathlib.Core.Path.{◌≡◌, refl, ap, subst, sym, ◌∙◌}
use mathlib.Core.List.{List, [], ◌∷◌}
use borrow.Author.Tests.{eq-eqb, ne_eqb}
use lib.ListN.{length, get_or, set, take, drop, length-set}
use lib.Seq.{get_or-set_same, get_or-set_other}
use Rattle.meaning.specs.declared.Match.{Match}
use Rattle.meaning.specs.declared.Match.TheVariants.{Took}
use Rattle.meaning.specs.Peg.{taken}
use Rattle.grammar.specs.Matching.{Reads}
use Rattle.grammar.specs.Steps.{at}
use Rattle.grammar.specs.Limits.{took_inside}
use Rattle.spans.specs.declared.Span.{Span}
use Rattle.spans.specs.declared.Operand.{Operand}
use Rattle.spans.specs.declared.ArraySize.{ArraySize}
use Rattle.spans.specs.declared.Target.{Target}
use Rattle.walk.specs.declared.Walk.{Walk}
use Rattle.walk.specs.declared.Unconverted.{Unconverted}
use Rattle.walk.specs.declared.Name.{Name}
use Rattle.meaning.specs.declared.SourceLocation.{SourceLocation}
use Rattle.meaning.specs.Places.{place_at}
use Rattle.meaning.specs.Tables.{first_of}
use Rattle.walk.specs.declared.Door.{Door}
use Rattle.walk.specs.declared.Door.TheVariants.{Count, Write}
use Rattle.walk.specs.State.{worse, after_integer, left, Wrote, Near, Stands, At, same, Came, Knows, Put}
use Rattle.walk.specs.Steps.{wrote_none, goes_none}
use Rattle.walk.specs.Turns.{comma}
use Rattle.walk.specs.Nexts.{Turned, next_from}
use Rattle.walk.specs.Ready.{offset_of}
use Rattle.walk.specs.Terms.{unquoted_name, InsidePart, InsideOperand, InsideSize, InsideTarget}

-- ---- integers
pub part_is : (src : List ℕ) (o n : ℕ) → take (o + n - o) (drop o src) ≡ take n (drop o src)
part_is src o n = let e : o + n - o ≡ n = omega arith in ap (λ (k : ℕ). take k (drop o src)) e

-- ---- the turn behind an item: l bytes are its own, and k is the comma
module _ (src : List ℕ) (i : ℕ) (m : Match) (w : i + taken m ≤ length src) {l : ℕ} (el : l ≡ taken m) {k : Match}
    (r : Reads comma (take (length src - (i + l)) (drop (i + l) src)) k) where
  pub comma_in : {n f : ℕ} → k ≡ Took n f → i + l + n ≤ length src
  comma_in q = omega (arith, el, took_inside src (i + l) (omega (arith, el, w)) (at (i + l) src r), ap taken q)

  turned_to : Turned src i m (record { end = i + l; next = next_from (i + l) k })
  turned_to = record { end = ap (λ (y : ℕ). i + y) el; next = ap (next_from (i + l)) (at (i + l) src r).is }

  pub turned : {k' : Match} → k ≡ k' → Turned src i m (record { end = i + l; next = next_from (i + l) k' })
  turned q = subst (λ (y : Match). Turned src i m (record { end = i + l; next = next_from (i + l) y })) q turned_to

-- ---- noting
module _ (n : Walk) (x : Unconverted) where
  pub note_late : (n.bad.reason ≡ 0 → ⊥) → n ≡ after_integer x.place x.reason n
  unfolding worse
  note_late h = rw (ne_eqb n.bad.reason 0 h)

  pub note_good : n.bad.reason ≡ 0 → x.reason ≡ 0 → n ≡ after_integer x.place x.reason n
  unfolding worse
  note_good h k = rw (eq-eqb n.bad.reason 0 h, eq-eqb x.reason 0 k)

  pub note_bad : n.bad.reason ≡ 0 → (x.reason ≡ 0 → ⊥)
      → ◌≡◌ {A = Walk} (record { door = n.door; counts = n.counts; bad = x; here = n.here }) (after_integer x.place x.reason n)
  unfolding worse
  note_bad h k = rw (eq-eqb n.bad.reason 0 h, ne_eqb x.reason 0 k)

-- ---- parts, by their cases
module _ (n : ℕ) where
  pub inside_operand : {x y : Operand} → x ≡ y → InsideOperand n x → InsideOperand n y
  inside_operand e h = subst (λ (z : Operand). InsideOperand n z) e h

  pub inside_size : {x y : ArraySize} → x ≡ y → InsideSize n x → InsideSize n y
  inside_size e h = subst (λ (z : ArraySize). InsideSize n z) e h

  pub inside_part : {x y : Option Span} → x ≡ y → InsidePart n x → InsidePart n y
  inside_part e h = subst (λ (z : Option Span). InsidePart n z) e h

  pub inside_target : {x y : Target} → x ≡ y → InsideTarget n x → InsideTarget n y
  inside_target e h = subst (λ (z : Target). InsideTarget n z) e h

-- less than two quotes leave nothing between them
pub unquoted_short : (o : ℕ) (x : Span) → x.len < 2 → ◌≡◌ {A = Name} (record { offset = o + x.start + 1; len = 0 }) (unquoted_name o x)
unquoted_short o x h = let e : 0 ≡ x.len - 2 = omega arith in ap (λ (k : ℕ). record { offset = o + x.start + 1; len = k }) e

-- ---- words of a row
pub first_some : (k n : ℕ) → (n ≡ 0 → ⊥) → k ≡ first_of k n
first_some k zero h = absurd (h refl)
first_some k (suc n) h = refl

-- ---- the door
pub put_door : {n : Walk} {k : ℕ} {ws t u : List ℕ} → Knows n k → k < 5 → u ≡ left n.door (length ws) (get_or n.counts k 0) (ws ∷ []) t
    → Put k ws n (record { door = n.door; counts = set n.counts k (get_or n.counts k 0 + 1); bad = n.bad; here = n.here }) t u
put_door {n} {k} w l h =
    record {
      door = refl;
      here = refl;
      bad = refl;
      sized = length-set n.counts k (get_or n.counts k 0 + 1) ∙ w.sized;
      same = λ j e. get_or-set_other n.counts k j (get_or n.counts k 0 + 1) 0 e;
      one = get_or-set_same n.counts k (get_or n.counts k 0 + 1) 0 (omega (arith, w.sized, l));
      words = h;
    }

-- ---- a step to another offset
pub stay : {src : List ℕ} {k : ℕ} {n : Walk} → n.door ≡ Count → At src k n → Came src k n n
unfolding Stands
stay {src} {k} {n} e h = record { goes = goes_none same h; stands = subst (λ (d : Door). Stands d src k n.here) (sym e) tt }

pub ready_to : {src : List ℕ} {k : ℕ} {n : Walk} → n.door ≡ Write → At src k n
    → (n.here ≡ place_at src n.here.offset) × ((n.here.offset ≤ k) × (k ≤ length src))
unfolding Near
ready_to {src} {k} {n} e h = let g = subst (λ (d : Door). Near d src k n.here) e h.near in (g.0, (g.1, h.within))

pub moved_to : {src : List ℕ} {k : ℕ} {n : Walk} {p : SourceLocation} → n.door ≡ Write → At src k n → p ≡ place_at src k
    → Came src k n (record { door = n.door; counts = n.counts; bad = n.bad; here = p })
unfolding Near Stands
moved_to {src} {k} {n} {p} e h q =
    record {
      goes =
          record {
            wrote = record { door = refl; sized = refl; counts = w.counts; bad = w.bad; words = w.words };
            at =
                record {
                  within = h.within;
                  sized = h.sized;
                  few = h.few;
                  near = subst (λ (d : Door). Near d src k p) (sym e) (q ∙ ap (place_at src) (sym o), omega (arith, o));
                };
          };
      stands = subst (λ (d : Door). Stands d src k p) (sym e) q;
    }
  where
    w : Wrote [] n n same same
    w = wrote_none n same

    o : p.offset ≡ k
    o = offset_of src k p q h.within
