-- The head of a declaration: what its rows ask, and what they come to.
use Prim.Native.Nat.{ℕ, ◌+◌, ◌≤◌}
use native.Mathlib.Omega.{arith}
use mathlib.Core.Path.{◌≡◌, ap, subst, sym, ◌∙◌}
use mathlib.Core.List.{List, ◌++◌}
use mathlib.Core.Bool.{true}
use Rattle.std.specs.Prelude.{Option}
use Rattle.meaning.specs.Rules.{Rule}
use Rattle.meaning.specs.Peg.{hit, taken}
use Rattle.meaning.specs.Forest.{Forest, ◌⊕◌}
use Rattle.meaning.specs.Pdl.{constraint_list}
use Rattle.meaning.specs.Tables.{Table, Lent}
use Rattle.grammar.specs.Limits.{Limits, draws_limits, limits_left, limits_right}
use Rattle.spans.specs.declared.Matched.{Matched}
use Rattle.spans.specs.declared.Header.{Header}
use Rattle.spans.specs.Drawn.{draw_part, list_at}
use Rattle.walk.specs.declared.Number.{Number}
use Rattle.walk.specs.declared.Walk.{Walk}
use Rattle.walk.specs.State.{lend, same, after_number, Goes, Came}
use Rattle.walk.specs.Steps.{wrote_then, wrote_in, wrote_as, goes_then, goes_in, integer_goes}
use Rattle.walk.specs.Doors.{stood}
use Rattle.walk.specs.Terms.{part_number, integer_items, span_name, other_name}
use Rattle.walk.specs.Insides.{part_inside, wider_part}
use Rattle.constraint_rows.specs.OptionalLists.{part_items, Begun, GoesPart}
use Rattle.declaration_rows.specs.declared.heads.Headed.{Headed}
use Rattle.declaration_rows.specs.Kinds.{Shape, HeadOf}
use Rattle.declaration_rows.specs.Heads.{InsideHeader, HeadAt, GoesHead}

-- ---- the parts of a head lie inside its match
module _ (t : List ℕ) (z : Shape) (h : Matched Header) (d : HeadOf z t h) (e : hit h.at ≡ true) (o : ℕ) where
  abbrev list : Forest
  list = list_at constraint_list o t h.value.constraints

  abbrev hi : ℕ
  hi = o + taken h.at

  limits_parts : Limits o hi
      (draw_part Rule.identifier o h.value.parent ⊕ draw_part Rule.integer o h.value.width ⊕ draw_part Rule.string o h.value.function ⊕ list)
  limits_parts = (draws_limits d.drawn e o).1.1.1.1.1.1

  limits_width : Limits o hi (draw_part Rule.integer o h.value.width ⊕ draw_part Rule.string o h.value.function ⊕ list)
  limits_width = limits_right o hi (draw_part Rule.identifier o h.value.parent) _ limits_parts

  limits_function : Limits o hi (draw_part Rule.string o h.value.function ⊕ list)
  limits_function = limits_right o hi (draw_part Rule.integer o h.value.width) _ limits_width

  pub limits_list : Limits o hi list
  limits_list = limits_right o hi (draw_part Rule.string o h.value.function) _ limits_function

  pub head_inside : (n : ℕ) → taken h.at ≤ n → InsideHeader n h.value
  head_inside n k =
      let i : o + h.value.id.start + h.value.id.len ≤ hi = (draws_limits d.drawn e o).1.1.1.1.0 in
      record {
        id = omega (arith, i, k);
        parent =
            wider_part _ n h.value.parent k
            (part_inside Rule.identifier o _ h.value.parent (limits_left o hi (draw_part Rule.identifier o h.value.parent) _ limits_parts));
        width =
            wider_part _ n h.value.width k
            (part_inside Rule.integer o _ h.value.width (limits_left o hi (draw_part Rule.integer o h.value.width) _ limits_width));
        function =
            wider_part _ n h.value.function k (part_inside Rule.string o _ h.value.function
            (limits_left o hi (draw_part Rule.string o h.value.function) _ limits_function));
      }

-- ---- the walk comes to the head as a, and notes its width v as m
module _ {src : List ℕ} {at : ℕ} {h : Matched Header} {n : Walk} (w : HeadAt src at h n) where
  module _ {a : Walk} (ca : Came src at n a) {v : Option Number} {m : Walk} (ev : v ≡ part_number src at h.value.width)
      (em : m ≡ after_number v a) where
    noting : (f : Lent → Lent) → Goes (integer_items v) src at n m f f
    noting f = goes_then (goes_in f ca.goes) (integer_goes v f em ca.goes.at)

    pub list_ready : Begun src at h.value.constraints m
    list_ready = record { came = (noting same).at; list = w.stands }

    pub head_done : {r : Headed} {c c' : List ℕ} → GoesPart src at h.value.constraints m r.walk (lend Table.constraints c) (lend Table.constraints c')
        → r.start ≡ a.here → r.id ≡ span_name at h.value.id → r.other ≡ other_name at h.value.parent h.value.function → r.width ≡ v
        → GoesHead src at h n r (lend Table.constraints c) (lend Table.constraints c')
    head_done {r} {c} {c'} g es ei eo ew =
        record {
          wrote =
              wrote_as (ap (λ (x : Option Number). integer_items x ++ part_items src at h.value.constraints) ev)
              (wrote_then (noting (lend Table.constraints c)).wrote g.wrote);
          came = g.came at (at + taken h.at) (omega arith) w.ends w.list;
          start = λ e. es ∙ stood ca e;
          id = ei;
          other = eo;
          width = ew ∙ ev;
        }

-- ---- with more tables lent
pub head_in : {src : List ℕ} {at : ℕ} {h : Matched Header} {n : Walk} {r : Headed} {a b : Lent → Lent} (f : Lent → Lent) → GoesHead src at h n r a b
    → GoesHead src at h n r (λ l. a (f l)) (λ l. b (f l))
head_in f g = record { wrote = wrote_in f g.wrote; came = g.came; start = g.start; id = g.id; other = g.other; width = g.width }
