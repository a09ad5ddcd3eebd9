-- What the functions over constraints ask of their callees, and what they come to.
use Rattle.std.specs.Prelude.{Option, None, Some}
use Prim.Native.Nat.{ℕ, ◌+◌, ◌-◌, ◌^◌, ◌≤◌, ◌<◌}
use native.Mathlib.Omega.{arith}
use mathlib.Core.Path.{◌≡◌, ap, subst, sym, ◌∙◌}
use mathlib.Core.List.{List, [], ◌∷◌, ◌++◌}
use lib.ListN.{length, take, drop}
use Rattle.meaning.specs.Peg.{taken}
use Rattle.meaning.specs.Pdl.{constraint_list}
use Rattle.meaning.specs.Walk.{parse_constraint_list}
use Rattle.meaning.specs.Rows.{place_words, constraint_words}
use Rattle.spans.specs.declared.Span.{Span}
use Rattle.spans.specs.Answers.{Constrained, MatchedList, MatchedPart}
use Rattle.grammar.specs.Limits.{draws_limits, took_inside}
use Rattle.meaning.specs.Tables.{Table, size, row, Lent}
use Rattle.spans.specs.declared.Constraint.{Constraint}
use Rattle.spans.specs.declared.Matched.{Matched}
use Rattle.walk.specs.declared.Number.{Number}
use Rattle.walk.specs.declared.Name.{Name}
use Rattle.walk.specs.declared.rows.NumberWords.{NumberWords}
use Rattle.walk.specs.declared.Walk.{Walk}
use Rattle.walk.specs.declared.Door.TheVariants.{Write}
use Rattle.walk.specs.State.{slot, counted, lend, after_number, At, Goes, same, Came, Knows, Put}
use Rattle.walk.specs.Steps.{tally, tally_is, wrote_none, wrote_then, wrote_in, wrote_as, same_counts, at_on, integer_goes}
use Rattle.walk.specs.Doors.{put_asks, put_wrote, put_goes, stood}
use Rattle.walk.specs.Lists.{Ready, GoesOne, GoesAll, found_drawn, found_some, found_in}
use Rattle.walk.specs.PartLists.{list_in, list_first, list_ends}
use Rattle.walk.specs.Terms.{integer_items, operand_number, span_name, operand_name, constraint_kind, name_words, words_of_number, words_of_constraint, InsideOperand}
use Rattle.walk.specs.Kinds.{constraint_number}
use Rattle.walk.specs.Insides.{InsideConstraint, constraint_inside}
use Rattle.walk.specs.Sounds.{constraint_sized}
use Rattle.constraint_rows.specs.Constraints.{constraint_form, row_words, row_end, none_item, own_items, Placed, GoesRow}
use Rattle.constraint_rows.specs.OptionalLists.{constraint_rule, part_list, Begun, GoesPart}

-- ---- one row: the walk comes to its start as a, and to its end as b
module _ {src : List ℕ} {at : ℕ} {c : Constraint} {v : Option Number} {n : Walk} (w : Placed src at c v n) where
  row_in : row_end at c ≤ length src
  row_in = omega (arith, w.inside.span, w.within)

  module _ {a : Walk} (ca : Came src (at + c.span.start) n a) where
    pub end_ready : At src (row_end at c) a
    end_ready = at_on (omega arith) row_in ca.goes.at

    module _ {b : Walk} (cb : Came src (row_end at c) a b) where
      same_count : counted Table.constraints b ≡ counted Table.constraints n
      same_count = same_counts (wrote_then ca.goes.wrote cb.goes.wrote) Table.constraints

      pub row_asks : length src < 2 ^ 64 → Knows b (slot Table.constraints)
      row_asks s = put_asks Table.constraints (at_on row_in (omega arith) cb.goes.at) (omega (arith, same_count, w.spare)) s

      pub row_done : {r : Walk} {kind : ℕ} {said : NumberWords} {id tag : Name} {ws t t' : List ℕ} → id ≡ span_name at c.id → tag ≡ operand_name at c.value
          → kind ≡ constraint_number (constraint_kind c.value) → said ≡ words_of_number v
          → ws ≡ constraint_words kind (place_words a.here b.here) (name_words id) (name_words tag) said.value → Put (slot Table.constraints) ws b r t t'
          → GoesRow src at c n r (lend Table.constraints t) (lend Table.constraints t')
      unfolding row_words words_of_constraint
      row_done {r} {kind} {said} {id} {tag} {ws} {t} {t'} ei et ek ev ew p =
          record {
            wrote =
                wrote_then (wrote_in (lend Table.constraints t) (wrote_then ca.goes.wrote cb.goes.wrote))
                (put_wrote Table.constraints p (row_words src at c) words long cb.goes.at.sized);
            came = λ hi e i k. (put_goes Table.constraints p (row_words src at c) words long (at_on e i cb.goes.at) (omega (arith, same_count, k))).at;
          }
        where
          long : length ws ≡ size Table.constraints
          long = ap length ew ∙ constraint_sized kind a.here b.here id tag said.value

          words : b.door ≡ Write → ws ≡ row_words src at c
          words e =
              let ea : a.door ≡ Write = sym cb.goes.wrote.door ∙ e in
              let en : n.door ≡ Write = sym ca.goes.wrote.door ∙ ea in
              ew ∙ rw (ek, ev, stood ca en, stood cb ea, ei, et, w.number)

-- ---- one constraint of a list
module _ {src : List ℕ} {at : ℕ} {m : Matched Constraint} {n : Walk} (w : Ready constraint_form src at m n) where
  abbrev c : Constraint
  c = m.value

  within : taken m.at ≤ length src - at
  within = took_inside src at w.found.within (found_drawn w.found).reads

  inside : InsideConstraint (length src - at) c
  inside = constraint_inside at (taken m.at) (length src - at) c within (draws_limits (found_drawn w.found) w.found.hits at)

  ends : row_end at c ≤ at + taken m.at
  ends = (draws_limits (found_drawn w.found) w.found.hits at).1.0

  pub number_ready : (at ≤ length src) × InsideOperand (length src - at) c.value
  number_ready = (w.found.within, inside.value)

  module _ {v : Option Number} {k : Walk} (ev : v ≡ operand_number src at c.value) (ek : k ≡ after_number v n) where
    noting : (a : Lent → Lent) → Goes (integer_items v) src at n k a a
    noting a = integer_goes v a ek w.came

    pub row_ready : Placed src at c v k
    row_ready =
        record {
          within = w.found.within;
          came = at_on (omega arith) (omega (arith, inside.span, w.found.within)) (noting same).at;
          number = ev;
          inside = inside;
          spare = omega (arith, (noting same).at.few Table.constraints, found_some w.found, found_in w.found);
        }

    pub one_done : {r : Walk} {t t' : List ℕ} → GoesRow src at c k r (lend Table.constraints t) (lend Table.constraints t')
        → GoesOne constraint_form src at m n r (lend Table.constraints t) (lend Table.constraints t')
    one_done {r} {t} {t'} g =
        record {
          wrote = λ xs ta.
              wrote_as (ap (λ (x : Option Number). integer_items x ++ row Table.constraints (row_words src at c) ∷ []) ev ∙ sym (own_items src at c))
              (wrote_then (noting (lend Table.constraints t)).wrote g.wrote);
          came = g.came (at + taken m.at) ends (found_in w.found) (omega (arith, (noting same).at.few Table.constraints, found_some w.found));
        }

-- ---- the constraints that a part says
module _ {src : List ℕ} {at : ℕ} {n : Walk} where
  pub part_none : {g : Option Span} (a : Lent → Lent) → g ≡ None → Begun src at g n → GoesPart src at g n n a a
  part_none a e w =
      subst (λ (x : Option Span). GoesPart src at x n n a a) (sym e)
      (record { wrote = wrote_as (sym (none_item src)) (wrote_none n a); came = λ lo hi h i k. at_on h i w.came })

  module _ {p : Option Span} {g : Span} (w : Begun src at p n) (e : p ≡ Some g) where
    there : MatchedList constraint_list (drop at src) g
    there = subst (λ (x : Option Span). MatchedPart constraint_list (drop at src) x) e w.list

    pub part_in : at + g.start ≤ length src
    part_in = omega (arith, list_in constraint_form constraint_rule src at there)

    pub part_ready : {m : Matched Constraint} → Constrained (take (length src - (at + g.start)) (drop (at + g.start) src)) m
        → Ready constraint_form src (at + g.start) m n
    part_ready {m} d = record { came = at_on (omega arith) part_in w.came; found = list_first constraint_form constraint_rule src at there m d }

    pub part_done : {r : Walk} {a b : Lent → Lent} → GoesAll constraint_form src (at + g.start) n r a b → GoesPart src at p n r a b
    part_done {r} {a} {b} k =
        subst (λ (x : Option Span). GoesPart src at x n r a b) (sym e)
        (record {
          wrote = wrote_as (ap (parse_constraint_list src) (sym (part_list src at there))) (k.wrote (tally n) (tally_is n));
          came = λ lo hi h i d. at_on (list_ends constraint_form constraint_rule src at there lo hi d) i k.came;
        })
