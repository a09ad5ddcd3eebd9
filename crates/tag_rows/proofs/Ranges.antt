-- A range: how many rows follow its own, the values in its braces, and what it comes to.
use Rattle.std.specs.Prelude.{Option, None, Some}
use Prim.Native.Nat.{ℕ, ◌+◌, ◌-◌, ◌≤◌, ◌<◌}
use native.Mathlib.Omega.{arith}
use mathlib.Core.Path.{◌≡◌, refl, ap, subst, sym, ◌∙◌}
use mathlib.Core.List.{List, [], ◌∷◌, ◌++◌, append_assoc}
use lib.ListN.{length, take, drop}
use Rattle.meaning.specs.Pdl.{enum_value, enum_value_list}
use Rattle.meaning.specs.Tables.{Table, Item, row, rows_of, count, Lent}
use Rattle.spans.specs.declared.Span.{Span}
use Rattle.meaning.specs.Walk.{each}
use Rattle.spans.specs.declared.TagRange.{TagRange}
use Rattle.spans.specs.declared.Matched.{Matched}
use Rattle.spans.specs.declared.Tag.{Tag}
use Rattle.spans.specs.Answers.{MatchedList, MatchedPart, Tagged}
use Rattle.walk.specs.declared.Door.TheVariants.{Count, Write}
use Rattle.walk.specs.declared.Number.{Number}
use Rattle.walk.specs.declared.kinds.TagKind.TheVariants as kinds
use Rattle.walk.specs.declared.Walk.{Walk}
use Rattle.walk.specs.State.{lend, counted, after_number, counting, placed, left, Wrote, Goes, same}
use Rattle.walk.specs.Steps.{tally, tally_is, wrote_then, wrote_as, at_on, goes_then, goes_as, counting_at}
use Rattle.walk.specs.Doors.{row_as, back_wrote, back_at}
use Rattle.walk.specs.Lists.{Ready, Found, GoesAll, list_nodes}
use Rattle.walk.specs.PartLists.{list_in, list_first}
use Rattle.walk.specs.Terms.{span_number}
use Rattle.tag_rows.specs.Tags.{value_form, row_words, values_items, inner_items, range_numbers, range_row, range_items, Placed, PlacedRange, Counted}
use Rattle.tag_rows.specs.Braces.{value_rule, inner_items_lem}
use Rattle.tag_rows.proofs.Laws.{noting, placed_at}

-- ---- the rows that a walk which only counts would meet
module _ {src : List ℕ} {at : ℕ} {c : Matched Tag} {n : Walk} (w : Ready value_form src at c n) where
  pub counting_ready : {m : Walk} → m ≡ counting n → Ready value_form src at c m
  counting_ready e = subst (λ (y : Walk). Ready value_form src at c y) (sym e) (record { came = counting_at w.came; found = w.found })

  module _ {m r : Walk} {t t' : List ℕ} (em : m ≡ counting n) (g : GoesAll value_form src at m r (lend Table.tags t) (lend Table.tags t')) where
    met : Wrote (values_items src (list_nodes value_form src at)) (counting n) r (lend Table.tags t) (lend Table.tags t')
    met =
        let h = subst (λ (y : Walk). GoesAll value_form src at y r (lend Table.tags t) (lend Table.tags t')) em g in
        h.wrote (tally (counting n)) (tally_is (counting n))

    abbrev nothing : Lent
    nothing = record { w1 = []; w2 = []; w3 = []; w4 = []; w5 = [] }

    pub count_more : counted Table.tags n ≤ counted Table.tags r
    count_more = omega (arith, met.counts Table.tags)

    pub count_done : {x y : ℕ} → x ≡ counted Table.tags r → y ≡ counted Table.tags n → Counted src at n (x - y) t t'
    unfolding left
    count_done ex ey = record { rows = λ e. omega (arith, ex, ey, met.counts Table.tags); same = met.words nothing Table.tags }

pub count_none : {src : List ℕ} {at : ℕ} {n : Walk} {t : List ℕ} → n.door ≡ Count → Counted src at n 0 t t
count_none {n = n} h = record { rows = λ e. absurd (let z : Count ≡ Write = sym h ∙ e in let y : ◌≡◌ {A = ℕ} 0 1 = cc in omega arith); same = refl }

-- ---- the list in its braces, where the span g says
module _ {src : List ℕ} {at len : ℕ} {x : TagRange} {n : Walk} (w : PlacedRange src at len x n) {g : Span} (e : x.tags ≡ Some g) where
  there : MatchedList enum_value_list (drop at src) g
  there = subst (λ (p : Option Span). MatchedPart enum_value_list (drop at src) p) e w.braces.stands

  pub values_in : at + g.start ≤ length src
  values_in = omega (arith, list_in value_form value_rule src at there)

-- ---- its numbers, its row, its values
module _ {src : List ℕ} {at len : ℕ} {x : TagRange} {n : Walk} (w : PlacedRange src at len x n) {v e : Option Number} {k m : Walk}
    (ev : v ≡ span_number src at x.start) (ee : e ≡ span_number src at x.end) (ek : k ≡ after_number v n)
    (em : m ≡ after_number e k) where
  numbers : (a : Lent → Lent) → Goes (range_numbers src at x) src at n m a a
  numbers a =
      let g = noting w.place x.start ev ek a in goes_then g (noting (placed_at w.place g.at) x.end ee em a)

  pub range_ready : Placed src at len x.id m
  range_ready = placed_at w.place (numbers same).at

  -- its items, if its row is followed by these
  abbrev followed : List Item → List Item
  followed ys = range_numbers src at x ++ row Table.tags (range_row src at len x (count Table.tags ys)) ∷ ys

  own_row : {r : Walk} {i : ℕ} {a b : Lent → Lent} (ys : List Item) → (m.door ≡ Write → i ≡ count Table.tags ys)
      → Wrote (row Table.tags (row_words src at len kinds.Range x.id v e i) ∷ []) m r a b
      → Wrote (row Table.tags (range_row src at len x (count Table.tags ys)) ∷ []) m r a b
  own_row ys ei h = row_as Table.tags (λ q. rw (ev, ee, ei q) refl) h

  pub empty_done : {r : Walk} {t t' : List ℕ} → x.tags ≡ None
      → Goes (row Table.tags (row_words src at len kinds.Range x.id v e 0) ∷ []) src (at + len) m r (lend Table.tags t) (lend Table.tags t')
      → Goes (range_items src at len x) src (at + len) n r (lend Table.tags t) (lend Table.tags t')
  unfolding rows_of each
  empty_done {r} {t} {t'} h g =
      goes_as (ap followed (sym (ap (inner_items src at) h)))
      (goes_then (numbers (lend Table.tags t)) (record { wrote = own_row [] (λ q. refl) g.wrote; at = g.at }))

  -- the values in its braces
  module _ {g : Span} (eg : x.tags ≡ Some g) where
    abbrev i : ℕ
    i = at + g.start

    behind : at < i
    behind = omega (arith, (w.braces.inside g eg).0)

    items_are : values_items src (list_nodes value_form src i) ≡ inner_items src at x.tags
    items_are = sym (ap (inner_items src at) eg ∙ inner_items_lem src at (there w eg))

    module _ {c : Matched Tag} (y : Tagged enum_value (take (length src - i) (drop i src)) c) where
      first : Found value_form src i c
      first = list_first value_form value_rule src at (there w eg) c y

      pub count_ready : Ready value_form src i c m
      count_ready = record { came = at_on (omega (arith, behind)) first.within (numbers same).at; found = first }

      module _ {j : ℕ} {r q : Walk} {t t' u : List ℕ} (o : Counted src i m j t t')
          (h : Goes (row Table.tags (row_words src at len kinds.Range x.id v e j) ∷ []) src (at + len) m r (lend Table.tags t') (lend Table.tags u))
          (eq : q ≡ placed m.here r) where
        pub values_ready : Ready value_form src i c q
        values_ready = record { came = back_at (numbers same).at h.wrote eq behind first.within; found = first }

        pub filled_done : {r' : Walk} {u' : List ℕ} → GoesAll value_form src i q r' (lend Table.tags u) (lend Table.tags u')
            → Goes (range_items src at len x) src (at + len) n r' (lend Table.tags t) (lend Table.tags u')
        filled_done {r'} {u'} all =
            let ys : List Item = values_items src (list_nodes value_form src i) in
            let own = own_row ys o.rows (back_wrote (numbers same).at h.wrote eq) in
            let wrote = wrote_then (wrote_then (numbers (lend Table.tags t')).wrote own) (all.wrote (tally q) (tally_is q)) in
            subst (λ (z : List ℕ). Goes (range_items src at len x) src (at + len) n r' (lend Table.tags z) (lend Table.tags u')) o.same
            (record {
              wrote = wrote_as
                  (append_assoc (range_numbers src at x) (row Table.tags (range_row src at len x (count Table.tags ys)) ∷ []) ys
                  ∙ ap followed items_are) wrote;
              at = at_on (w.braces.inside g eg).1 w.place.within all.came;
            })
