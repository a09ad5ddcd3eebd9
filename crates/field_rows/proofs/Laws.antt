-- What the functions over fields ask of their callees, and what they come to.
use Rattle.std.specs.Prelude.{Option, None, Some}
use Prim.Native.Nat.{ℕ, ◌+◌, ◌-◌, ◌^◌, ◌≤◌, ◌<◌}
use native.Mathlib.Omega.{arith}
use mathlib.Core.Path.{◌≡◌, refl, ap, ap₂, subst, sym, ◌∙◌}
use mathlib.Core.List.{List, [], ◌∷◌, ◌++◌, append_assoc, append-nil}
use mathlib.Core.Bool.{Bool, true, false}
use lib.ListN.{length, drop}
use lib.Dec.{eqb}
use Rattle.meaning.specs.Choice.{pick}
use Rattle.meaning.specs.Rules.{Rule, is}
use Rattle.meaning.specs.Rows.{place_words, field_words}
use Rattle.meaning.specs.declared.SourceLocation.{SourceLocation}
use Rattle.meaning.specs.Peg.{taken}
use Rattle.meaning.specs.Forest.{Forest, nil, tree}
use Rattle.meaning.specs.Pdl.{constraint_list}
use Rattle.meaning.specs.Convert.{convert, reason_of}
use Rattle.meaning.specs.Tables.{Table, size, Item, int, row, rows_of, count, first_of, Lent}
use Rattle.meaning.specs.Walk.{node, value_part, text_of, each, constraint_number, constraint_row, parse_constraint_list, parse_field_list}
use Rattle.grammar.specs.Limits.{Limits, wider}
use Rattle.spans.specs.declared.Span.{Span}
use Rattle.spans.specs.declared.Constraint.{Constraint}
use Rattle.spans.specs.declared.Matched.{Matched}
use Rattle.spans.specs.declared.Field.{Field}
use Rattle.spans.specs.Drawn.{draw_constraint, draw_condition, draw_desc, draw_field}
use Rattle.spans.specs.Answers.{MatchedPart, desc_list}
use Rattle.walk.specs.declared.Described.{Described}
use Rattle.walk.specs.declared.Number.{Number}
use Rattle.walk.specs.declared.rows.FieldWords.{FieldWords}
use Rattle.walk.specs.Kinds.{field_number}
use Rattle.walk.specs.declared.Walk.{Walk}
use Rattle.walk.specs.declared.Door.TheVariants.{Write}
use Rattle.walk.specs.State.{slot, counted, lend, after_number, Wrote, At, Goes, same, Came, Knows, Put}
use Rattle.walk.specs.Steps.{count_append, no_rows, wrote_none, wrote_then, wrote_in, wrote_as, at_on, goes_then, integer_goes, same_counts}
use Rattle.walk.specs.Doors.{put_asks, put_wrote, put_goes, stood}
use Rattle.walk.specs.Sounds.{words_of_field_sized}
use Rattle.walk.specs.Terms.{integer_items, name_words, pair_words, words_of_description, words_of_field}
use Rattle.walk.specs.Insides.{constraint_inside}
use Rattle.walk.specs.Lists.{Ready, GoesOne, found_some, found_in}
use Rattle.constraint_rows.specs.Constraints.{Placed, GoesRow}
use Rattle.constraint_rows.specs.OptionalLists.{part_nodes, Begun, GoesPart}
use Rattle.field_rows.specs.DescTerms.{described_as, InsideDesc, desc_items}
use Rattle.field_rows.specs.DescLimits.{desc_inside, group_limits}
use Rattle.field_rows.specs.Halves.{Halves, desc_hit, halves}
use Rattle.field_rows.specs.Items.{cond_number, cond_rows, cond_word, InsideCondition, field_says, field_group, field_count, field_row, field_items, field_items_lem}
use Rattle.field_rows.specs.Fields.{field_form, own_items, noted_desc, AtCondition, PastCondition, Conditioned, GoesCondition}

-- ---- a condition, by its case
pub condition_none : {src : List ℕ} {at : ℕ} {cond : Option Constraint} {n : Walk} {a : Lent → Lent} → cond ≡ None → GoesCondition src at cond n n a a
condition_none {src} {at} {cond} {n} {a} e =
    subst (λ (k : Option Constraint). GoesCondition src at k n n a a) (sym e) (record { wrote = wrote_none n a; came = refl })

pub condition_ready : {src : List ℕ} {at : ℕ} {cond : Option Constraint} {c : Constraint} {v : Option Number} {n : Walk}
    → Conditioned src at cond v n → cond ≡ Some c
    → Placed src at c v n
condition_ready {src} {at} {cond} {c} {v} {n} w e =
    let k = subst (λ (x : Option Constraint). Conditioned src at x v n) e w in
    record { within = k.within; came = k.stands.0; number = k.number; inside = k.stands.1.0; spare = k.stands.1.1 }

pub condition_done : {src : List ℕ} {at : ℕ} {cond : Option Constraint} {c : Constraint} {n r : Walk} {a b : Lent → Lent} → cond ≡ Some c
    → GoesRow src at c n r a b → GoesCondition src at cond n r a b
condition_done {src} {at} {cond} {c} {n} {r} {a} {b} e g =
    subst (λ (k : Option Constraint). GoesCondition src at k n r a b) (sym e) (record { wrote = g.wrote; came = g.came })

-- ---- constraints are no fields
no_fields : (src : List ℕ) (w : Forest) → count Table.fields (parse_constraint_list src w) ≡ 0
unfolding parse_constraint_list each rows_of constraint_number constraint_row
no_fields src nil = refl
no_fields src (tree q s l k more) =
    count_append Table.fields (pick (is Rule.constraint q) (constraint_number src (node s l k more) ++ constraint_row src (node s l k more)) []) _
    ∙ ap₂ ◌+◌ (one (is Rule.constraint q)) (no_fields src more)
  where
    ints : (b : Bool) (x y : ℕ) (xs : List Item) → count Table.fields (pick b (int x y ∷ []) [] ++ xs) ≡ count Table.fields xs
    ints true x y xs = refl
    ints false x y xs = refl

    one : (b : Bool) → count Table.fields (pick b (constraint_number src (node s l k more) ++ constraint_row src (node s l k more)) []) ≡ 0
    one true = ints (value_part k).found (value_part k).start (reason_of (convert (text_of src (value_part k)))) (constraint_row src (node s l k more))
    one false = refl

no_condition_fields : (src : List ℕ) (o : ℕ) (c : Option Constraint) → count Table.fields (cond_rows src o c) ≡ 0
unfolding rows_of
no_condition_fields src o None = refl
no_condition_fields src o (Some c) = refl

-- numbers are no rows
no_desc : (t : Table) (d : Described) → count t (desc_items d) ≡ 0
no_desc t d = go (eqb (field_number d.kind) 8)
  where
    go : (b : Bool) → count t (pick b (integer_items d.nb ++ integer_items d.na) (integer_items d.na ++ integer_items d.nb)) ≡ 0
    go true = count_append t (integer_items d.nb) (integer_items d.na) ∙ ap₂ ◌+◌ (no_rows t d.nb) (no_rows t d.na)
    go false = count_append t (integer_items d.na) (integer_items d.nb) ∙ ap₂ ◌+◌ (no_rows t d.na) (no_rows t d.nb)

-- ---- the numbers of a description, in the walk's order
desc_goes : (d : Described) {src : List ℕ} {k : ℕ} {n m : Walk} (a : Lent → Lent) → m ≡ noted_desc d n → At src k n
    → Goes (desc_items d) src k n m a a
desc_goes d {src} {k} {n} {m} a e h = subst (λ (x : Walk). Goes (desc_items d) src k n x a a) (sym e) (go (eqb (field_number d.kind) 8))
  where
    go : (b : Bool) → Goes (pick b (integer_items d.nb ++ integer_items d.na) (integer_items d.na ++ integer_items d.nb)) src k n
        (pick b (after_number d.na (after_number d.nb n)) (after_number d.nb (after_number d.na n))) a a
    go true = let x = integer_goes d.nb a refl h in goes_then x (integer_goes d.na a refl x.at)
    go false = let x = integer_goes d.na a refl h in goes_then x (integer_goes d.nb a refl x.at)

-- the list that the code has is the description's
pub group_as : {src : List ℕ} {at : ℕ} {x y : Option Span} {n r : Walk} {a b : Lent → Lent} → x ≡ y → GoesPart src at x n r a b → GoesPart src at y n r a b
group_as {src} {at} {n = n} {r = r} {a = a} {b = b} e g = subst (λ (z : Option Span). GoesPart src at z n r a b) e g

-- ---- the row: b and g are the constraints before and behind the group's, e those behind the condition's
pub row_told : (d : Described) (cond : Option Constraint) (p q : SourceLocation) {w : FieldWords} {b g e b' g' e' first number : ℕ} {ws : List ℕ}
    → w ≡ words_of_description d → b ≡ b' → g ≡ g' → e ≡ e' → first ≡ first_of b (g - b) → number ≡ cond_word cond e
    → ws ≡ field_words w.kind (place_words p q) (name_words w.a) (name_words w.b) (name_words w.c) (pair_words w.na) (pair_words w.nb)
    first (g - b) number
    → ws ≡ words_of_field d.kind p q d.a d.b d.c d.na d.nb (first_of b' (g' - b')) (g' - b') (cond_word cond e')
unfolding words_of_field
row_told d cond p q ed eb eg ee ef en ew = ew ∙ rw (ed, ef, en, eb, eg, ee)

-- ---- one field
module _ {src : List ℕ} {at : ℕ} {f : Matched Field} {n : Walk} (w : Ready field_form src at f n) where
  abbrev end : ℕ
  end = at + taken f.at

  two : Halves at (taken f.at) (draw_desc at (drop at src) (taken f.value.desc.at) f.value.desc.value) (draw_condition at f.value.condition)
  two = halves w.found.answered w.found.hits at

  end_in : end ≤ length src
  end_in = found_in w.found

  -- where its parts stand
  pub desc_ready : (at ≤ length src) × InsideDesc (length src - at) f.value.desc.value
  desc_ready = (
    w.found.within,
    desc_inside at (length src - at) (drop at src) (taken f.value.desc.at) f.value.desc.value
        (wider at (at + two.k) at (at + (length src - at)) (draw_desc at (drop at src) (taken f.value.desc.at) f.value.desc.value) (omega arith)
        (omega (arith, two.fits, end_in, w.found.within)) two.first),
  )

  inside_if : (c : Option Constraint) → Limits (at + two.k) end (draw_condition at c) → InsideCondition (length src - at) c
  inside_if None h = tt
  inside_if (Some c) h =
      constraint_inside at (taken f.at) (length src - at) c (omega (arith, end_in))
      (wider (at + two.k) end at end (draw_constraint at c) (omega arith) (omega arith) h)

  pub condition_inside : (at ≤ length src) × InsideCondition (length src - at) f.value.condition
  condition_inside = (w.found.within, inside_if f.value.condition two.second)

  module _ {d : Described} {v : Option Number} {m k : Walk} (ed : d ≡ described_as src at f.value.desc.value) (ev : v ≡ cond_number src at f.value.condition)
      (em : m ≡ after_number v n) (ek : k ≡ noted_desc d m) where
    -- its numbers
    abbrev ints : List Item
    ints = integer_items v ++ desc_items d

    noting : (a : Lent → Lent) → Goes ints src at n k a a
    noting a =
        let x = integer_goes v a em w.came in
        goes_then x (desc_goes d a ek x.at)

    pub start_ready : At src at k
    start_ready = (noting same).at

    module _ {a : Walk} (ca : Came src at k a) where
      starting : (b : Lent → Lent) → Wrote ints n a b b
      starting b = wrote_as (append-nil ints) (wrote_in b (wrote_then (noting same).wrote ca.goes.wrote))

      -- its group's constraints
      pub group_ready : {g : Option Span} → g ≡ desc_list f.value.desc.value → Begun src at g a
      group_ready e =
          record {
            came = ca.goes.at;
            list = subst (λ (x : Option Span). MatchedPart constraint_list (drop at src) x) (sym e)
                (w.found.answered.described.sound (desc_hit w.found.answered w.found.hits));
          }

      module _ {g : Walk} {c c' : List ℕ} (wg : GoesPart src at (desc_list f.value.desc.value) a g (lend Table.constraints c) (lend Table.constraints c')) where
        group_at : At src (at + two.k) g
        group_at =
            wg.came at (at + two.k) (omega arith) (omega (arith, two.fits, end_in))
            (group_limits at (at + two.k) at (drop at src) (taken f.value.desc.at) f.value.desc.value two.first)

        pub grows : counted Table.constraints a ≤ counted Table.constraints g
        grows = omega (arith, wg.wrote.counts Table.constraints)

        stands_if : (x : Option Constraint) → f.value.condition ≡ x → Limits (at + two.k) end (draw_condition at x) → AtCondition src at x g
        stands_if None e h = tt
        stands_if (Some x) e h =
            let b : at + two.k ≤ at + x.span.start = h.0 in
            let i : at + x.span.start + x.span.len ≤ end = h.1.0 in (
              at_on b (omega (arith, i, end_in)) group_at,
              (inside_if (Some x) h, omega (arith, group_at.few Table.constraints, two.some _ _ _ _ _ (ap (draw_condition at) e), end_in)),
            )

        pub condition_stands : Conditioned src at f.value.condition v g
        condition_stands = record { within = w.found.within; number = ev; stands = stands_if f.value.condition refl two.second }

        module _ {h : Walk} {c'' : List ℕ} (wc : GoesCondition src at f.value.condition g h (lend Table.constraints c') (lend Table.constraints c'')) where
          past_if : (x : Option Constraint) → f.value.condition ≡ x → Limits (at + two.k) end (draw_condition at x) → PastCondition src at x g h → At src end h
          past_if None e i p = subst (λ (y : Walk). At src end y) (sym p) (at_on (omega (arith, two.fits)) end_in group_at)
          past_if (Some x) e i p =
              p end i.1.0 end_in (omega (arith, group_at.few Table.constraints, two.some _ _ _ _ _ (ap (draw_condition at) e)))

          pub end_ready : At src end h
          end_ready = past_if f.value.condition refl two.second wc.came

          module _ {e : Walk} (ce : Came src end h e) where
            abbrev group : List Item
            group = field_group src at f

            -- the counts: numbers are no rows, and constraints are no fields
            no_ints : (t : Table) → count t ints ≡ 0
            no_ints t = count_append t (integer_items v) (desc_items d) ∙ ap₂ ◌+◌ (no_rows t v) (no_desc t d)

            field_count_lem : counted Table.fields e ≡ counted Table.fields n
            field_count_lem =
                omega (
                  arith,
                  same_counts ce.goes.wrote Table.fields,
                  wc.wrote.counts Table.fields,
                  no_condition_fields src at f.value.condition,
                  wg.wrote.counts Table.fields,
                  no_fields src (part_nodes at (drop at src) (desc_list f.value.desc.value)),
                  (starting same).counts Table.fields,
                  no_ints Table.fields,
                )

            spare : counted Table.fields e < end
            spare = omega (arith, field_count_lem, w.came.few Table.fields, found_some w.found)

            pub put_ready : length src < 2 ^ 64 → Knows e (slot Table.fields)
            put_ready s = put_asks Table.fields ce.goes.at spare s

            start_count : counted Table.constraints a ≡ counted Table.constraints n
            start_count = omega (arith, (starting same).counts Table.constraints, no_ints Table.constraints)

            group_count : counted Table.constraints g - counted Table.constraints a ≡ field_count src at f
            group_count = omega (arith, wg.wrote.counts Table.constraints)

            word_if : (x : Option Constraint) → Wrote (cond_rows src at x) g h (lend Table.constraints c') (lend Table.constraints c'')
                → cond_word x (counted Table.constraints e) ≡ cond_word x (counted Table.constraints n + field_count src at f + 1)
            unfolding rows_of
            word_if None k = refl
            word_if (Some x) k = omega (arith, same_counts ce.goes.wrote Table.constraints, k.counts Table.constraints, group_count, grows, start_count)

            -- all but its row
            parts : Wrote (ints ++ group ++ cond_rows src at f.value.condition ++ []) n e (lend Table.constraints c) (lend Table.constraints c'')
            parts = wrote_then (wrote_then (wrote_then (starting (lend Table.constraints c)) wg.wrote) wc.wrote)
                (wrote_in (lend Table.constraints c'') ce.goes.wrote)

            module _ {r : Walk} {ws fs fs' : List ℕ}
                (ew : ws ≡ words_of_field d.kind a.here e.here d.a d.b d.c d.na d.nb
                (first_of (counted Table.constraints a) (counted Table.constraints g - counted Table.constraints a))
                (counted Table.constraints g - counted Table.constraints a) (cond_word f.value.condition (counted Table.constraints e)))
                (p : Put (slot Table.fields) ws e r fs fs') where
              abbrev own : List ℕ
              own = field_row src at f (field_says src at f) (counted Table.constraints n) (field_count src at f) (counted Table.constraints n
                  + field_count src at f + 1)

              long : length ws ≡ size Table.fields
              long = ap length ew ∙ words_of_field_sized a.here e.here d.kind d.a d.b d.c d.na d.nb _ _ _

              words : e.door ≡ Write → ws ≡ own
              words z =
                  let eh : h.door ≡ Write = sym ce.goes.wrote.door ∙ z in
                  let ea : a.door ≡ Write = sym wg.wrote.door ∙ sym wc.wrote.door ∙ eh in
                  let ek' : k.door ≡ Write = sym ca.goes.wrote.door ∙ ea in
                  ew ∙ rw (stood ca ek', stood ce eh, group_count, start_count, word_if f.value.condition wc.wrote, ed)

              all : Wrote (ints ++ group ++ cond_rows src at f.value.condition ++ row Table.fields own ∷ []) n r
                  (λ l. lend Table.fields fs (lend Table.constraints c l)) (λ l. lend Table.fields fs' (lend Table.constraints c'' l))
              all =
                  wrote_then {xs = ints ++ group ++ cond_rows src at f.value.condition}
                  (wrote_as (append-nil (ints ++ group ++ cond_rows src at f.value.condition)) (wrote_in (lend Table.fields fs) parts))
                  (wrote_in (lend Table.constraints c'') (put_wrote Table.fields p own words long ce.goes.at.sized))

              items_are : (xs : List Item) → count Table.constraints xs ≡ counted Table.constraints n
                  → ints ++ group ++ cond_rows src at f.value.condition ++ row Table.fields own ∷ [] ≡ parse_field_list src xs (draw_field at (drop at src) f)
              unfolding field_items
              items_are xs q =
                  ap (λ (zs : List Item). zs ++ cond_rows src at f.value.condition ++ row Table.fields own ∷ [])
                  (append_assoc (integer_items v) (desc_items d) group)
                  ∙ ap₂ (λ (x : Option Number) (y : Described).
                  integer_items x ++ (desc_items y ++ group) ++ cond_rows src at f.value.condition ++ row Table.fields own ∷ []) ev ed
                  ∙ ap (λ (i : ℕ). field_items src i at f) (sym q)
                  ∙ sym (field_items_lem src at f xs nil)
                  ∙ sym (own_items src xs Rule.field at (taken f.at) _)

              pub field_done : GoesOne field_form src at f n r (λ l. lend Table.fields fs (lend Table.constraints c l))
                  (λ l. lend Table.fields fs' (lend Table.constraints c'' l))
              field_done =
                  record {
                    wrote = λ xs ta. wrote_as (items_are xs (ta.counts Table.constraints)) all;
                    came = (put_goes Table.fields p own words long ce.goes.at spare).at;
                  }
