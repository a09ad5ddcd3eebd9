-- What the functions over tags ask of their callees, and what they come to.
use Prim.Native.Nat.{ℕ, ◌+◌, ◌^◌, ◌≤◌, ◌<◌}
use native.Mathlib.Omega.{arith}
use mathlib.Core.Path.{◌≡◌, ap, subst, sym, ◌∙◌}
use mathlib.Core.List.{List, [], ◌∷◌}
use lib.ListN.{length, drop}
use Rattle.std.proofs.Common.{Option, None, ◌⊎◌, inl, inr}
use Rattle.meaning.specs.Rules.{Rule}
use Rattle.meaning.specs.Peg.{taken}
use Rattle.meaning.specs.Forest.{Forest}
use Rattle.meaning.specs.Tables.{Table, row, Lent}
use Rattle.meaning.specs.Rows.{place_words, tag_words}
use Rattle.meaning.specs.Walk.{following}
use Rattle.grammar.specs.Limits.{Limits, draws_limits, limits_left, limits_right}
use Rattle.grammar.specs.Order.{From, kids_of}
use Rattle.spans.specs.declared.Span.{Span}
use Rattle.spans.specs.declared.TagValue.{TagValue}
use Rattle.spans.specs.declared.TagRange.{TagRange}
use Rattle.spans.specs.declared.TagOther.{TagOther}
use Rattle.spans.specs.declared.Tag.{Tag}
use Rattle.spans.specs.declared.Tag.TheVariants.{Value, Range, Other}
use Rattle.spans.specs.declared.Matched.{Matched}
use Rattle.spans.specs.Drawn.{leaf_at, draw_tag}
use Rattle.spans.specs.Answers.{SoundTag}
use Rattle.walk.specs.declared.Door.TheVariants.{Write}
use Rattle.walk.specs.declared.Name.{Name}
use Rattle.walk.specs.declared.Number.{Number}
use Rattle.walk.specs.declared.rows.NumberWords.{NumberWords}
use Rattle.walk.specs.declared.kinds.TagKind.{TagKind}
use Rattle.walk.specs.declared.kinds.TagKind.TheVariants as kinds
use Rattle.walk.specs.declared.Walk.{Walk}
use Rattle.walk.specs.Kinds.{tag_number}
use Rattle.walk.specs.Insides.{span_inside}
use Rattle.walk.specs.Terms.{integer_items, span_name, name_words, words_of_number, words_of_tag, span_number}
use Rattle.walk.specs.Sounds.{tag_sized}
use Rattle.walk.specs.State.{slot, counted, lend, after_number, At, Goes, same, Came, Knows, Put}
use Rattle.walk.specs.Steps.{wrote_then, at_on, goes_none, goes_then, goes_in, goes_as, integer_goes}
use Rattle.walk.specs.Doors.{put_asks, put_goes, stood, spare}
use Rattle.walk.specs.Lists.{Ready, GoesOne, found_drawn, found_hit, found_some, found_in, one_done}
use Rattle.tag_rows.specs.Tags.{value_form, tag_form, row_words, value_items, other_items, range_items, inside_value, inside_range, inside_other, tag_value, tag_range, tag_other, Placed, PlacedValue, PlacedRange}
use Rattle.tag_rows.specs.Braces.{tag_behind, braced}

-- ---- one row: the walk comes to its start as a, and to its end as b
module _ {src : List ℕ} {at len : ℕ} {id : Span} {n : Walk} (w : Placed src at len id n) where
  module _ {a : Walk} (ca : Came src at n a) where
    pub end_ready : At src (at + len) a
    end_ready = at_on (omega arith) w.within ca.goes.at

    module _ {b : Walk} (cb : Came src (at + len) a b) where
      row_spare : counted Table.tags b < at + len
      row_spare = spare w.came (wrote_then ca.goes.wrote cb.goes.wrote) (omega (arith, w.some)) Table.tags

      pub row_asks : length src < 2 ^ 64 → Knows b (slot Table.tags)
      row_asks s = put_asks Table.tags cb.goes.at row_spare s

      pub row_done : (kind : TagKind) (v e : Option Number) (inner : ℕ) {r : Walk} {name : Name} {k : ℕ} {x y : NumberWords} {ws t t' : List ℕ}
          → name ≡ span_name at id → k ≡ tag_number kind → x ≡ words_of_number v → y ≡ words_of_number e
          → ws ≡ tag_words k (place_words a.here b.here) (name_words name) x.value y.value inner → Put (slot Table.tags) ws b r t t'
          → Goes (row Table.tags (row_words src at len kind id v e inner) ∷ []) src (at + len) n r (lend Table.tags t) (lend Table.tags t')
      unfolding row_words words_of_tag
      row_done kind v e inner {r} {name} {k} {x} {y} {ws} {t} {t'} en ek ex ey ew p =
          goes_then (goes_in (lend Table.tags t) ca.goes)
          (goes_then (goes_in (lend Table.tags t) cb.goes)
          (put_goes Table.tags p (row_words src at len kind id v e inner) words (ap length ew ∙ tag_sized k a.here b.here name x.value y.value inner)
          cb.goes.at row_spare))
        where
          words : b.door ≡ Write → ws ≡ row_words src at len kind id v e inner
          words q =
              let ea : a.door ≡ Write = sym cb.goes.wrote.door ∙ q in
              let eb : n.door ≡ Write = sym ca.goes.wrote.door ∙ ea in
              ew ∙ rw (ek, ex, ey, stood ca eb, stood cb ea, en)

  -- a number is noted before
  pub noting : {x : Option Number} (y : Span) {m : Walk} → x ≡ span_number src at y → m ≡ after_number x n → (a : Lent → Lent)
      → Goes (integer_items (span_number src at y)) src at n m a a
  noting {x} y {m} ex em a =
      integer_goes (span_number src at y) a (em ∙ ap (λ (z : Option Number). after_number z n) ex) w.came

  pub placed_at : {m : Walk} → At src at m → Placed src at len id m
  placed_at h = record { came = h; some = w.some; within = w.within; name = w.name }

-- ---- a value
module _ {src : List ℕ} {at len : ℕ} {v : TagValue} {n : Walk} (w : PlacedValue src at len v n) {x : Option Number} {m : Walk}
    (ex : x ≡ span_number src at v.value) (em : m ≡ after_number x n) where
  pub value_ready : Placed src at len v.id m
  value_ready = placed_at w.place (noting w.place v.value ex em same).at

  pub value_done : (kind : TagKind) {r : Walk} {t t' : List ℕ}
      → Goes (row Table.tags (row_words src at len kind v.id x None 0) ∷ []) src (at + len) m r (lend Table.tags t) (lend Table.tags t')
      → Goes (value_items src kind at len v) src (at + len) n r (lend Table.tags t) (lend Table.tags t')
  value_done kind {r} {t} {t'} g =
      goes_then (noting w.place v.value ex em (lend Table.tags t))
      (goes_as (ap (λ (y : Option Number). row Table.tags (row_words src at len kind v.id y None 0) ∷ []) ex) g)

-- ---- the spans of an answer of k bytes at `at`, by its tag
module _ (src : List ℕ) (at k : ℕ) (n : Walk) (came : At src at n) (some : at < at + k) (within : at + k ≤ length src) where
  value_placed : (v : TagValue) → Limits at (at + k) (draw_tag at (drop at src) k (Value v)) → PlacedValue src at k v n
  value_placed v h =
      let name = leaf_at Rule.identifier at v.id in
      let number = leaf_at Rule.integer at v.value in
      let id = span_inside Rule.identifier at k v.id (limits_left at (at + k) name number h.1.1.0) in
      let value = span_inside Rule.integer at k v.value (limits_right at (at + k) name number h.1.1.0) in
      record { place = record { came = came; some = omega (arith, some); within = within; name = id }; value = value }

  other_placed : (x : TagOther) → Limits at (at + k) (draw_tag at (drop at src) k (Other x)) → Placed src at k x.id n
  other_placed x h = record { came = came; some = omega (arith, some); within = within; name = span_inside Rule.identifier at k x.id h.1.1.0 }

  range_placed : (x : TagRange) → SoundTag (drop at src) (Range x) → Limits at (at + k) (draw_tag at (drop at src) k (Range x))
      → From (at + 1) (following (kids_of (draw_tag at (drop at src) k (Range x)))) → PlacedRange src at k x n
  range_placed x m h b =
      let id : at + x.id.start + x.id.len ≤ at + k = h.1.1.0.1.0 in
      let low = h.1.1.0.1.1.1 in
      let start : at + x.start.start + x.start.len ≤ at + k = low.1.0 in
      let high = low.1.1.1 in
      let end : at + x.end.start + x.end.len ≤ at + k = high.1.0 in
      record {
        place = record { came = came; some = omega (arith, some); within = within; name = omega (arith, id) };
        start = omega (arith, start);
        end = omega (arith, end);
        braces = braced src at x.tags k m high.1.1.1 b.1.1;
      }

-- ---- an answer inside a range: the values, and no other tags
module _ {src : List ℕ} {at : ℕ} {c : Matched Tag} {n : Walk} (w : Ready value_form src at c n) {len : ℕ} (el : len ≡ taken c.at) where
  pub inner_ready : {v : TagValue} → c.value ≡ Value v → PlacedValue src at len v n
  inner_ready {v} e =
      subst (λ (k : ℕ). PlacedValue src at k v n) (sym el)
      (value_placed src at (taken c.at) n w.came (found_some w.found) (found_in w.found) v
      (subst (λ (y : Tag). Limits at (at + taken c.at) (draw_tag at (drop at src) (taken c.at) y)) e
      (draws_limits (found_drawn w.found) w.found.hits at)))

  pub inner_done : {v : TagValue} {r : Walk} {a b : Lent → Lent} → c.value ≡ Value v → Goes (value_items src kinds.ValueInRange at len v) src (at + len) n r a b
      → GoesOne value_form src at c n r a b
  inner_done {v} e g = one_done {z = value_form} el (λ xs. ap (λ (k : ℕ). value_items src kinds.ValueInRange at k v) el ∙ sym (inside_value src at c v e)) g

  inner_other : {a : Lent → Lent} → value_form.items src [] (value_form.draw c (drop at src) at) ≡ [] → GoesOne value_form src at c n n a a
  inner_other {a} e = one_done {z = value_form} el (λ xs. sym e) (goes_none a (at_on (omega arith) (omega (arith, el, found_in w.found)) w.came))

  pub inner_none : {a : Lent → Lent} → ((x : TagRange) × (c.value ≡ Range x)) ⊎ ((x : TagOther) × (c.value ≡ Other x)) → GoesOne value_form src at c n n a a
  inner_none (inl q) = inner_other (inside_range src at c q.0 q.1)
  inner_none (inr q) = inner_other (inside_other src at c q.0 q.1)

-- ---- an answer of the enum's list
module _ {src : List ℕ} {at : ℕ} {c : Matched Tag} {n : Walk} (w : Ready tag_form src at c n) {len : ℕ} (el : len ≡ taken c.at) where
  tag_limits : Limits at (at + taken c.at) (draw_tag at (drop at src) (taken c.at) c.value)
  tag_limits = (draws_limits (found_drawn w.found) w.found.hits at).1.1.0

  tag_from : From (at + 1) (following (kids_of (draw_tag at (drop at src) (taken c.at) c.value)))
  tag_from =
      subst (λ (v : Forest). From (at + 1) (following (kids_of (kids_of v)))) ((found_drawn w.found).draws w.found.hits at)
      (tag_behind at (drop at src) (found_hit w.found))

  abbrev TagLimits : Tag → Type 0
  TagLimits y = Limits at (at + taken c.at) (draw_tag at (drop at src) (taken c.at) y)

  pub tag_value_ready : {v : TagValue} → c.value ≡ Value v → PlacedValue src at len v n
  tag_value_ready {v} e =
      subst (λ (k : ℕ). PlacedValue src at k v n) (sym el)
      (value_placed src at (taken c.at) n w.came (found_some w.found) (found_in w.found) v (subst TagLimits e tag_limits))

  pub tag_range_ready : {x : TagRange} → c.value ≡ Range x → PlacedRange src at len x n
  tag_range_ready {x} e =
      subst (λ (k : ℕ). PlacedRange src at k x n) (sym el)
      (range_placed src at (taken c.at) n w.came (found_some w.found) (found_in w.found) x
      (subst (SoundTag (drop at src)) e (w.found.answered.sound w.found.hits)) (subst TagLimits e tag_limits)
      (subst (λ (y : Tag). From (at + 1) (following (kids_of (draw_tag at (drop at src) (taken c.at) y)))) e tag_from))

  pub tag_other_ready : {x : TagOther} → c.value ≡ Other x → Placed src at len x.id n
  tag_other_ready {x} e =
      subst (λ (k : ℕ). Placed src at k x.id n) (sym el)
      (other_placed src at (taken c.at) n w.came (found_some w.found) (found_in w.found) x (subst TagLimits e tag_limits))

  module _ {r : Walk} {a b : Lent → Lent} where
    pub tag_value_done : {v : TagValue} → c.value ≡ Value v → Goes (value_items src kinds.Value at len v) src (at + len) n r a b
        → GoesOne tag_form src at c n r a b
    tag_value_done {v} e g = one_done {z = tag_form} el (λ xs. ap (λ (k : ℕ). value_items src kinds.Value at k v) el ∙ sym (tag_value src at c v e)) g

    pub tag_range_done : {x : TagRange} → c.value ≡ Range x → Goes (range_items src at len x) src (at + len) n r a b → GoesOne tag_form src at c n r a b
    tag_range_done {x} e g = one_done {z = tag_form} el (λ xs. ap (λ (k : ℕ). range_items src at k x) el ∙ sym (tag_range src at c x e)) g

    pub tag_other_done : {x : TagOther} → c.value ≡ Other x → Goes (other_items src at len x) src (at + len) n r a b → GoesOne tag_form src at c n r a b
    tag_other_done {x} e g = one_done {z = tag_form} el (λ xs. ap (λ (k : ℕ). other_items src at k x) el ∙ sym (tag_other src at c x e)) g
