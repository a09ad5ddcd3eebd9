-- A declaration of a kind that has a row: its parts, and the whole.
use Prim.Native.Nat.{ℕ, ◌+◌, ◌-◌, ◌≤◌}
use native.Mathlib.Omega.{arith}
use mathlib.Core.Path.{◌≡◌, refl, ap, ap₂, subst, sym, ◌∙◌}
use mathlib.Core.List.{List, [], ◌∷◌, ◌++◌, append-nil}
use lib.ListN.{length, take, drop}
use lib.Dec.{eqb}
use Rattle.std.specs.Prelude.{Option, None, Some}
use Rattle.walk.specs.declared.Number.{Number}
use Rattle.meaning.specs.Rules.{Rule}
use Rattle.meaning.specs.Peg.{run, bytewise, hit, taken}
use Rattle.meaning.specs.Forest.{Forest, nil, tree, ◌⊕◌, nodes}
use Rattle.meaning.specs.Pdl.{declaration, field}
use Rattle.meaning.specs.Places.{place_at}
use Rattle.meaning.specs.Tables.{Table, Item, row, count, first_of, Lent}
use Rattle.meaning.specs.Walk.{node, parse_kind, parse_declaration, parse_toplevel, parse_enum_tag}
use Rattle.grammar.specs.Steps.{rest_is}
use Rattle.grammar.specs.Limits.{took_inside}
use Rattle.spans.specs.declared.Matched.{Matched}
use Rattle.spans.specs.declared.Header.{Header}
use Rattle.spans.specs.Drawn.{draw_header}
use Rattle.walk.specs.declared.Door.TheVariants.{Write}
use Rattle.walk.specs.declared.Walk.{Walk}
use Rattle.walk.specs.declared.Walked.{Walked}
use Rattle.walk.specs.State.{counted, lend, Wrote, Tallied}
use Rattle.walk.specs.Lending.{four}
use Rattle.walk.specs.Steps.{count_append, no_rows, wrote_then, wrote_in, wrote_as, tally, tally_is}
use Rattle.walk.specs.Terms.{part_number, integer_items, span_name, other_name, words_of_declaration}
use Rattle.walk.specs.Lists.{list_nodes}
use Rattle.constraint_rows.specs.OptionalLists.{part_nodes}
use Rattle.declaration_rows.specs.declared.heads.Headed.{Headed}
use Rattle.declaration_rows.specs.declared.Parts.{Parts}
use Rattle.tag_rows.specs.Tags.{tag_form}
use Rattle.field_rows.specs.Fields.{field_form}
use Rattle.declaration_rows.specs.declared.kinds.Kind.{Kind}
use Rattle.declaration_rows.specs.declared.kinds.Kind.TheVariants.{Enum, Packet, Struct, Group, Checksum, CustomField}
use Rattle.declaration_rows.specs.Kinds.{number, declared, Shape, shape_of, HeadOf, number_is}
use Rattle.declaration_rows.specs.Braces.{past_blanks}
use Rattle.declaration_rows.specs.Members.{tag_items, field_items, member_nodes, member_items, own, members_of, Membered, GoesMembers}
use Rattle.declaration_rows.specs.Wholes.{Whole, whole}
use Rattle.declaration_rows.specs.Items.{declaration_items, declaration_items_lem}
use Rattle.declaration_rows.specs.Sorts.{Sorted, none, an_int, parts, sorted-++, sorted_pick, sorted_each, of_constraints, of_enum_tag, of_fields, no_declarations}
use Rattle.declaration_rows.specs.Heads.{head_constraints, head_items, HeadAt, GoesHead}
use Rattle.declaration_rows.specs.Declarations.{takes_byte, ReadyKind, Opened, one_items, one_end, GoesOne, GoesParts, declaration_row, Rowed, GoesRow}
use Rattle.declaration_rows.specs.Views.{View, view, one_at}
use Rattle.declaration_rows.proofs.HeadLaws.{limits_list, head_inside, head_in}

-- ---- a declaration's node, and no other
one_node : (k : Kind) (src : List ℕ) (xs : List Item) (s l : ℕ) (kids : Forest) → parse_toplevel src xs (tree (shape_of k).root s l kids nil)
    ≡ parse_declaration src xs (number k) (node s l kids nil)
unfolding parse_toplevel
one_node k src xs s l kids = append-nil _ ∙ ap (λ (j : ℕ). parse_kind src xs j (node s l kids nil)) (number_is k) ∙ go k
  where
    go : (j : Kind) → parse_kind src xs (number j) (node s l kids nil) ≡ parse_declaration src xs (number j) (node s l kids nil)
    go Enum = refl
    go Packet = refl
    go Struct = refl
    go Group = refl
    go Checksum = refl
    go CustomField = refl

-- ---- the items of its parts: no row stands for a number, and no declaration is a part of one
head_count : (src : List ℕ) (at : ℕ) (h : Header) (t : Table) → count t (head_items src at h) ≡ count t (head_constraints src at h)
head_count src at h t =
    omega (arith, count_append t (integer_items (part_number src at h.width)) (head_constraints src at h), no_rows t (part_number src at h.width))

number_sorted : (x : Option Number) → Sorted parts (integer_items x)
number_sorted None = none
number_sorted (Some x) = an_int _ _ none

head_sorted : (src : List ℕ) (at : ℕ) (h : Header) → Sorted parts (head_items src at h)
head_sorted src at h =
    sorted-++ (number_sorted (part_number src at h.width))
    (of_constraints parts refl refl refl src (part_nodes at (drop at src) h.constraints))

members_sorted : (src : List ℕ) (k : Kind) (i : ℕ) (xs : List Item) → Sorted parts (member_items src k i xs)
members_sorted src k i xs = go k
  where
    tags : Sorted parts (tag_items src i xs)
    tags = sorted_each Rule.enum_tag (λ q. parse_enum_tag src q) (λ q. of_enum_tag parts refl refl refl src q) (list_nodes tag_form src i)

    fields : Sorted parts (field_items src i xs)
    fields = sorted_pick (hit (run (bytewise field) (drop i src))) (of_fields parts refl refl refl src (list_nodes field_form src i) xs) none

    go : (k : Kind) → Sorted parts (member_items src k i xs)
    go Enum = tags
    go Packet = fields
    go Struct = fields
    go Group = fields
    go Checksum = none
    go CustomField = none

-- ---- the parts of a declaration whose head is h
pub head_found : {src : List ℕ} {at : ℕ} {kind : Kind} {n : Walk} {h : Matched Header} → ReadyKind src at kind n
    → HeadOf (shape_of kind) (take (length src - at) (drop at src)) h → Opened src at kind h n
head_found {src} {at} {kind} {n} {h} w d = record { ready = w; head = subst (λ (u : List ℕ). HeadOf (shape_of kind) u h) (rest_is at src) d }

module _ {src : List ℕ} {at : ℕ} {kind : Kind} {h : Matched Header} {n : Walk} (w : Opened src at kind h n) where
  abbrev z : Shape
  z = shape_of kind

  whole_is : Whole src at kind h
  whole_is = whole src at h kind w.head.drawn (sym w.ready.known.known.hits ∙ w.ready.ready.hits)

  pub within : at ≤ length src
  within = w.ready.ready.came.within

  pub head_ends : at + taken h.at ≤ length src
  head_ends = omega (arith, within, took_inside src at within w.head.drawn.reads)

  pub head_ready : HeadAt src at h n
  head_ready =
      record {
        came = w.ready.ready.came;
        ends = head_ends;
        inside = head_inside (drop at src) z h w.head whole_is.headed at (length src - at) (omega (arith, head_ends, within));
        list = limits_list (drop at src) z h w.head whole_is.headed at;
        stands = w.head.sound whole_is.headed;
      }

  -- e is where the head ends
  module _ {e : ℕ} (ee : e ≡ at + taken h.at) where
    pub members_ready : {r : Headed} {a b : Lent → Lent} → GoesHead src at h n r a b → Membered src e kind r.walk
    members_ready {r} g = subst (λ (i : ℕ). Membered src i kind r.walk) (sym ee) (record { came = g.came; tagged = whole_is.tagged })

    pub parts_done : {r : Headed} {y : Walked} {d f t c c' : List ℕ} {b : Lent → Lent}
        → GoesHead src at h n r (lend Table.constraints c) (lend Table.constraints c') → GoesMembers src e kind r.walk y (four d f t c') b
        → GoesParts src at kind h n (record { head = r; members = y }) (four d f t c) b
    parts_done {r} {y} {d} {f} {t} {c} {c'} {b} g m =
        record {
          between = four d f t c';
          head = head_in (λ l. lend Table.declarations d (lend Table.fields f (lend Table.tags t l))) g;
          members = subst (λ (i : ℕ). GoesMembers src i kind r.walk y (four d f t c') b) ee m;
        }

  -- ---- behind its parts
  module _ {x : Parts} {a b : Lent → Lent} (g : GoesParts src at kind h n x a b) where
    abbrev i : ℕ
    i = past_blanks src (at + taken h.at)

    abbrev cs : List Item
    cs = head_constraints src at h.value

    abbrev ms : List Item → List Item
    ms xs = member_items src kind i (xs ++ cs)

    tallied_head : {xs : List Item} → Tallied xs n → Tallied (xs ++ cs) x.head.walk
    tallied_head {xs} ta = record { counts = λ t. count_append t xs cs ∙ omega (arith, ta.counts t, g.head.wrote.counts t, head_count src at h.value t) }

    member_wrote : (xs : List Item) → Tallied xs n → Wrote (ms xs) x.head.walk x.members.walk g.between b
    member_wrote xs ta = g.members.wrote (xs ++ cs) (tallied_head ta)

    end_is : x.members.end ≡ one_end src at
    end_is = g.members.ends ∙ sym whole_is.ends ∙ ap (λ (k : ℕ). at + k) (sym w.ready.known.known.takes)

    same_declarations : counted Table.declarations x.members.walk ≡ counted Table.declarations n
    same_declarations =
        omega (
          arith,
          g.head.wrote.counts Table.declarations,
          (member_wrote (tally n) (tally_is n)).counts Table.declarations,
          no_declarations (head_sorted src at h.value),
          no_declarations (members_sorted src kind i (tally n ++ cs)),
        )

    pub row_ready : Rowed src kind n x
    row_ready =
        record {
          came = g.members.came;
          spare = omega (arith, same_declarations, w.ready.ready.came.few Table.declarations, takes_byte (drop at src) w.ready.ready.hits, end_is);
          grows = omega (arith, (member_wrote (tally n) (tally_is n)).counts (own kind));
          lists = omega (arith, g.head.wrote.counts Table.constraints);
        }

    module _ (xs : List Item) (ta : Tallied xs n) where
      abbrev len : ℕ
      len = taken (run (bytewise (declared kind)) (drop at src))

      -- ---- the row
      abbrev words : List ℕ
      words =
          words_of_declaration (number kind) (place_at src at) (place_at src (at + len)) (span_name at h.value.id)
          (other_name at h.value.parent h.value.function) (part_number src at h.value.width)
          (first_of (count (own kind) xs) (count (own kind) (ms xs))) (count (own kind) (ms xs))
          (first_of (count Table.constraints xs) (count Table.constraints cs)) (count Table.constraints cs)

      row_words : x.members.walk.door ≡ Write → declaration_row src kind n x ≡ words
      unfolding declaration_row
      row_words q =
          let e : x.members.end ≡ at + len = g.members.ends ∙ sym whole_is.ends in
          let p : x.head.start ≡ place_at src at = g.head.start (sym g.head.wrote.door ∙ sym (member_wrote xs ta).door ∙ q) in
          let k : members_of kind x.members.walk - members_of kind x.head.walk ≡ count (own kind) (ms xs) =
          omega (arith, (member_wrote xs ta).counts (own kind)) in
          let l : counted Table.constraints x.head.walk - counted Table.constraints n ≡ count Table.constraints cs =
          omega (arith, g.head.wrote.counts Table.constraints, head_count src at h.value Table.constraints) in
          rw (p, e, g.head.id, g.head.other, g.head.width, k, l, sym (ta.counts (own kind)), sym (ta.counts Table.constraints))

      -- ---- the items
      seen : View src (member_nodes src kind i) (member_items src kind i) (own kind)
      seen = view src kind i whole_is.tagged

      nodes_seen : nodes (bytewise declaration) at (drop at src) ≡ tree z.root at len (draw_header z.keyword at (drop at src) h.value ⊕ seen.forest) nil
      nodes_seen =
          w.ready.known.known.nodes_are w.ready.ready.hits at
          ∙ whole_is.nodes_are
          ∙ ap (λ (v : Forest). tree z.root at len (draw_header z.keyword at (drop at src) h.value ⊕ v) nil) seen.is

      items_are : one_items src at xs ≡ head_items src at h.value ++ ms xs ++ row Table.declarations words ∷ []
      unfolding declaration_items
      items_are =
          ap (λ (v : Forest). parse_toplevel src xs v) nodes_seen
          ∙ one_node kind src xs at len (draw_header z.keyword at (drop at src) h.value ⊕ seen.forest)
          ∙ declaration_items_lem src xs (number kind) at len (drop at src) z.keyword h.value seen.members nil
          (one_at src at h.value.constraints (w.head.sound whole_is.headed))
          ∙ ap₂ (λ (ys : List Item) (u : Table). declaration_items src (number kind) at len h.value cs ys (count u xs) (count u ys) (count Table.constraints xs)
          (count Table.constraints cs)) (seen.seen (xs ++ cs)) seen.table

  pub kind_done : {x : Parts} {r : Walk} {a : Lent → Lent} {d d' f t c : List ℕ} → GoesParts src at kind h n x a (four d f t c)
      → GoesRow src kind n x r (lend Table.declarations d) (lend Table.declarations d')
      → GoesOne src at n (record { walk = r; end = x.members.end }) a (four d' f t c)
  kind_done {x} {r} {a} {d} {d'} {f} {t} {c} g o =
      record {
        wrote = λ xs ta.
            wrote_as (sym (items_are g xs ta))
            (wrote_then (wrote_then g.head.wrote (member_wrote g xs ta))
            (wrote_in (λ l. lend Table.fields f (lend Table.tags t (lend Table.constraints c l))) (o.goes (words g xs ta) (row_words g xs ta)).wrote));
        came = (o.goes (declaration_row src kind n x) (λ q. refl)).at;
        ends = end_is g;
      }
