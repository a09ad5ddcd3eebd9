-- The members of a declaration: what the walk over them asks, and what it comes to.
use Prim.Native.Nat.{ℕ, ◌+◌, ◌-◌, ◌≤◌}
use native.Mathlib.Omega.{arith}
use mathlib.Core.Path.{◌≡◌, refl, ap, subst, sym, ◌∙◌}
use mathlib.Core.List.{List}
use mathlib.Core.Logic.{◌⊎◌, inl, inr}
use mathlib.Core.Bool.{true, false}
use lib.ListN.{length, take, drop}
use Rattle.meaning.specs.Rules.{Rule, is}
use Rattle.meaning.specs.Peg.{seq, run, bytewise, hit, taken}
use Rattle.meaning.specs.Pdl.{text, skip, enum_tag, enum_tag_list, field, field_list}
use Rattle.meaning.specs.Tables.{Table, Item, Lent}
use Rattle.grammar.specs.Steps.{reads, at}
use Rattle.grammar.specs.Limits.{run_inside}
use Rattle.spans.specs.declared.Matched.{Matched}
use Rattle.spans.specs.declared.Tag.{Tag}
use Rattle.spans.specs.declared.Field.{Field}
use Rattle.spans.specs.Answers.{Enumerated, Fielded}
use Rattle.walk.specs.declared.Walk.{Walk}
use Rattle.walk.specs.declared.Walked.{Walked}
use Rattle.walk.specs.State.{lend, At}
use Rattle.walk.specs.Lending.{four}
use Rattle.walk.specs.Steps.{wrote_none, wrote_in, wrote_as, at_on}
use Rattle.walk.specs.Listing.{last, list_of}
use Rattle.walk.specs.Ends.{list_ends}
use Rattle.walk.specs.Lists.{Form, Ready, GoesList, stop, found_at}
use Rattle.tag_rows.specs.Tags.{tag_form}
use Rattle.field_rows.specs.Fields.{field_form}
use Rattle.declaration_rows.specs.Braces.{past_blanks, past_within}
use Rattle.declaration_rows.specs.declared.kinds.Kind.{Kind}
use Rattle.declaration_rows.specs.declared.kinds.Kind.TheVariants.{Enum, Packet, Struct, Group, Checksum, CustomField}
use Rattle.declaration_rows.specs.Members.{list_end, closing, past_comma, past_brace, tag_items, tag_end, field_items, field_end, Tagged, GoesTags, GoesFields, Membered, GoesMembers}
use Rattle.declaration_rows.specs.Ways.{GoesTo}

-- ---- where a list ends whose first item is at i
list_past : {A : Type 0} (z : Form A) (k : Rule) → is Rule.COMMENT k ≡ false → (src : List ℕ) (i : ℕ) → hit (run (bytewise z.peg) (drop i src)) ≡ true
    → list_end src (stop z src i) ≡ i + taken (run (bytewise (list_of k z.peg)) (drop i src))
list_past z k c src i h = sym (list_ends k z.peg c src i h (stop z src i) _ refl (reads last (drop (stop z src i) src) _ refl))

-- and the walk over it, behind a last comma or none
module _ {A : Type 0} {z : Form A} {src : List ℕ} {i : ℕ} {n : Walk} {r : Walked} {a b : Lent → Lent} (g : GoesList z src i n r a b) where
  pub list_in : r.end ≤ length src
  list_in = omega (arith, g.end, g.all.came.within)

  list_came : At src (list_end src r.end) r.walk
  list_came = at_on (omega (arith, g.end)) (run_inside src r.end last list_in) g.all.came

-- ---- tags
module _ {src : List ℕ} {i : ℕ} {n : Walk} (w : Tagged src i n) where
  pub tags_ready : {m : Matched Tag} → Enumerated enum_tag (take (length src - i) (drop i src)) m → Ready tag_form src i m n
  tags_ready {m} d = record { came = w.came; found = found_at m w.came.within d (ap hit (at i src d.drawn.reads).is ∙ w.hits) }

  tags_past : list_end src (stop tag_form src i) ≡ i + taken (run (bytewise enum_tag_list) (drop i src))
  unfolding enum_tag_list
  tags_past = list_past tag_form Rule.enum_tag_list refl src i w.hits

  pub tags_done : {r z : Walked} {a b : Lent → Lent} → GoesList tag_form src i n r a b → z ≡ past_comma src r → GoesTags src i n z a b
  tags_done {r} {z} {a} {b} g q =
      subst (λ (y : Walked). GoesTags src i n y a b) (sym q)
      (record { wrote = g.all.wrote; came = list_came g; ends = ap (list_end src) g.end ∙ tags_past })

-- ---- fields, if one matches
module _ {src : List ℕ} {i : ℕ} {n : Walk} (w : At src i n) (m : Matched Field) (d : Fielded (take (length src - i) (drop i src)) m) where
  hit_is : hit m.at ≡ hit (run (bytewise field) (drop i src))
  hit_is = ap hit (at i src d.drawn.reads).is

  pub none_done : (a : Lent → Lent) → hit m.at ≡ false → GoesFields src i n (record { walk = n; end = i }) a a
  none_done a h =
      let e : hit (run (bytewise field) (drop i src)) ≡ false = sym hit_is ∙ h in
      record {
        wrote = λ xs t. wrote_as (rw e refl) (wrote_none n a);
        came = w;
        ends = rw e refl;
      }

  module _ (h : hit m.at ≡ true) where
    hits : hit (run (bytewise field) (drop i src)) ≡ true
    hits = sym hit_is ∙ h

    pub fields_ready : Ready field_form src i m n
    fields_ready = record { came = w; found = found_at m w.within d h }

    fields_past : list_end src (stop field_form src i) ≡ i + taken (run (bytewise field_list) (drop i src))
    unfolding field_list
    fields_past = list_past field_form Rule.field_list refl src i hits

    pub fields_done : {r z : Walked} {a b : Lent → Lent} → GoesList field_form src i n r a b → z ≡ past_comma src r → GoesFields src i n z a b
    fields_done {r} {z} {a} {b} g q =
        subst (λ (y : Walked). GoesFields src i n y a b) (sym q)
        (record {
          wrote = λ xs t. wrote_as (rw hits refl) (g.all.wrote xs t);
          came = list_came g;
          ends = ap (list_end src) g.end ∙ fields_past ∙ rw hits refl;
        })

-- ---- with more tables lent
goes_in : {items : List Item → List Item} {src : List ℕ} {e : ℕ} {n : Walk} {r : Walked} {a b : Lent → Lent} (f : Lent → Lent) → GoesTo items src e n r a b
    → GoesTo items src e n r (λ l. a (f l)) (λ l. b (f l))
goes_in f g = record { wrote = λ xs t. wrote_in f (g.wrote xs t); came = g.came; ends = g.ends }

-- ---- the members of a kind, behind a head that ends at e
module _ {src : List ℕ} {e : ℕ} {n : Walk} (w : At src e n) where
  -- a kind without braces
  pub bare_done : {k : Kind} (a : Lent → Lent) → (k ≡ Checksum) ⊎ (k ≡ CustomField) → GoesMembers src e k n (record { walk = n; end = e }) a a
  bare_done a (inl h) = rw h (record { wrote = λ xs t. wrote_none n a; came = w; ends = refl })
  bare_done a (inr h) = rw h (record { wrote = λ xs t. wrote_none n a; came = w; ends = refl })

  -- i is behind the blanks that follow the head
  module _ {i : ℕ} (start_is : i ≡ past_blanks src e) where
    pub start_in : i ≤ length src
    start_in = omega (arith, start_is, past_within src e w.within)

    pub start_came : At src i n
    start_came = at_on (omega (arith, start_is)) start_in w

    pub tagged_ready : {k : Kind} → Membered src e k n → k ≡ Enum → Tagged src i n
    tagged_ready g z = record { came = start_came; hits = ap (λ (y : ℕ). hit (run (bytewise enum_tag) (drop y src))) start_is ∙ g.tagged z }

    -- r has come to the end of the members, z behind the brace
    module _ {r z : Walked} (q : z ≡ past_brace src r) where
      braced : (items : ℕ → List Item → List Item) (stop : ℕ → ℕ) {a b : Lent → Lent} → GoesTo (items i) src (stop i) n r a b
          → GoesTo (items (past_blanks src e)) src (closing src (stop (past_blanks src e))) n z a b
      braced items stop {a} {b} g0 =
          let g : GoesTo (items (past_blanks src e)) src (stop (past_blanks src e)) n r a b =
          subst (λ (y : ℕ). GoesTo (items y) src (stop y) n r a b) start_is g0 in
          subst (λ (y : Walked). GoesTo (items (past_blanks src e)) src (closing src (stop (past_blanks src e))) n y a b) (sym q)
          (record {
            wrote = g.wrote;
            came = at_on (omega arith) (run_inside src r.end (seq skip (text "}")) g.came.within) g.came;
            ends = ap (closing src) g.ends;
          })

      -- those of an enum are tags
      pub tags_closed : {k : Kind} (d f c : List ℕ) {t t' : List ℕ} → k ≡ Enum → GoesTags src i n r (lend Table.tags t) (lend Table.tags t')
          → GoesMembers src e k n z (four d f t c) (four d f t' c)
      tags_closed d f c {t} {t'} h g =
          rw h (goes_in (λ l. lend Table.declarations d (lend Table.fields f (lend Table.constraints c l))) (braced (tag_items src) (tag_end src) g))

      -- those of all others that have braces are fields
      pub fields_closed : {k : Kind} (d t : List ℕ) {f f' c c' : List ℕ} → (k ≡ Packet) ⊎ ((k ≡ Struct) ⊎ (k ≡ Group))
          → GoesFields src i n r (λ l. lend Table.fields f (lend Table.constraints c l)) (λ l. lend Table.fields f' (lend Table.constraints c' l))
          → GoesMembers src e k n z (four d f t c) (four d f' t c')
      fields_closed {k} d t {f} {f'} {c} {c'} h g = go h
        where
          all : GoesMembers src e Packet n z (four d f t c) (four d f' t c')
          all = goes_in (λ l. lend Table.declarations d (lend Table.tags t l)) (braced (field_items src) (field_end src) g)

          go : (k ≡ Packet) ⊎ ((k ≡ Struct) ⊎ (k ≡ Group)) → GoesMembers src e k n z (four d f t c) (four d f' t c')
          go (inl q) = rw q all
          go (inr (inl q)) = rw q all
          go (inr (inr q)) = rw q all
