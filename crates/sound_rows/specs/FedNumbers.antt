-- What feeding answers where the declaration is not refused and no field is damaged: neither 15 nor 17.
use Rattle.std.specs.Prelude.{ℕ, zero, suc, ◌+◌, ◌<◌, ◌≡◌, refl, Bool, true, false, List, [], ◌∷◌, ltb, eqb}
use Rattle.std.proofs.Common.{arith}
use Rattle.meaning.specs.Choice.{pick, both}
use Rattle.meaning.specs.Rows.{row_kind, declaration_first, declaration_count, field_condition, field_number_a}
use Rattle.meaning.specs.Alignment.{max_chunk_width, World, world, fresh, staged, sound, due, no_placed, no_chunk, bits_number, dyn_number, end_number, Called, add_bitfield, add_dyn_bytes, call}
use Rattle.meaning.specs.Feeding.{declaration_word, field_word, among, damaged, refusing, feed_field, feed_fields, Fed, onto, feed_number, Layout, laid, layout}

-- ---- numbers that are neither 15 nor 17
abbrev pub own_numbers : List ℕ
own_numbers = 15 ∷ 17 ∷ []

pub record Fair (n : ℕ) : Type 0 where
  pub is : among n own_numbers ≡ false

fair_pick : (b : Bool) (n : ℕ) {m : ℕ} → among n own_numbers ≡ false → Fair m → Fair (pick b n m)
fair_pick true n h k = record { is = h }
fair_pick false n h k = k

nought : Fair 0
nought = record { is = refl }

fair_end : (w : World) → Fair (end_number w)
unfolding end_number
fair_end w = fair_pick (ltb 0 (sound w)) 18 refl (fair_pick (staged w.st) 16 refl nought)

-- ---- calls that answer such a number
record FairCall (x : Called) : Type 0 where
  pub number : Fair x.number

fair_bits : (s v : ℕ) (w : World) → FairCall (call (add_bitfield s v) w)
unfolding call bits_number
fair_bits s v w =
    let total = w.st.width + v in
    record {
      number =
          fair_pick (ltb 0 (sound w)) 18 refl (fair_pick (ltb max_chunk_width total) 12 refl (fair_pick (no_placed w) 13 refl
          (fair_pick (both (due total) (no_chunk w)) 13 refl nought)));
    }

fair_dynamic : (s : ℕ) (w : World) → FairCall (call (add_dyn_bytes s) w)
unfolding call dyn_number
fair_dynamic s w = record { number = fair_pick (ltb 0 (sound w)) 18 refl (fair_pick (staged w.st) 10 refl (fair_pick (no_chunk w) 13 refl nought)) }

fair_refusing : (n : ℕ) (w : World) → among n own_numbers ≡ false → FairCall (refusing n w)
fair_refusing n w h = record { number = record { is = h } }

fair_choice : (b : Bool) {x y : Called} → FairCall x → FairCall y → FairCall (pick b x y)
fair_choice true h k = h
fair_choice false h k = k

-- ---- fields that are not damaged
fair_field : (fs : List ℕ) (i : ℕ) (w : World) → damaged fs i ≡ false → FairCall (feed_field fs i w)
unfolding feed_field
fair_field fs i w e =
    let kind = field_word fs i row_kind in
    rw e (fair_choice (ltb 0 (field_word fs i field_condition)) (fair_dynamic i w)
    (fair_choice (among kind (3 ∷ 4 ∷ 5 ∷ 8 ∷ 10 ∷ 12 ∷ [])) (fair_bits i (field_word fs i field_number_a) w)
    (fair_choice (among kind (6 ∷ 7 ∷ 11 ∷ [])) (fair_dynamic i w)
    (fair_choice (among kind (1 ∷ 2 ∷ [])) (fair_refusing 0 w refl) (fair_refusing 14 w refl)))))

fair_onto : (x : Called) (i : ℕ) (q : World → Fed) → Fair x.number → ((v : World) → Fair (q v).number) → Fair (onto x i q).number
fair_onto x i q h k = go x.number h
  where
    go : (n : ℕ) → Fair n → Fair (onto (record { number = n; left = x.left }) i q).number
    go zero h = k x.left
    go (suc n) h = h

fair_fields : (fs : List ℕ) (n i : ℕ) (w : World) → ((j : ℕ) → j < i + n → damaged fs j ≡ false) → Fair (feed_fields fs n i w).number
unfolding feed_fields
fair_fields fs zero i w h = fair_end w
fair_fields fs (suc n) i w h =
    fair_onto (feed_field fs i w) i (λ v. feed_fields fs n (i + 1) v) (fair_field fs i w (h i (omega arith))).number
    (λ v. fair_fields fs n (i + 1) v (λ j a. h j (omega arith)))

fair_laid : (x : Fed) (ps cs : List ℕ) → Fair x.number → Fair (laid x ps cs).number
fair_laid x ps cs h = go (eqb x.number 0)
  where
    go : (b : Bool) → Fair (pick {A = Layout} b
        (record { number = 0; place = 0; placed = x.left.st.placed; chunks = x.left.st.chunks; ps = x.left.ps; cs = x.left.cs })
        (record { number = x.number; place = x.place; placed = 0; chunks = 0; ps = ps; cs = cs })).number
    go true = nought
    go false = h

pub fair_layout : (ds fs : List ℕ) (d : ℕ) (ps cs : List ℕ) → feed_number ds fs d ≡ 0
    → ((j : ℕ) → j < declaration_word ds d declaration_first + declaration_word ds d declaration_count → damaged fs j ≡ false)
    → Fair (layout ds fs d ps cs).number
unfolding layout
fair_layout ds fs d ps cs e h =
    let i = declaration_word ds d declaration_first in
    let n = declaration_word ds d declaration_count in
    rw (e, layout) (fair_laid (feed_fields fs n i (world fresh ps cs)) ps cs (fair_fields fs n i (world fresh ps cs) h))
