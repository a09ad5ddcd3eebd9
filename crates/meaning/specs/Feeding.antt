-- Feeding a packet, struct or group to the aligner (01, the last paragraph of 'Aligner').
use Rattle.std.specs.Prelude.{ℕ, zero, suc, ◌+◌, ◌*◌, List, [], ◌∷◌, Bool, true, false, get_or, ltb, leb, eqb}
use Rattle.meaning.specs.Choice.{pick, both}
use Rattle.meaning.specs.Tables.{Table, size, room}
use Rattle.meaning.specs.Rows.{row_kind, declaration_first, declaration_count, field_flag_a, field_number_a, field_flag_b, field_condition, placed_size, placed_symbol}
use Rattle.meaning.specs.Alignment.{fresh, World, world, first, ◌⇒◌, end_number, Called, add_bitfield, add_dyn_bytes, call}

-- word i of row k
abbrev pub word : List ℕ → ℕ → ℕ → ℕ → ℕ
word t size k i = get_or t (k * size + i) 0

abbrev pub declaration_word : List ℕ → ℕ → ℕ → ℕ
declaration_word ds k i = word ds (size Table.declarations) k i

abbrev pub field_word : List ℕ → ℕ → ℕ → ℕ
field_word fs k i = word fs (size Table.fields) k i

abbrev pub among : ℕ → List ℕ → Bool
among k [] = false
among k (x ∷ xs) = pick (eqb k x) true (among k xs)

-- number a is always present in these kinds
abbrev pub numbered : List ℕ
numbered = 2 ∷ 3 ∷ 4 ∷ 5 ∷ 8 ∷ 10 ∷ 12 ∷ []

-- 17: kind outside 1 to 14, a number flag over 1, number a missing
abbrev pub damaged : List ℕ → ℕ → Bool
damaged fs i =
    ltb 0
    (first
    ((ltb (field_word fs i row_kind) 1 ⇒ 17)
    ∷ (ltb 14 (field_word fs i row_kind) ⇒ 17)
    ∷ (ltb 1 (field_word fs i field_flag_a) ⇒ 17)
    ∷ (ltb 1 (field_word fs i field_flag_b) ⇒ 17)
    ∷ (both (among (field_word fs i row_kind) numbered) (eqb (field_word fs i field_flag_a) 0) ⇒ 17)
    ∷ []))

abbrev pub refusing : ℕ → World → Called
refusing n w = record { number = n; left = w }

-- one field; its symbol is its row's index
unfoldable pub feed_field : List ℕ → ℕ → World → Called
feed_field fs i w =
    let kind = field_word fs i row_kind in
    pick (damaged fs i) (refusing 17 w)
    (pick (ltb 0 (field_word fs i field_condition)) (call (add_dyn_bytes i) w)
    (pick (among kind (3 ∷ 4 ∷ 5 ∷ 8 ∷ 10 ∷ 12 ∷ [])) (call (add_bitfield i (field_word fs i field_number_a)) w)
    (pick (among kind (6 ∷ 7 ∷ 11 ∷ [])) (call (add_dyn_bytes i) w)
    (pick (among kind (1 ∷ 2 ∷ [])) (refusing 0 w) (refusing 14 w)))))

pub record Fed : Type 0 where
  pub number : ℕ
  pub place : ℕ
  pub left : World

abbrev pub fed_refused : ℕ → ℕ → World → Fed
fed_refused n p w = record { number = n; place = p; left = w }

abbrev pub onto : Called → ℕ → (World → Fed) → Fed
onto x i q = elim x.number [ zero ↦ q x.left | suc n ↦ fed_refused (suc n) i x.left ]

-- n fields from row i on, then the end: its place is the first staged field row
unfoldable pub feed_fields : List ℕ → ℕ → ℕ → World → Fed
feed_fields fs zero i w = fed_refused (end_number w) (pick (eqb (end_number w) 0) 0 (word w.ps placed_size w.st.start placed_symbol)) w
feed_fields fs (suc n) i w = onto (feed_field fs i w) i (λ v. feed_fields fs n (i + 1) v)

pub record Layout : Type 0 where
  pub number : ℕ
  pub place : ℕ
  pub placed : ℕ
  pub chunks : ℕ
  pub ps : List ℕ
  pub cs : List ℕ

abbrev pub laid : Fed → List ℕ → List ℕ → Layout
laid x ps cs =
    pick (eqb x.number 0)
    (record { number = 0; place = 0; placed = x.left.st.placed; chunks = x.left.st.chunks; ps = x.left.ps; cs = x.left.cs })
    (record { number = x.number; place = x.place; placed = 0; chunks = 0; ps = ps; cs = cs })

-- 15, then 17 if first plus count is above the field rows, then field by field
unfoldable pub feed_number : List ℕ → List ℕ → ℕ → ℕ
feed_number ds fs d =
    first
    ((leb (room (size Table.declarations) ds) d ⇒ 15)
    ∷ (ltb (declaration_word ds d row_kind) 2 ⇒ 15)
    ∷ (ltb 4 (declaration_word ds d row_kind) ⇒ 15)
    ∷ (ltb (room (size Table.fields) fs) (declaration_word ds d declaration_first + declaration_word ds d declaration_count) ⇒ 17)
    ∷ [])

unfoldable pub layout : List ℕ → List ℕ → ℕ → List ℕ → List ℕ → Layout
layout ds fs d ps cs =
    elim (feed_number ds fs d) [
      | zero ↦ laid (feed_fields fs (declaration_word ds d declaration_count) (declaration_word ds d declaration_first) (world fresh ps cs)) ps cs
      | suc n ↦ laid (fed_refused (suc n) d (world fresh ps cs)) ps cs
    ]
