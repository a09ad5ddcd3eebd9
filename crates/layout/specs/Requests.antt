-- What a field row asks of the aligner, apart from the aligner's state.
use Rattle.std.specs.Prelude.{ℕ, ◌≡◌, List, [], ◌∷◌, Bool, true, false, ltb, eqb, Result, Ok, Err}
use Rattle.std.proofs.Math.Path.{refl}
use Rattle.meaning.specs.Choice.{pick, both}
use Rattle.meaning.specs.Rows.{row_kind, field_flag_a, field_number_a, field_flag_b, field_condition}
use Rattle.meaning.specs.Alignment.{World, first, ◌⇒◌, Called, add_bitfield, add_dyn_bytes, call}
use Rattle.meaning.specs.Feeding.{field_word, among, numbered, damaged, refusing, feed_field}
use Rattle.layout.specs.declared.Request.{Request}
use Rattle.layout.specs.declared.Request.TheVariants.{Nothing, Bits, Dynamic}
use Rattle.layout.specs.declared.Refusal.{Refusal}
use Rattle.layout.specs.declared.Refusal.TheVariants.{DamagedRow, WidthNotInSyntax}
use Rattle.layout.specs.Refusals.{number}

-- 17, by the kind and both number flags
unfoldable pub damage : ℕ → ℕ → ℕ → Bool
damage kind flag other =
    ltb 0
    (first
    ((ltb kind 1 ⇒ 17)
    ∷ (ltb 14 kind ⇒ 17)
    ∷ (ltb 1 flag ⇒ 17)
    ∷ (ltb 1 other ⇒ 17)
    ∷ (both (among kind numbered) (eqb flag 0) ⇒ 17)
    ∷ []))

-- what a kind asks for, without a condition
unfoldable pub by_kind : ℕ → ℕ → Result Request Refusal
by_kind kind width =
    pick (among kind (3 ∷ 4 ∷ 5 ∷ 8 ∷ 10 ∷ 12 ∷ [])) (Ok (Bits width))
    (pick (among kind (6 ∷ 7 ∷ 11 ∷ [])) (Ok Dynamic) (pick (among kind (1 ∷ 2 ∷ [])) (Ok Nothing) (Err WidthNotInSyntax)))

unfoldable pub request : List ℕ → ℕ → Result Request Refusal
request fs i =
    pick (damage (field_word fs i row_kind) (field_word fs i field_flag_a) (field_word fs i field_flag_b)) (Err DamagedRow)
    (pick (ltb 0 (field_word fs i field_condition)) (Ok Dynamic) (by_kind (field_word fs i row_kind) (field_word fs i field_number_a)))

-- the aligner's answer to it; i is the symbol
unfoldable pub served : Result Request Refusal → ℕ → World → Called
served (Ok Nothing) i w = refusing 0 w
served (Ok (Bits v)) i w = call (add_bitfield i v) w
served (Ok Dynamic) i w = call (add_dyn_bytes i) w
served (Err e) i w = refusing (number e) w

-- that is what feeding a field means
module _ (i : ℕ) (w : World) where
  choice : (b : Bool) (x y : Called) (p q : Result Request Refusal) → x ≡ served p i w → y ≡ served q i w → pick b x y ≡ served (pick b p q) i w
  choice true x y p q e f = e
  choice false x y p q e f = f

  pub feeds : (fs : List ℕ) → feed_field fs i w ≡ served (request fs i) i w
  unfolding feed_field request served damage by_kind
  feeds fs =
      let kind = field_word fs i row_kind in
      choice (damaged fs i) _ _ (Err DamagedRow) _ refl
      (choice (ltb 0 (field_word fs i field_condition)) _ _ (Ok Dynamic) _ refl
      (choice (among kind (3 ∷ 4 ∷ 5 ∷ 8 ∷ 10 ∷ 12 ∷ [])) _ _ (Ok (Bits (field_word fs i field_number_a))) _ refl
      (choice (among kind (6 ∷ 7 ∷ 11 ∷ [])) _ _ (Ok Dynamic) _ refl (choice (among kind (1 ∷ 2 ∷ [])) _ _ (Ok Nothing) (Err WidthNotInSyntax) refl refl))))
