-- Feeding a source's own rows to the aligner: a packet, struct or group of an accepted source is never refused with 15 or 17.
use Rattle.std.specs.Prelude.{ℕ, ◌+◌, ◌≤◌, ◌<◌, ◌≡◌, refl, false, List, [], ◌∷◌, get_or, replicate}
use Rattle.std.proofs.Common.{arith, sym, ap, ◌∙◌}
use borrow.Author.Tests.{le-ltb, lt-leb, ne_eqb}
use Rattle.meaning.specs.Quoted.{bytes}
use Rattle.meaning.specs.Tables.{Table, size, Item, count, room, Lent, lent}
use Rattle.meaning.specs.Rows.{row_kind, declaration_first, declaration_count, field_flag_a, field_flag_b}
use Rattle.meaning.specs.Moving.{members}
use Rattle.meaning.specs.Walk.{items}
use Rattle.meaning.specs.Reading.{answer}
use Rattle.meaning.specs.Feeding.{declaration_word, field_word, among, damaged, feed_number, layout}
use Rattle.meaning.specs.Everything.{everything}
use Rattle.reading.specs.Sources.{whole}
use Rattle.reading.specs.Promises.{Acceptable, accepted_only}
use Rattle.text.specs.ChoiceLaws.{never}
use Rattle.sound_rows.specs.EveryRow.{at_row}
use Rattle.sound_rows.specs.Indices.{nth, accepted_indexed}
use Rattle.sound_rows.specs.FieldRows.{sound_fields}
use Rattle.sound_rows.specs.TableWords.{word_is, roomy_left}
use Rattle.sound_rows.specs.FedNumbers.{own_numbers, Fair, fair_layout}

module _ (src : List ℕ) (l : Lent) (h : Acceptable src l) where
  abbrev xs : List Item
  xs = items src (whole src)

  abbrev ds : List ℕ
  ds = lent Table.declarations (answer src l).left

  abbrev fs : List ℕ
  fs = lent Table.fields (answer src l).left

  whole_fields : (j : ℕ) → j < count Table.fields xs → damaged fs j ≡ false
  whole_fields j a =
      let e : (i : ℕ) → i < size Table.fields → field_word fs j i ≡ get_or (nth Table.fields xs j) i 0 = λ i b. word_is src l h Table.fields j i a b in
      rw (e row_kind (omega arith), e field_flag_a (omega arith), e field_flag_b (omega arith))
      (at_row Table.fields (sound_fields h.source) j a)

  module _ (d : ℕ) (a : d < count Table.declarations xs) (low : 2 ≤ declaration_word ds d row_kind) (high : declaration_word ds d row_kind ≤ 4) where
    own_word : (i : ℕ) → i < size Table.declarations → declaration_word ds d i ≡ get_or (nth Table.declarations xs d) i 0
    own_word i b = word_is src l h Table.declarations d i a b

    has_fields : declaration_word ds d declaration_first + declaration_word ds d declaration_count ≤ count Table.fields xs
    has_fields =
        let e : members (declaration_word ds d row_kind) ≡ Table.fields = rw (ne_eqb (declaration_word ds d row_kind) 1 (λ z. omega arith)) refl in
        let k : count (members (get_or (nth Table.declarations xs d) row_kind 0)) xs ≡ count Table.fields xs =
        ap (λ (i : ℕ). count (members i) xs) (sym (own_word row_kind (omega arith))) ∙ ap (λ (t : Table). count t xs) e in
        omega (
          arith,
          k,
          own_word declaration_first (omega arith),
          own_word declaration_count (omega arith),
          ((accepted_indexed h.source).at Table.declarations d a).0,
        )

    no_refusal : feed_number ds fs d ≡ 0
    unfolding feed_number
    no_refusal =
        rw (
          lt-leb (room (size Table.declarations) ds) d (omega (arith, roomy_left src l h Table.declarations)),
          le-ltb (declaration_word ds d row_kind) 2 low,
          le-ltb 4 (declaration_word ds d row_kind) high,
          le-ltb (room (size Table.fields) fs) (declaration_word ds d declaration_first + declaration_word ds d declaration_count)
              (omega (arith, has_fields, roomy_left src l h Table.fields)),
        )

    own_fair : (ps cs : List ℕ) → Fair (layout ds fs d ps cs).number
    own_fair ps cs = fair_layout ds fs d ps cs no_refusal (λ j b. whole_fields j (omega (arith, has_fields)))

-- OWN ROWS. 01, 'Refusal numbers': 15 is 'index past the lent rows, or kind not 2 to 4', and 17 'damaged row'. Of the tables that an accepted
-- reading left, whatever they held before, no packet, struct or group is refused with either when it is fed ('Aligner').
pub own_rows : (src : List ℕ) (l : Lent) → (answer src l).answer.number ≡ 0 → let ds = lent Table.declarations (answer src l).left in
    let fs = lent Table.fields (answer src l).left in
    (d : ℕ) → d < count Table.declarations (items src (whole src)) → 2 ≤ declaration_word ds d row_kind → declaration_word ds d row_kind ≤ 4
    → (ps cs : List ℕ) → ((layout ds fs d ps cs).number ≡ 15 → ⊥) × ((layout ds fs d ps cs).number ≡ 17 → ⊥)
own_rows src l h d a low high ps cs =
    let f = own_fair src l (accepted_only src l h) d a low high ps cs in
    (λ e. never (sym f.is ∙ ap (λ (n : ℕ). among n own_numbers) e), λ e. never (sym f.is ∙ ap (λ (n : ℕ). among n own_numbers) e))

-- ---- worked: tables of threes, with a row to spare. An enum and a checksum are 15, a typedef is 14; the row behind the last one is
-- a struct of threes, whose fields are damaged
abbrev sample : List ℕ
sample = bytes "big_endian_packets\nenum E : 8 { A = 1 } packet P { _size_(_payload_): 8, _payload_ } struct S { e: E } checksum C : 8 \"c\""

abbrev threes : ℕ → List ℕ
threes n = replicate n 3

abbrev left : Lent
left = (answer sample (record { w1 = threes 85; w2 = threes 120; w3 = threes 12; w4 = []; w5 = [] })).left

abbrev fed : ℕ → ℕ
fed d = (layout left.w1 left.w2 d (threes 30) (threes 30)).number

numbers_fed : fed 0 ∷ fed 1 ∷ fed 2 ∷ fed 3 ∷ fed 4 ∷ [] ≡ 15 ∷ 0 ∷ 14 ∷ 15 ∷ 17 ∷ []
unfolding everything
numbers_fed = refl
