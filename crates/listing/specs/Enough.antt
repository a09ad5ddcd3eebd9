-- The programs' page of 131,072 bytes has room for the rows of all their tables, and so for the table lines of every source.
use Rattle.std.specs.Prelude.{ℕ, ◌*◌, ◌≤◌, ◌≡◌, refl, List, [], ◌∷◌, Bool, true, false, ltb, eqb, length}
use Rattle.std.proofs.Common.{ap, ◌∙◌, arith, eqb-true}
use Rattle.std.proofs.lemmas.List.{length-replicate}
use Rattle.meaning.specs.Choice.{pick}
use Rattle.meaning.specs.Tables.{Table, size, lent}
use Rattle.meaning.specs.Rows.{endianness_size}
use Rattle.meaning.specs.Reading.{Outcome, answer}
use Rattle.reading.specs.Promises.{Acceptable, rows, same_lengths, accepted_only}
use Rattle.printing.specs.Answers.{refusal, reading, answered}
use Rattle.printing.specs.Room.{line_room, reading_room}
use Rattle.listing.specs.declared.Wanted.TheVariants.{Tables}
use Rattle.listing.specs.Lists.{longest, empty, lines_of, listed}

pub enough : (e counts ds fs ts cs ms : List ℕ) → length e ≡ endianness_size → length ds ≡ 40 * size Table.declarations → length fs ≡ 100 * size Table.fields
    → length ts ≡ 100 * size Table.tags → length cs ≡ 60 * size Table.constraints → length ms ≡ 100 * size Table.comments
    → length (reading e counts ds fs ts cs ms) ≤ 131072
enough e counts ds fs ts cs ms a b c d f g = omega (arith, reading_room e counts ds fs ts cs ms)

-- what is left of the programs' tables, and the words of the endianness, where a source is accepted
record Sizes (o : Outcome) : Type 0 where
  line : length o.answer.endianness ≡ endianness_size
  declarations : length o.left.w1 ≡ 40 * size Table.declarations
  fields : length o.left.w2 ≡ 100 * size Table.fields
  tags : length o.left.w3 ≡ 100 * size Table.tags
  constraints : length o.left.w4 ≡ 60 * size Table.constraints
  comments : length o.left.w5 ≡ 100 * size Table.comments

sizes : (src : List ℕ) → Acceptable src empty → Sizes (answer src empty)
sizes src h =
    let words : (t : Table) → length (lent t (answer src empty).left) ≡ length (lent t empty) = same_lengths src empty in
    record {
      line = ap (λ (z : Outcome). length z.answer.endianness) (rows src empty h);
      declarations = words Table.declarations ∙ length-replicate {A = ℕ} (40 * size Table.declarations) 0;
      fields = words Table.fields ∙ length-replicate {A = ℕ} (100 * size Table.fields) 0;
      tags = words Table.tags ∙ length-replicate {A = ℕ} (100 * size Table.tags) 0;
      constraints = words Table.constraints ∙ length-replicate {A = ℕ} (60 * size Table.constraints) 0;
      comments = words Table.comments ∙ length-replicate {A = ℕ} (100 * size Table.comments) 0;
    }

refusal_room : (number place reason : ℕ) → length (refusal number place reason) ≤ 131072
refusal_room number place reason = omega (arith, line_room 82 (number ∷ place ∷ reason ∷ []))

answered_room : (o : Outcome) → (o.answer.number ≡ 0 → Sizes o) → length (answered o) ≤ 131072
unfolding answered
answered_room o h = go (eqb o.answer.number 0) refl
  where
    go : (b : Bool) → eqb o.answer.number 0 ≡ b
        → length (pick b (reading o.answer.endianness o.answer.counts o.left.w1 o.left.w2 o.left.w3 o.left.w4 o.left.w5)
        (refusal o.answer.number o.answer.place o.answer.reason)) ≤ 131072
    go true e =
        let z : Sizes o = h (eqb-true o.answer.number 0 e) in
        enough o.answer.endianness o.answer.counts o.left.w1 o.left.w2 o.left.w3 o.left.w4 o.left.w5 z.line
        z.declarations z.fields z.tags z.constraints z.comments
    go false e = refusal_room o.answer.number o.answer.place o.answer.reason

pub tables_room : (src : List ℕ) → length (listed Tables src) ≤ 131072
unfolding listed lines_of
tables_room src = go (ltb longest (length src)) (answered_room (answer src empty) (λ z. sizes src (accepted_only src empty z)))
  where
    go : (b : Bool) → length (answered (answer src empty)) ≤ 131072 → length (pick b (refusal 1 longest 0) (answered (answer src empty))) ≤ 131072
    go true h = refusal_room 1 longest 0
    go false h = h
