-- What the equation of `read` promises, from that equation alone: all stands over `answer`.
use Rattle.std.specs.Prelude.{ℕ, ◌*◌, ◌≤◌, ◌<◌, ◌≡◌, Bool, length, take, drop, ltb}
use Rattle.std.proofs.Common.{arith, sym, ◌∙◌}
use Rattle.std.proofs.Math.Path.{refl, ap}
use mathlib.Core.List.{List, []}
use Rattle.std.proofs.Math.Bool.{true, false}
use borrow.Author.Tests.{eq-eqb, eqb-true, eqb-false}
use Rattle.std.proofs.Math.Dec.{eqb}
use Rattle.meaning.specs.Choice.{pick}
use Rattle.meaning.specs.Utf8.{valid}
use Rattle.meaning.specs.Rules.{Rule}
use Rattle.meaning.specs.Forest.{Out, missed, took, eval, clean}
use Rattle.meaning.specs.Pdl.{file}
use Rattle.meaning.specs.Tables.{Table, size, Item, rows_of, count, first_bad, flat, room, Lent, lent, filled, fill, short, needed, all}
use Rattle.meaning.specs.Rows.{endianness_size}
use Rattle.meaning.specs.Walk.{part, items, endianness}
use Rattle.meaning.specs.Reading.{Reading, refused, accepted, longest, walked, parsed, reading, Outcome, zeros, stored, settle, answer}
use Rattle.reading.specs.Sorts.{of_toplevel, of_comments}
use Rattle.reading.specs.Partition.{sized}
use Rattle.reading.specs.Sources.{whole}
use Rattle.reading.specs.Surveys.{surveyed}
use Rattle.reading.specs.Acceptance.{Accepts, reads, accepts}
use Rattle.ast.specs.RowLaws.{Sized, length_puts}
use Rattle.reading.specs.Rooms.{Roomy, roomy, none_short, first_words, words_behind}

-- ---- a number from 0 to 5; an accepted reading has no place and no reason, and a refused one leaves all as it came
pub record Orderly (l : Lent) (o : Outcome) : Type 0 where
  pub number : o.answer.number ≤ 5
  pub accepted : o.answer.number ≡ 0 → (o.answer.place ≡ 0) × (o.answer.reason ≡ 0)
  pub tables : (o.answer.number ≡ 0 → ⊥) → o.left ≡ l
  pub counts : (o.answer.number ≡ 0 → ⊥) → o.answer.counts ≡ zeros 5
  pub endianness : (o.answer.number ≡ 0 → ⊥) → o.answer.endianness ≡ zeros endianness_size

-- refusals 1 to 4
abbrev Numbered : Reading → Type 0
Numbered (refused n p r) = (0 < n) × (n < 5)
Numbered (accepted e xs) = Unit {0}

numbered : (src : List ℕ) → Numbered (reading src)
unfolding reading walked
numbered src = go (ltb longest (length src)) (ltb (valid src) (length src)) (eval file 0 src)
  where
    whether : (b : Bool) (e : List ℕ) (xs : List Item) (p r : ℕ) → Numbered (pick b (accepted e xs) (refused 4 p r))
    whether true e xs p r = tt
    whether false e xs p r = (omega arith, omega arith)

    go : (a b : Bool) (x : Out) → Numbered (pick a (refused 1 longest 0) (pick b (refused 2 (valid src) 0) (parsed src x)))
    go true b x = (omega arith, omega arith)
    go false true x = (omega arith, omega arith)
    go false false (missed f) = (omega arith, omega arith)
    go false false (took n f w) = whether (eqb (first_bad (items src w)).reason 0) (endianness src w) (items src w) (first_bad (items src w)).place
        (first_bad (items src w)).reason

module _ (l : Lent) where
  settled : (r : Reading) → Numbered r → Orderly l (settle r l)
  settled (refused n p r) h =
      record {
        number = omega (arith, h.1);
        accepted = λ z. absurd (omega (arith, h.0));
        tables = λ z. refl;
        counts = λ z. refl;
        endianness = λ z. refl;
      }
  settled (accepted e xs) h = go (eqb (short all xs l) 0)
    where
      go : (b : Bool) → Orderly l (pick b (stored e xs l) (settle (refused 5 (short all xs l) (needed all xs l)) l))
      go true =
          record {
            number = omega arith;
            accepted = λ z. (refl, refl);
            tables = λ z. absurd (z refl);
            counts = λ z. absurd (z refl);
            endianness = λ z. absurd
                (z refl);
          }
      go false =
          record { number = omega arith; accepted = λ z. absurd (omega arith); tables = λ z. refl; counts = λ z. refl; endianness = λ z. refl }

  pub orderly : (src : List ℕ) → Orderly l (answer src l)
  unfolding answer
  orderly src = settled (reading src) (numbered src)

-- ---- acceptance: the source passes checks 1 to 4, and each table has room for its rows
pub record Acceptable (src : List ℕ) (l : Lent) : Type 0 where
  pub source : Accepts src
  pub tables : Roomy (items src (whole src)) l

module _ (src : List ℕ) (l : Lent) where
  answer_is : Accepts src → answer src l ≡ settle (accepted (endianness src (whole src)) (items src (whole src))) l
  unfolding answer
  answer_is h = ap (λ (r : Reading). settle r l) (reads h)

  -- the rows of an accepted reading, its counts and its endianness are those of the grammar's forest
  pub rows : Acceptable src l → answer src l ≡ stored (endianness src (whole src)) (items src (whole src)) l
  rows h =
      let e : eqb (short all (items src (whole src)) l) 0
      ≡ true = eq-eqb (short all (items src (whole src)) l) 0 (none_short (items src (whole src)) l h.tables) in
      answer_is h.source ∙ rw e

  pub accepted_if : Acceptable src l → (answer src l).answer.number ≡ 0
  accepted_if h = ap (λ (o : Outcome). o.answer.number) (rows h)

  no_refusal : (answer src l).answer.number ≡ 0 → Accepts src
  unfolding answer
  no_refusal h = accepts src (go (reading src) h)
    where
      go : (r : Reading) → (settle r l).answer.number ≡ 0 → (surveyed r).number ≡ 0
      go (refused n p r) e = e
      go (accepted e xs) k = refl

  pub accepted_only : (answer src l).answer.number ≡ 0 → Acceptable src l
  accepted_only h =
      let a : Accepts src = no_refusal h in
      record { source = a; tables = roomy xs l (go (eqb (short all xs l) 0) refl (ap (λ (o : Outcome). o.answer.number) (sym (answer_is a)) ∙ h)) }
    where
      xs : List Item
      xs = items src (whole src)

      go : (b : Bool) → eqb (short all xs l) 0 ≡ b
          → (pick b (stored (endianness src (whole src)) xs l) (settle (refused 5 (short all xs l) (needed all xs l)) l)).answer.number ≡ 0 → short all xs l ≡ 0
      go true e k = eqb-true (short all xs l) 0 e
      go false e k = absurd (omega arith)

-- ---- longer tables change no answer but a refusal 5, and no row
lent_filled : (xs : List Item) (l : Lent) (t : Table) → lent t (fill xs l) ≡ filled xs l t
lent_filled xs l Table.declarations = refl
lent_filled xs l Table.fields = refl
lent_filled xs l Table.tags = refl
lent_filled xs l Table.constraints = refl
lent_filled xs l Table.comments = refl

-- every row of a source has its table's size
pub rows_sized : (src : List ℕ) (t : Table) → Sized (size t) (rows_of t (items src (whole src)))
rows_sized src t = sized t (of_comments src (whole src)) (of_toplevel src (part Rule.file (clean (whole src))).kids [])

-- the words of an accepted reading's rows are those of the forest's rows, whatever the tables held
pub words : (src : List ℕ) (l : Lent) → Acceptable src l → (t : Table)
    → take (count t (items src (whole src)) * size t) (lent t (answer src l).left) ≡ flat (rows_of t (items src (whole src)))
words src l h t =
    ap (λ (o : Outcome). take (count t (items src (whole src)) * size t) (lent t o.left)) (rows src l h)
    ∙ ap (take (count t (items src (whole src)) * size t)) (lent_filled (items src (whole src)) l t)
    ∙ first_words (items src (whole src)) l t (rows_sized src t) (h.tables t)

-- 'Words past the last row written keep their contents', and no table gets longer or shorter, accepted or refused
pub words_past : (src : List ℕ) (l : Lent) → Acceptable src l → (t : Table)
    → drop (count t (items src (whole src)) * size t) (lent t (answer src l).left) ≡ drop (count t (items src (whole src)) * size t) (lent t l)
words_past src l h t =
    ap (λ (o : Outcome). drop (count t (items src (whole src)) * size t) (lent t o.left)) (rows src l h)
    ∙ ap (drop (count t (items src (whole src)) * size t)) (lent_filled (items src (whole src)) l t)
    ∙ words_behind (items src (whole src)) l t (rows_sized src t) (h.tables t)

pub same_lengths : (src : List ℕ) (l : Lent) (t : Table) → length (lent t (answer src l).left) ≡ length (lent t l)
same_lengths src l t = go (eqb (answer src l).answer.number 0) refl
  where
    go : (b : Bool) → eqb (answer src l).answer.number 0 ≡ b → length (lent t (answer src l).left) ≡ length (lent t l)
    go false e = ap (λ (k : Lent). length (lent t k)) ((orderly l src).tables (eqb-false (answer src l).answer.number 0 e))
    go true e =
        let a : Acceptable src l = accepted_only src l (eqb-true (answer src l).answer.number 0 e) in
        ap (λ (o : Outcome). length (lent t o.left)) (rows src l a) ∙ ap length (lent_filled (items src (whole src)) l t)
        ∙ length_puts (size t) 0 (rows_of t (items src (whole src))) (lent t l) (rows_sized src t)

module _ (src : List ℕ) (l l' : Lent) (longer : (t : Table) → room (size t) (lent t l) ≤ room (size t) (lent t l')) where
  roomier : (xs : List Item) → Roomy xs l → Roomy xs l'
  roomier xs h t = omega (arith, h t, longer t)

  pub same_answer : ((answer src l).answer.number ≡ 5 → ⊥) → (answer src l').answer ≡ (answer src l).answer
  unfolding answer
  same_answer n = go (reading src) n
    where
      by_room : (e : List ℕ) (xs : List Item) (b : Bool) → eqb (short all xs l) 0 ≡ b
          → ((pick b (stored e xs l) (settle (refused 5 (short all xs l) (needed all xs l)) l)).answer.number ≡ 5 → ⊥)
          → (settle (accepted e xs) l').answer ≡ (pick b (stored e xs l) (settle (refused 5 (short all xs l) (needed all xs l)) l)).answer
      by_room e xs true q n =
          let z : eqb (short all xs l') 0 ≡ true = eq-eqb (short all xs l') 0 (none_short xs l' (roomier xs (roomy xs l (eqb-true (short all xs l) 0 q)))) in
          rw z
      by_room e xs false q n = absurd (n refl)

      go : (r : Reading) → ((settle r l).answer.number ≡ 5 → ⊥) → (settle r l').answer ≡ (settle r l).answer
      go (refused k p r) n = refl
      go (accepted e xs) n = by_room e xs (eqb (short all xs l) 0) refl n

  pub same_words : (answer src l).answer.number ≡ 0 → (t : Table)
      → take (count t (items src (whole src)) * size t) (lent t (answer src l').left)
      ≡ take (count t (items src (whole src)) * size t) (lent t (answer src l).left)
  same_words h t =
      let a : Acceptable src l = accepted_only src l h in
      words src l' (record { source = a.source; tables = roomier (items src (whole src)) a.tables }) t ∙ sym (words src l a t)
