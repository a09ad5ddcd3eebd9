-- The five wrong readers of 01, 'Promises with teeth': the equation that `read` promises, at the bytes and 64-bit words that a call is
-- given, shuts out each of them.
use Rattle.std.specs.Prelude.{ℕ, ◌*◌, ◌^◌, ◌<◌, ◌≡◌, refl, List, [], ◌∷◌, Bool, true, ltb, length, take, drop, get_or, replicate}
use Rattle.std.proofs.Common.{arith, ap, sym, ◌∙◌, get_or-take}
use Rattle.meaning.specs.Choice.{both}
use Rattle.meaning.specs.Quoted.{bytes}
use Rattle.meaning.specs.Tables.{Table, size, rows_of, count, flat, room, Lent, lent, all}
use Rattle.meaning.specs.Rows.{row_kind, start_offset}
use Rattle.meaning.specs.Walk.{items}
use Rattle.meaning.specs.Reading.{Outcome, counted, answer}
use Rattle.meaning.specs.Everything.{everything}
use Rattle.meaning.specs.Papers.{p3_source}
use Rattle.reading.specs.Sources.{whole}
use Rattle.reading.specs.Promises.{Acceptable, rows, accepted_only, words}

-- a reader takes a source and the lent words to an answer and the words that it leaves
abbrev pub Reader : Type 0
Reader = List ℕ → Lent → Outcome

-- what a slice may hold: numbers below a bound, and fewer than 2 to the 64
abbrev pub below : ℕ → List ℕ → Bool
below m [] = true
below m (n ∷ ns) = both (ltb n m) (below m ns)

abbrev pub Slice : ℕ → List ℕ → Type 0
Slice m ns = (below m ns ≡ true) × (ltb (length ns) (2 ^ 64) ≡ true)

-- what a call is given: bytes, and five tables of 64-bit words
pub record Given (src : List ℕ) (l : Lent) : Type 0 where
  pub bytes : Slice 256 src
  pub words : (t : Table) → Slice (2 ^ 64) (lent t l)

-- what `read` promises: nothing is said of other numbers
abbrev pub Right : Reader → Type 0
Right f = (src : List ℕ) (l : Lent) → Given src l → f src l ≡ answer src l

-- some reader is right, so that what follows is not said of none
pub right : Right answer
right src l g = refl

-- ---- what the wrong ones are tried on: P3, another source, and room for two declarations and two fields
abbrev pub p3 : List ℕ
p3 = bytes p3_source

abbrev pub two_packets : List ℕ
two_packets = bytes "little_endian_packets\npacket A {}\npacket B {}"

abbrev pub desk : Lent
desk = record { w1 = replicate (2 * size Table.declarations) 0; w2 = replicate (2 * size Table.fields) 0; w3 = []; w4 = []; w5 = [] }

desk_words : (t : Table) → Slice (2 ^ 64) (lent t desk)
desk_words Table.declarations = (refl, refl)
desk_words Table.fields = (refl, refl)
desk_words Table.tags = (refl, refl)
desk_words Table.constraints = (refl, refl)
desk_words Table.comments = (refl, refl)

p3_given : Given p3 desk
p3_given = record { bytes = (refl, refl); words = desk_words }

two_given : Given two_packets desk
two_given = record { bytes = (refl, refl); words = desk_words }

p3_number : (answer p3 desk).answer.number ≡ 0
unfolding everything
p3_number = refl

-- it has one declaration, where two have room
p3_count : get_or (answer p3 desk).answer.counts 0 0 ≡ 1
unfolding everything
p3_count = refl

-- the kind of its first field
p3_kind : get_or (answer p3 desk).left.w2 row_kind 0 ≡ 12
unfolding everything
p3_kind = refl

two_number : (answer two_packets desk).answer.number ≡ 0
unfolding everything
two_number = refl

-- it has no field
two_kind : get_or (answer two_packets desk).left.w2 row_kind 0 ≡ 0
unfolding everything
two_kind = refl

-- the rows of the first two declarations, and where its packets start
abbrev pub first_row : List ℕ → List ℕ
first_row t = take (size Table.declarations) t

abbrev pub second_row : List ℕ → List ℕ
second_row t = first_row (drop (size Table.declarations) t)

two_first : get_or (first_row (answer two_packets desk).left.w1) start_offset 0 ≡ 22
unfolding everything
two_first = refl

two_second : get_or (second_row (answer two_packets desk).left.w1) start_offset 0 ≡ 34
unfolding everything
two_second = refl

-- ---- what no right reader does, at what calls are given
module _ (f : Reader) (is : Right f) where
  accepts : (src : List ℕ) (l : Lent) → Given src l → (answer src l).answer.number ≡ 0 → (f src l).answer.number ≡ 0
  accepts src l g h = ap (λ (o : Outcome). o.answer.number) (is src l g) ∙ h

  acceptable : (src : List ℕ) (l : Lent) → Given src l → (f src l).answer.number ≡ 0 → Acceptable src l
  acceptable src l g h = accepted_only src l (ap (λ (o : Outcome). o.answer.number) (sym (is src l g)) ∙ h)

  -- it refuses everything
  pub refuses_all : ((src : List ℕ) (l : Lent) → Given src l → (f src l).answer.number ≡ 0 → ⊥) → ⊥
  refuses_all h = h p3 desk p3_given (accepts p3 desk p3_given p3_number)

  -- it leaves P3's rows for every source that it accepts
  pub same_rows : ((src : List ℕ) (l : Lent) → Given src l → (f src l).answer.number ≡ 0 → (f src l).left ≡ (answer p3 l).left) → ⊥
  same_rows h =
      let e =
      ap (λ (o : Outcome). o.left) (sym (is two_packets desk two_given))
      ∙ h two_packets desk two_given (accepts two_packets desk two_given two_number) in
      omega (arith, p3_kind, two_kind, ap (λ (l : Lent). get_or l.w2 row_kind 0) e)

  -- it accepts and writes nothing
  pub writes_nothing : ((src : List ℕ) (l : Lent) → Given src l → (f src l).answer.number ≡ 0 → (f src l).left ≡ l) → ⊥
  writes_nothing h =
      let e = ap (λ (o : Outcome). o.left) (sym (is p3 desk p3_given)) ∙ h p3 desk p3_given (accepts p3 desk p3_given p3_number) in
      omega (arith, p3_kind, ap (λ (l : Lent). get_or l.w2 row_kind 0) e)

  -- it invents a word, anywhere in the rows of any table
  pub invents : (src : List ℕ) (l : Lent) → Given src l → (f src l).answer.number ≡ 0 → (t : Table) (i : ℕ)
      → i < count t (items src (whole src)) * size t
      → (get_or (lent t (f src l).left) i 0 ≡ get_or (flat (rows_of t (items src (whole src)))) i 0 → ⊥) → ⊥
  invents src l g h t i k n =
      n (
      ap (λ (o : Outcome). get_or (lent t o.left) i 0) (is src l g)
      ∙ sym (get_or-take (count t (items src (whole src)) * size t) (lent t (answer src l).left) i 0 k)
      ∙ ap (λ (ws : List ℕ). get_or ws i 0) (words src l (acceptable src l g h) t)
      )

  -- it repeats the row of the first of two packets as that of the second
  pub repeats : second_row (f two_packets desk).left.w1 ≡ first_row (f two_packets desk).left.w1 → ⊥
  repeats h =
      let e : second_row (answer two_packets desk).left.w1 ≡ first_row (answer two_packets desk).left.w1 = rw (is two_packets desk two_given) at h in
      omega (arith, two_first, two_second, ap (λ (ws : List ℕ). get_or ws start_offset 0) e)

  -- it reports counts of its own
  pub own_counts : (src : List ℕ) (l : Lent) → Given src l → (f src l).answer.number ≡ 0
      → ((f src l).answer.counts ≡ counted all (items src (whole src)) → ⊥) → ⊥
  own_counts src l g h n = n (ap (λ (o : Outcome). o.answer.counts) (is src l g ∙ rows src l (acceptable src l g h)))

  -- it counts as declarations all rows that have room
  pub counts_room : ((src : List ℕ) (l : Lent) → Given src l → (f src l).answer.number ≡ 0
      → get_or (f src l).answer.counts 0 0 ≡ room (size Table.declarations) l.w1) → ⊥
  counts_room h =
      let e = h p3 desk p3_given (accepts p3 desk p3_given p3_number) in
      omega (arith, p3_count, ap (λ (o : Outcome). get_or o.answer.counts 0 0) (is p3 desk p3_given), e)
