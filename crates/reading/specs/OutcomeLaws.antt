-- The answers of a reading, one law for each return.
use Rattle.std.specs.Prelude.{ℕ, ◌-◌, ◌/◌, ◌≡◌, List, [], ◌∷◌, Bool, length, get_or, ltb, Result, Ok, Err}
use Rattle.std.proofs.Math.Path.{refl, ap}
use Rattle.std.proofs.Common.{arith, sym, ◌∙◌}
use Rattle.std.proofs.Math.Bool.{true, false}
use Rattle.std.proofs.Math.Dec.{eqb}
use Rattle.meaning.specs.Choice.{pick}
use Rattle.meaning.specs.Tables.{Table, number, size, Item, rows_of, count, puts, Lent, lent, short, needed, all}
use Rattle.meaning.specs.Walk.{items, endianness}
use Rattle.meaning.specs.Reading.{Reading, refused, accepted, reading, counted, stored, settle, answer}
use Rattle.walk.specs.declared.Door.TheVariants.{Write}
use Rattle.walk.specs.declared.Walk.{Walk}
use Rattle.walk.specs.State.{fresh, left, lend, Wrote}
use Rattle.walk.specs.Lending.{four}
use Rattle.comments.specs.Lex.{lexical}
use Rattle.reading.specs.declared.Reading.{Reading as Read}
use Rattle.reading.specs.declared.refusals.Refusal.{Refusal}
use Rattle.reading.specs.declared.refusals.Refusal.TheVariants.{TooFewRows}
use Rattle.walk.specs.Totals.{Tabled}
use Rattle.reading.specs.Sources.{whole, declared, declared_rows, lexed_rows}
use Rattle.ast.specs.Tables.{named}
use Rattle.reading.specs.Refusals.{number_of, place_of, reason_of, numbered}
use Rattle.reading.specs.Surveys.{Survey, survey, surveyed, Surveyed, room_among}
use Rattle.reading.specs.Acceptance.{Accepts, matched, reads, accepts}
use Rattle.reading.specs.Outcomes.{lending, leaving}

-- ---- refusals 1 to 4: the survey has left the tables as they were
pub refused_done : {x : Result (List ℕ) Refusal} {e : Refusal} {r : Result Read Refusal} (src : List ℕ) (a b : Lent)
    → Surveyed (reading src) x a b → x ≡ Err e → r ≡ Err e → leaving r b ≡ answer src a
unfolding answer
refused_done {x} {e} {r} src a b s i j =
    ap (leaving r) s.same ∙ ap (λ (y : Result Read Refusal). leaving y a) j ∙ go (reading src) (ap survey (sym i) ∙ s.is)
  where
    go : (r : Reading) → survey (Err e) ≡ surveyed r → leaving (Err e) a ≡ settle r a
    go (refused n p q) j =
        let k : number_of e ≡ n = ap (λ (y : Survey). y.number) j in
        let l : place_of e ≡ p = ap (λ (y : Survey). y.place) j in
        let o : reason_of e ≡ q = ap (λ (y : Survey). y.reason) j in
        rw (k, l, o)
    go (accepted w xs) j = absurd (numbered e (ap (λ (y : Survey). y.number) j))

-- ---- no refusal so far
pub passed : {x : Result (List ℕ) Refusal} {k : List ℕ} (src : List ℕ) → survey x ≡ surveyed (reading src) → x ≡ Ok k → Accepts src
passed src e i = accepts src (ap (λ (y : Survey). y.number) (sym e ∙ ap survey i))

-- ---- which table is short: its number and the rows needed; 0 where none is
abbrev lack : ℕ → ℕ → Survey
lack n k =
    pick (eqb n 0) (record { number = 0; place = 0; reason = 0; counts = [] }) (record { number = 5; place = n; reason = k; counts = [] })

abbrev roomed : Result (Unit {0}) Refusal → Survey
roomed (Ok u) = record { number = 0; place = 0; reason = 0; counts = [] }
roomed (Err e) = record { number = number_of e; place = place_of e; reason = reason_of e; counts = [] }

a_lack : (t : Table) (k : ℕ) → roomed (Err (TooFewRows (named t) k)) ≡ lack (number t) k
a_lack Table.declarations k = refl
a_lack Table.fields k = refl
a_lack Table.tags k = refl
a_lack Table.constraints k = refl
a_lack Table.comments k = refl

-- a table's count stands at its number
count_at : (xs : List Item) (t : Table) → get_or (counted all xs) (number t - 1) 0 ≡ count t xs
count_at xs Table.declarations = refl
count_at xs Table.fields = refl
count_at xs Table.tags = refl
count_at xs Table.constraints = refl
count_at xs Table.comments = refl

lacking : (ts : List Table) (xs : List Item) (l : Lent) → roomed (room_among ts (counted all xs) l) ≡ lack (short ts xs l) (needed ts xs l)
lacking [] xs l = refl
lacking (t ∷ ts) xs l = rw (count_at xs t) (go (ltb (length (lent t l) / size t) (count t xs)) (lacking ts xs l))
  where
    go : (b : Bool) → roomed (room_among ts (counted all xs) l) ≡ lack (short ts xs l) (needed ts xs l)
        → roomed (pick b (Err (TooFewRows (named t) (count t xs))) (room_among ts (counted all xs) l))
        ≡ lack (pick b (number t) (short ts xs l)) (pick b (count t xs) (needed ts xs l))
    go true h = a_lack t (count t xs)
    go false h = h

-- a has the words before the survey, b those behind it
module _ (src : List ℕ) (a b : Lent) (h : Accepts src) {x : Result (List ℕ) Refusal} {k : List ℕ} (s : Surveyed (reading src) x a b)
    (o : x ≡ Ok k) {y : Result (Unit {0}) Refusal} (i : y ≡ room_among all k b) where
  abbrev xs : List Item
  xs = items src (whole src)

  k_is : k ≡ counted all xs
  k_is = ap (λ (z : Survey). z.counts) (sym (ap survey o) ∙ s.is ∙ ap surveyed (reads h))

  y_is : roomed y ≡ lack (short all xs a) (needed all xs a)
  y_is = ap roomed (i ∙ ap (room_among all k) s.same ∙ ap (λ (z : List ℕ). room_among all z a) k_is) ∙ lacking all xs a

  pub short_done : {e : Refusal} {r : Result Read Refusal} → y ≡ Err e → r ≡ Err e → leaving r b ≡ answer src a
  unfolding answer
  short_done {e} {r} j g =
      ap (leaving r) s.same ∙ ap (λ (z : Result Read Refusal). leaving z a) g ∙ rw (reads h) (go (eqb (short all xs a) 0) (ap roomed (sym j) ∙ y_is))
    where
      go : (b : Bool)
          → roomed (Err e) ≡ pick b (record { number = 0; place = 0; reason = 0; counts = [] })
          (record { number = 5; place = short all xs a; reason = needed all xs a; counts = [] })
          → leaving (Err e) a ≡ pick b (stored (endianness src (whole src)) xs a) (settle (refused 5 (short all xs a) (needed all xs a)) a)
      go true z = absurd (numbered e (ap (λ (w : Survey). w.number) z))
      go false z =
          let n : number_of e ≡ 5 = ap (λ (w : Survey). w.number) z in
          let p : place_of e ≡ short all xs a = ap (λ (w : Survey). w.place) z in
          let q : reason_of e ≡ needed all xs a = ap (λ (w : Survey). w.reason) z in
          rw (n, p, q)

  none_short : {u : Unit {0}} → y ≡ Ok u → eqb (short all xs a) 0 ≡ true
  none_short {u} j = go (eqb (short all xs a) 0) (ap roomed (sym j) ∙ y_is)
    where
      go : (b : Bool)
          → roomed (Ok u) ≡ pick b (record { number = 0; place = 0; reason = 0; counts = [] })
          (record { number = 5; place = short all xs a; reason = needed all xs a; counts = [] })
          → b ≡ true
      go true z = refl
      go false z = absurd (let w : ◌≡◌ {A = ℕ} 0 5 = ap (λ (w : Survey). w.number) z in omega arith)

  -- the words of a table, as the walk that writes has left them
  words_are : {n : Walk} {g : Lent → Lent} → Tabled (declared src) Write n (four b.w1 b.w2 b.w3 b.w4) g → (u : Table)
      → lent u (g b) ≡ puts (size u) 0 (rows_of u (declared src)) (lent u a)
  unfolding left
  words_are w u = w.words b u ∙ ap (λ (l : Lent). puts (size u) 0 (rows_of u (declared src)) (lent u l)) s.same

  -- c has the words behind that walk, and m those of the comments behind theirs
  pub accepted_done : {e : List ℕ} {u : Unit {0}} {n o : Walk} (c : Lent) (m : List ℕ) → y ≡ Ok u → e ≡ endianness src (whole src)
      → Tabled (declared src) Write n (four b.w1 b.w2 b.w3 b.w4) (four c.w1 c.w2 c.w3 c.w4) → c.w5 ≡ b.w5
      → Wrote (lexical src) (fresh Write) o (lend Table.comments c.w5) (lend Table.comments m)
      → leaving (Ok (record { counts = k; endianness = e })) (lending c.w1 c.w2 c.w3 c.w4 m) ≡ answer src a
  unfolding answer left
  accepted_done {e} {u} {n} {o} c m z j w v q =
      let b : eqb (short all xs a) 0 ≡ true = none_short z in
      let w1 : c.w1 ≡ puts (size Table.declarations) 0 (rows_of Table.declarations (declared src)) a.w1 = words_are w Table.declarations in
      let w2 : c.w2 ≡ puts (size Table.fields) 0 (rows_of Table.fields (declared src)) a.w2 = words_are w Table.fields in
      let w3 : c.w3 ≡ puts (size Table.tags) 0 (rows_of Table.tags (declared src)) a.w3 = words_are w Table.tags in
      let w4 : c.w4 ≡ puts (size Table.constraints) 0 (rows_of Table.constraints (declared src)) a.w4 = words_are w Table.constraints in
      let w5 : m ≡ puts (size Table.comments) 0 (rows_of Table.comments (lexical src)) a.w5 =
      q.words c Table.comments ∙ ap (puts (size Table.comments) 0 (rows_of Table.comments (lexical src))) (v ∙ ap (λ (l : Lent). l.w5) s.same) in
      rw (
        reads h,
        b,
        j,
        k_is,
        w1,
        w2,
        w3,
        w4,
        w5,
        declared_rows Table.declarations src refl,
        declared_rows Table.fields src refl,
        declared_rows Table.tags src refl,
        declared_rows Table.constraints src refl,
        lexed_rows (matched h),
      )
