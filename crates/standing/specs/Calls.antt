-- Three calls of `read`, whose contract is an equation with `answer`: of an old source, of a keyword line with new declarations, and of
-- the whole. What the third call left is told by what the two others left, word by word.
use Rattle.std.specs.Prelude.{ℕ, suc, ◌+◌, ◌-◌, ◌*◌, ◌≤◌, ◌≡◌, refl, List, [], ◌∷◌, ◌++◌, length, get_or, take, drop}
use Rattle.std.proofs.Common.{suc-mul, arith, sym, ap, ap₂, ◌∙◌, length-append, take-take, take-add}
use Rattle.std.proofs.Math.Path.{fun_ext}
use Rattle.std.proofs.Math.Seq.{take-append_seam, drop-append_seam}
use Rattle.meaning.specs.Tables.{Table, number, size, Item, rows_of, count, flat, rows_in, room, Lent, lent, all}
use Rattle.meaning.specs.Rows.{row_kind}
use Rattle.meaning.specs.Walk.{items, endianness}
use Rattle.meaning.specs.Reading.{accepted, longest, reading, Outcome, counted, answer, counts_of, rows_left}
use Rattle.meaning.specs.Moving.{Move, moved_rows, KeywordLine, appended}
use Rattle.ast.specs.RowLaws.{Sized}
use Rattle.reading.specs.Sources.{whole}
use Rattle.reading.specs.Acceptance.{reads}
use Rattle.reading.specs.Promises.{Acceptable, rows, rows_sized, words, words_past, accepted_if, accepted_only}
use Rattle.standing.specs.MovedItems.{rows_length}
use Rattle.standing.specs.Accepting.{read}
use Rattle.standing.specs.Appending.{appending}

-- ---- words that begin with these rows hold them
rows_of_flat : (size : ℕ) (rs : List (List ℕ)) (ws : List ℕ) → Sized size rs → take (length rs * size) ws ≡ flat rs → rows_in size (length rs) ws ≡ rs
unfolding rows_in Sized flat
rows_of_flat size [] ws z e = refl
rows_of_flat size (r ∷ rs) ws z e =
    let k : ℕ = length rs * size in
    let n : length r ≡ size = z.0 in
    let here : suc (length rs) * size ≡ size + k = omega (arith, suc-mul (length rs) size) in
    let sum : take (size + k) ws ≡ r ++ flat rs = ap (λ (i : ℕ). take i ws) (sym here) ∙ e in
    let front : take size ws ≡ r =
    sym (take-take size (size + k) ws (omega arith)) ∙ ap (take size) sum ∙ ap (λ (i : ℕ). take i (r ++ flat rs)) (sym n) ∙ take-append_seam r (flat rs) in
    let behind : take k (drop size ws) ≡ flat rs =
    sym (drop-append_seam (take size ws) (take k (drop size ws)))
    ∙ ap₂ drop (ap length front) (sym (take-add size k ws) ∙ sum) ∙ drop-append_seam r (flat rs) in
    ap₂ (λ (x : List ℕ) (xs : List (List ℕ)). x ∷ xs) front (rows_of_flat size rs (drop size ws) z.1 behind)

-- ---- a call that accepted
pub record Called (s : List ℕ) (o : Outcome) (e : List ℕ) (xs : List Item) : Type 0 where
  pub reads : reading s ≡ accepted e xs
  pub endianness : o.answer.endianness ≡ e
  pub counts : (t : Table) → counts_of o t ≡ count t xs
  pub rows : (t : Table) → rows_left o t ≡ rows_of t xs

counted_at : (xs : List Item) (t : Table) → get_or (counted all xs) (number t - 1) 0 ≡ count t xs
counted_at xs Table.declarations = refl
counted_at xs Table.fields = refl
counted_at xs Table.tags = refl
counted_at xs Table.constraints = refl
counted_at xs Table.comments = refl

pub called : (s : List ℕ) (l : Lent) (o : Outcome) → o ≡ answer s l → Acceptable s l → Called s o (endianness s (whole s)) (items s (whole s))
called s l o e a =
    let xs : List Item = items s (whole s) in
    let n : (t : Table) → counts_of o t ≡ count t xs = λ t. ap (λ (x : Outcome). counts_of x t) (e ∙ rows s l a) ∙ counted_at xs t in
    record {
      reads = reads a.source;
      endianness = ap (λ (x : Outcome). x.answer.endianness) (e ∙ rows s l a);
      counts = n;
      rows = λ t. ap₂ (λ (k : ℕ) (x : Outcome). rows_in (size t) k (lent t x.left)) (n t) e
          ∙ rows_of_flat (size t) (rows_of t xs) (lent t (answer s l).left) (rows_sized s t) (words s l a t);
    }

-- ---- the third call, by what the others left
pub record Stood (old new both : Outcome) (m : Move) (l : Lent) : Type 0 where
  pub number : both.answer.number ≡ 0
  pub endianness : both.answer.endianness ≡ old.answer.endianness
  pub counts : (t : Table) → counts_of both t ≡ counts_of old t + counts_of new t
  pub rows : (t : Table) → rows_left both t ≡ rows_left old t ++ moved_rows m t (rows_left new t)
  pub past : (t : Table) → drop (counts_of both t * size t) (lent t both.left) ≡ drop (counts_of both t * size t) (lent t l)

module _ (s u : List ℕ) {h : List ℕ} (l : KeywordLine h) (l₁ l₂ l₃ : Lent) (old new both : Outcome)
    (e₁ : old ≡ answer s l₁) (e₂ : new ≡ answer (h ++ u) l₂) (e₃ : both ≡ answer (s ++ 10 ∷ u) l₃) where
  -- THE THEOREM over calls
  pub appended_calls : old.answer.number ≡ 0 → new.answer.number ≡ 0
      → get_or old.answer.endianness row_kind 0 ≡ get_or new.answer.endianness row_kind 0 → length (s ++ 10 ∷ u) ≤ longest
      → ((t : Table) → counts_of old t + counts_of new t ≤ room (size t) (lent t l₃)) → Stood old new both (appended s h (counts_of old)) l₃
  appended_calls n₁ n₂ same long roomy =
      let a = called s l₁ old e₁ (accepted_only s l₁ (ap (λ (x : Outcome). x.answer.number) (sym e₁) ∙ n₁)) in
      let b = called (h ++ u) l₂ new e₂ (accepted_only (h ++ u) l₂ (ap (λ (x : Outcome). x.answer.number) (sym e₂) ∙ n₂)) in
      let first : List ℕ → ℕ = λ v. get_or v row_kind 0 in
      let d = appending s u l a.reads b.reads (ap first (sym a.endianness) ∙ same ∙ ap first b.endianness) long in
      let r = read d.reads in
      let sum : (t : Table) → count t d.items ≡ counts_of old t + counts_of new t =
      λ t. omega (
        arith,
        a.counts t,
        b.counts t,
        ap length (d.rows t),
        length-append (rows_of t (items s (whole s))) (moved_rows (appended s h (λ t. count t (items s (whole s)))) t
            (rows_of t (items (h ++ u) (whole (h ++ u))))),
        rows_length (appended s h (λ t. count t (items s (whole s)))) t (rows_of t (items (h ++ u) (whole (h ++ u)))),
      ) in
      let fits : Acceptable (s ++ 10 ∷ u) l₃ = record { source = r.accepts; tables = λ t. rw r.items (omega (arith, sum t, roomy t)) } in
      let c = called (s ++ 10 ∷ u) l₃ both e₃ fits in
      record {
        number = ap (λ (x : Outcome). x.answer.number) e₃ ∙ accepted_if (s ++ 10 ∷ u) l₃ fits;
        endianness = c.endianness ∙ r.words ∙ sym a.endianness;
        counts = λ t. c.counts t ∙ ap (count t) r.items ∙ sum t;
        rows = λ t. c.rows t ∙ ap (rows_of t) r.items ∙ d.rows t ∙ by_parts t a.counts (a.rows t) (b.rows t);
        past = λ t. ap₂ (λ (k : ℕ) (x : Outcome). drop (k * size t) (lent t x.left)) (c.counts t) e₃
            ∙ words_past (s ++ 10 ∷ u) l₃ fits t ∙ ap (λ (k : ℕ). drop (k * size t) (lent t l₃)) (sym (c.counts t));
      }
    where
      by_parts : (t : Table) {x y : Table → ℕ} {p q p' q' : List (List ℕ)} → ((t : Table) → x t ≡ y t) → p ≡ p' → q ≡ q'
          → p' ++ moved_rows (appended s h y) t q' ≡ p ++ moved_rows (appended s h x) t q
      by_parts t {x} {y} {p} {q} i j k =
          ap₂ (λ (v w : List (List ℕ)). v ++ moved_rows (appended s h y) t w) (sym j) (sym k)
          ∙ ap (λ (f : Table → ℕ). p ++ moved_rows (appended s h f) t q) (sym (fun_ext i))
