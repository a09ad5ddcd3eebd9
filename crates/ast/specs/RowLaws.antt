-- Laws of rows in a table, over the row size.
use Rattle.std.specs.Prelude.{ℕ, suc, ◌+◌, ◌*◌, ◌/◌, ◌≤◌, ◌<◌, ◌≡◌, refl, List, [], ◌∷◌, ◌++◌, Bool, true, false, length, get_or, take, drop, leb}
use Rattle.std.proofs.Common.{ap, sym, ◌∙◌, append_assoc, append-nil, add-mul, mul-zero, one-mul, add-zero, zero-add, zero-mul, suc-mul, le-div_iff_mul-le, div-lt_iff_lt-mul, arith, take-append-drop, length-append, take-take, drop-drop, length-take-le, take_at, drop_at, get_or-take, get_or-append-add, le-leb, leb-true, leb-false}
use Rattle.std.proofs.lemmas.List.{take-append-le}
use Rattle.std.proofs.Math.Seq.{paste, take-length}
use Rattle.std.proofs.lemmas.List.Edits.{length-paste}
use Rattle.std.proofs.lemmas.Bool.{lt-leb}
use Rattle.meaning.specs.Tables.{put, puts, flat}

-- every row has the table's size
unfoldable pub Sized : ℕ → List (List ℕ) → Type 0
Sized size [] = Unit
Sized size (r ∷ rs) = (length r ≡ size) × Sized size rs

-- the row fits, or it does not
pub put_fits : (size k : ℕ) (row t : List ℕ) → k * size + size ≤ length t → put size k row t ≡ take (k * size) t ++ row ++ drop (k * size + size) t
unfolding put
put_fits size k row t h = simp (le-leb _ _ h)

pub put_short : (size k : ℕ) (row t : List ℕ) → length t < k * size + size → put size k row t ≡ t
unfolding put
put_short size k row t h = simp (lt-leb _ _ h)

-- a row of no words changes nothing
pub put_empty : (k : ℕ) (row t : List ℕ) → length row ≡ 0 → put (length row) k row t ≡ t
put_empty k [] t e =
    let z : k * 0 + 0 ≡ 0 = simp (mul-zero, add-zero) in
    put_fits 0 k [] t (rw z (omega arith)) ∙ rw (z, mul-zero)
put_empty k (a ∷ ws) t e = absurd (omega arith)

-- what the code tests
pub fits_iff : (size k n : ℕ) → 0 < size → k < n / size → k * size + size ≤ n
fits_iff size k n z h = rw suc-mul at ((le-div_iff_mul-le z).0 h)

pub short_iff : (size k n : ℕ) → 0 < size → n / size ≤ k → n < k * size + size
short_iff size k n z h =
    let h' : n / size < suc k = omega arith in
    rw suc-mul at ((div-lt_iff_lt-mul z).0 h')

-- the copy of a whole row is the row put
pub put_paste : (size k : ℕ) (row t : List ℕ) → length row ≡ size → k * size + size ≤ length t → paste t (k * size) row size ≡ put size k row t
put_paste size k row t e h = rw (← e) (rw take-length) ∙ sym (put_fits size k row t h)

pub length_put : (size k : ℕ) (row t : List ℕ) → length row ≡ size → length (put size k row t) ≡ length t
length_put size k row t e = cases (leb (k * size + size) (length t)) refl
  where
    cases : (b : Bool) → leb (k * size + size) (length t) ≡ b → length (put size k row t) ≡ length t
    cases true h =
        let l : k * size + size ≤ length t = leb-true _ _ h in
        rw (← put_paste size k row t e l) (length-paste t (k * size) row size l (omega arith))
    cases false h = ap length (put_short size k row t (leb-false _ _ h))

-- no row fits an empty table, nor a table shorter than a row
pub puts_short : (size k : ℕ) (rows : List (List ℕ)) (t : List ℕ) → length t < size → puts size k rows t ≡ t
unfolding puts
puts_short size k [] t h = refl
puts_short size k (r ∷ rs) t h = rw (put_short size k r t (omega arith)) (puts_short size (k + 1) rs t h)

pub length_puts : (size k : ℕ) (rows : List (List ℕ)) (t : List ℕ) → Sized size rows → length (puts size k rows t) ≡ length t
unfolding puts Sized
length_puts size k [] t h = refl
length_puts size k (r ∷ rs) t h = length_puts size (k + 1) rs (put size k r t) h.1 ∙ length_put size k r t h.0

-- one run of rows after another
pub puts_append : (size k : ℕ) (xs ys : List (List ℕ)) (t : List ℕ) → puts size k (xs ++ ys) t ≡ puts size (k + length xs) ys (puts size k xs t)
unfolding puts
puts_append size k [] ys t = rw add-zero
puts_append size k (a ∷ xs) ys t =
    let e : k + 1 + length xs ≡ k + suc (length xs) = omega arith in
    rw (← e) (puts_append size (k + 1) xs ys (put size k a t))

-- one row more
pub puts_next : (size : ℕ) (xs : List (List ℕ)) (r t : List ℕ) → puts size 0 (xs ++ (r ∷ [])) t ≡ put size (length xs) r (puts size 0 xs t)
unfolding puts
puts_next size xs r t = puts_append size 0 xs (r ∷ []) t ∙ rw zero-add

-- what holds of the row in its place, and of the table as it came, holds of the table with the row put
put_cases : (P : List ℕ → Type 0) (size k : ℕ) (row t : List ℕ)
    → (k * size + size ≤ length t → P (take (k * size) t ++ row ++ drop (k * size + size) t)) → P t → P (put size k row t)
put_cases P size k row t f g = cases (leb (k * size + size) (length t)) refl
  where
    cases : (b : Bool) → leb (k * size + size) (length t) ≡ b → P (put size k row t)
    cases true h = let l : k * size + size ≤ length t = leb-true _ _ h in rw (put_fits size k row t l) (f l)
    cases false h = rw (put_short size k row t (leb-false _ _ h)) g

length_head : (size k : ℕ) (row t : List ℕ) → length row ≡ size → k * size + size ≤ length t → length (take (k * size) t ++ row) ≡ k * size + size
length_head size k row t e h = simp (length-append, length-take-le (k * size) t (omega arith), e)

-- the words before the row are as they were
pub put_before : (size k : ℕ) (row t : List ℕ) (m : ℕ) → length row ≡ size → m ≤ k * size → take m (put size k row t) ≡ take m t
put_before size k row t m e h =
    put_cases (λ (x : List ℕ). take m x ≡ take m t) size k row t
    (λ l.
    let p : length (take (k * size) t) ≡ k * size = length-take-le (k * size) t (omega arith) in
    let q : length (take (k * size) t ++ row) ≡ k * size + size = length_head size k row t e l in
    take-append-le m (take (k * size) t ++ row) (drop (k * size + size) t) (omega arith)
    ∙ take-append-le m (take (k * size) t) row (omega arith) ∙ take-take m (k * size) t h)
    refl

-- and so are those after it
pub put_after : (size k : ℕ) (row t : List ℕ) (n : ℕ) → length row ≡ size → drop (k * size + size + n) (put size k row t) ≡ drop (k * size + size + n) t
put_after size k row t n e =
    put_cases (λ (x : List ℕ). drop (k * size + size + n) x ≡ drop (k * size + size + n) t) size k row t
    (λ l.
    let q : length (take (k * size) t ++ row) ≡ k * size + size = length_head size k row t e l in
    rw (
      ← drop-drop n (k * size + size) (take (k * size) t ++ row ++ drop (k * size + size) t),
      drop_at (take (k * size) t ++ row) (drop (k * size + size) t)
          (k * size + size) q,
    )
    (drop-drop n (k * size + size) t))
    refl

-- the row is where it was put
pub put_there : (size k : ℕ) (row t : List ℕ) → length row ≡ size → k * size + size ≤ length t
    → take (k * size + size) (put size k row t) ≡ take (k * size) t ++ row
put_there size k row t e l =
    rw (put_fits size k row t l)
    (take_at (take (k * size) t ++ row) (drop (k * size + size) t) (k * size + size) (length_head size k row t e l))

-- word by word: those before the row, and the row's own
pub put_word_before : (size k : ℕ) (row t : List ℕ) (j : ℕ) → length row ≡ size → j < k * size → get_or (put size k row t) j 0 ≡ get_or t j 0
put_word_before size k row t j e h =
    sym (get_or-take (suc j) (put size k row t) j 0 (omega arith))
    ∙ ap (λ (x : List ℕ). get_or x j 0) (put_before size k row t (suc j) e (omega arith))
    ∙ get_or-take (suc j) t j 0 (omega arith)

pub put_word : (size k : ℕ) (row t : List ℕ) (i : ℕ) → length row ≡ size → k * size + size ≤ length t → i < size
    → get_or (put size k row t) (k * size + i) 0 ≡ get_or row i 0
put_word size k row t i e l h =
    sym (get_or-take (k * size + size) (put size k row t) (k * size + i) 0 (omega arith))
    ∙ ap (λ (x : List ℕ). get_or x (k * size + i) 0) (put_there size k row t e l)
    ∙ past (take (k * size) t) row (k * size) (length-take-le (k * size) t (omega arith))
  where
    past : (p q : List ℕ) (n : ℕ) → length p ≡ n → get_or (p ++ q) (n + i) 0 ≡ get_or q i 0
    past p q n d = rw (← d) (get_or-append-add p q i 0)

-- rows that fit, one after the other: their words, and the words past them as they were
pub puts_flat : (size k : ℕ) (rows : List (List ℕ)) (t : List ℕ) → Sized size rows → (k + length rows) * size ≤ length t
    → puts size k rows t ≡ take (k * size) t ++ flat rows ++ drop ((k + length rows) * size) t
unfolding puts flat Sized
puts_flat size k [] t z h = sym (rw (add-zero, append-nil) (take-append-drop (k * size) t))
puts_flat size k (r ∷ rs) t z h =
    let n : ℕ = length rs in
    let e : k + suc n ≡ k + 1 + n = omega arith in
    let e1 : (k + 1) * size ≡ k * size + size = simp (add-mul, one-mul) in
    let e2 : (k + 1 + n) * size ≡ k * size + size + n * size = simp (add-mul, one-mul) in
    let l : k * size + size + n * size ≤ length t = rw (e, e2) at h in
    let t' : List ℕ = put size k r t in
    let l' : (k + 1 + n) * size ≤ length t' = rw (e2, length_put size k r t z.0) l in
    puts_flat size (k + 1) rs t' z.1 l'
    ∙ rw (e, e2, e1, put_there size k r t z.0 (omega arith), put_after size k r t (n * size) z.0)
    (ap (λ (x : List ℕ). x ++ drop (k * size + size + n * size) t) (append_assoc (take (k * size) t) r (flat rs)))

-- from the first row on
pub puts_all : (size : ℕ) (rows : List (List ℕ)) (t : List ℕ) → Sized size rows → length rows * size ≤ length t
    → puts size 0 rows t ≡ flat rows ++ drop (length rows * size) t
puts_all size rows t z h = let e : 0 + length rows ≡ length rows = zero-add _ in rw (e, zero-mul) at (puts_flat size 0 rows t z (rw e h))
