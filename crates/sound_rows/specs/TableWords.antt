-- The words of an accepted answer's tables, one by one: word i of row k is word i of the reading's row k, whatever the tables held.
use Rattle.std.specs.Prelude.{ℕ, zero, suc, ◌+◌, ◌*◌, ◌≤◌, ◌<◌, ◌≡◌, List, [], ◌∷◌, ◌++◌, length, get_or}
use Rattle.std.proofs.Common.{arith, suc-mul, mul-le-mul_right, zero-mul, sym, ap, ◌∙◌, get_or-take, get_or-append-add}
use Rattle.std.proofs.Math.ListN.{get_or-append}
use Rattle.meaning.specs.Rules.{Rule}
use Rattle.meaning.specs.Forest.{clean}
use Rattle.meaning.specs.Tables.{Table, size, Item, rows_of, count, flat, room, Lent, lent, fill}
use Rattle.meaning.specs.Walk.{part, items}
use Rattle.meaning.specs.Reading.{Outcome, answer}
use Rattle.meaning.specs.Feeding.{word}
use Rattle.ast.specs.RowLaws.{Sized, length_puts}
use Rattle.reading.specs.Sources.{whole}
use Rattle.reading.specs.Sorts.{of_toplevel, of_comments}
use Rattle.reading.specs.Partition.{sized}
use Rattle.reading.specs.Promises.{Acceptable, rows, words}
use Rattle.sound_rows.specs.Indices.{nth}

-- a row among rows of one size
flat_word : (n k i : ℕ) (rs : List (List ℕ)) → Sized n rs → k < length rs → i < n → get_or (flat rs) (k * n + i) 0 ≡ get_or (get_or rs k []) i 0
unfolding flat Sized
flat_word n k i [] z h l = absurd (omega arith)
flat_word n zero i (r ∷ rs) z h l =
    let e : 0 * n + i ≡ i = omega (arith, zero-mul n) in
    ap (λ j. get_or (r ++ flat rs) j 0) e ∙ get_or-append r (flat rs) 0 i (omega (arith, z.0))
flat_word n (suc k) i (r ∷ rs) z h l =
    let e : suc k * n + i ≡ length r + (k * n + i) = omega (arith, suc-mul k n, z.0) in
    ap (λ j. get_or (r ++ flat rs) j 0) e ∙ get_or-append-add r (flat rs) (k * n + i) 0 ∙ flat_word n k i rs z.1 (omega arith) l

before_end : (k c n i : ℕ) → k < c → i < n → k * n + i < c * n
before_end k c n i h l = omega (arith, suc-mul k n, mul-le-mul_right n h)

module _ (src : List ℕ) (l : Lent) (h : Acceptable src l) where
  abbrev xs : List Item
  xs = items src (whole src)

  row_sizes : (t : Table) → Sized (size t) (rows_of t xs)
  row_sizes t = sized t (of_comments src (whole src)) (of_toplevel src (part Rule.file (clean (whole src))).kids [])

  pub word_is : (t : Table) (k i : ℕ) → k < count t xs → i < size t → word (lent t (answer src l).left) (size t) k i ≡ get_or (nth t xs k) i 0
  word_is t k i a b =
      sym (get_or-take (count t xs * size t) (lent t (answer src l).left) (k * size t + i) 0 (before_end k (count t xs) (size t) i a b))
      ∙ ap (λ (ws : List ℕ). get_or ws (k * size t + i) 0) (words src l h t)
      ∙ flat_word (size t) k i (rows_of t xs) (row_sizes t) a b

  -- and the tables have room for their rows
  same_length : (t : Table) → length (lent t (answer src l).left) ≡ length (lent t l)
  same_length t = ap (λ (o : Outcome). length (lent t o.left)) (rows src l h) ∙ go t
    where
      go : (t : Table) → length (lent t (fill xs l)) ≡ length (lent t l)
      go Table.declarations = length_puts (size Table.declarations) 0 (rows_of Table.declarations xs) l.w1 (row_sizes Table.declarations)
      go Table.fields = length_puts (size Table.fields) 0 (rows_of Table.fields xs) l.w2 (row_sizes Table.fields)
      go Table.tags = length_puts (size Table.tags) 0 (rows_of Table.tags xs) l.w3 (row_sizes Table.tags)
      go Table.constraints = length_puts (size Table.constraints) 0 (rows_of Table.constraints xs) l.w4 (row_sizes Table.constraints)
      go Table.comments = length_puts (size Table.comments) 0 (rows_of Table.comments xs) l.w5 (row_sizes Table.comments)

  pub roomy_left : (t : Table) → count t xs ≤ room (size t) (lent t (answer src l).left)
  roomy_left t = rw (same_length t) (h.tables t)
