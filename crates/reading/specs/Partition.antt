-- The rows and the first bad integer of comments with all else behind them: the comments have their own table alone.
use Rattle.std.specs.Prelude.{ℕ, ◌≡◌, refl, List, [], ◌∷◌, ◌++◌, Bool, true, false, length, eqb}
use Rattle.std.proofs.Common.{ap, sym, ◌∙◌, eqb-true}
use Rattle.meaning.specs.Choice.{pick}
use Rattle.meaning.specs.Tables.{Table, number, size, Item, rows_of, first_bad}
use Rattle.ast.specs.RowLaws.{Sized}
use Rattle.declaration_rows.specs.Sorts.{Sorted, none, an_int, a_row}
use Rattle.reading.specs.Sorts.{others, Commented, no_comment, a_comment}

pick_other : (b : Bool) (r : List ℕ) (rs : List (List ℕ)) → b ≡ false → pick b (r ∷ rs) rs ≡ rs
pick_other true r rs e = cc
pick_other false r rs e = refl

-- ---- comments, and then other items
pub other_rows : (t : Table) {xs : List Item} (ys : List Item) → eqb (number t) 5 ≡ false → Commented xs → rows_of t (xs ++ ys) ≡ rows_of t ys
unfolding rows_of
other_rows t ys e no_comment = refl
other_rows t ys e (a_comment {ws} {xs} n a) = pick_other (eqb (number t) 5) ws (rows_of t (xs ++ ys)) e ∙ other_rows t ys e a

pub same_bad : {xs : List Item} (ys : List Item) → Commented xs → first_bad (xs ++ ys) ≡ first_bad ys
unfolding first_bad
same_bad ys no_comment = refl
same_bad ys (a_comment n a) = same_bad ys a

no_comments : {ys : List Item} → Sorted others ys → rows_of Table.comments ys ≡ []
unfolding rows_of
no_comments none = refl
no_comments (an_int p r a) = no_comments a
no_comments (a_row Table.declarations n e a) = no_comments a
no_comments (a_row Table.fields n e a) = no_comments a
no_comments (a_row Table.tags n e a) = no_comments a
no_comments (a_row Table.constraints n e a) = no_comments a
no_comments (a_row Table.comments n e a) = cc

pub comment_rows : {xs ys : List Item} → Commented xs → Sorted others ys → rows_of Table.comments (xs ++ ys) ≡ rows_of Table.comments xs
unfolding rows_of
comment_rows no_comment b = no_comments b
comment_rows (a_comment {ws} n a) b = ap (λ (rs : List (List ℕ)). ws ∷ rs) (comment_rows a b)

-- ---- every row has its table's size
abbrev size_at : ℕ → ℕ
size_at n =
    pick (eqb n (number Table.declarations)) (size Table.declarations)
    (pick (eqb n (number Table.fields)) (size Table.fields)
    (pick (eqb n (number Table.tags)) (size Table.tags)
    (pick (eqb n (number Table.constraints)) (size Table.constraints)
    (size Table.comments))))

by_number : (t : Table) → size t ≡ size_at (number t)
by_number Table.declarations = refl
by_number Table.fields = refl
by_number Table.tags = refl
by_number Table.constraints = refl
by_number Table.comments = refl

sized_pick : (b : Bool) (n : ℕ) (r : List ℕ) (rs : List (List ℕ)) → (b ≡ true → length r ≡ n) → Sized n rs → Sized n (pick b (r ∷ rs) rs)
unfolding Sized
sized_pick true n r rs e h = (e refl, h)
sized_pick false n r rs e h = h

same_size : (t u : Table) → eqb (number t) (number u) ≡ true → size u ≡ size t
same_size t u e = by_number u ∙ ap size_at (sym (eqb-true (number t) (number u) e)) ∙ sym (by_number t)

sorted_sized : (t : Table) {xs : List Item} → Sorted others xs → Sized (size t) (rows_of t xs)
unfolding rows_of Sized
sorted_sized t none = tt
sorted_sized t (an_int p r a) = sorted_sized t a
sorted_sized t (a_row u {ws} {xs} n e a) = sized_pick (eqb (number t) (number u)) (size t) ws (rows_of t xs) (λ h. e ∙ same_size t u h) (sorted_sized t a)

pub sized : (t : Table) {xs ys : List Item} → Commented xs → Sorted others ys → Sized (size t) (rows_of t (xs ++ ys))
unfolding rows_of
sized t no_comment b = sorted_sized t b
sized t {ys = ys} (a_comment {ws} {xs} e a) b =
    sized_pick (eqb (number t) 5) (size t) ws (rows_of t (xs ++ ys)) (λ h. e ∙ same_size t Table.comments h) (sized t a b)
