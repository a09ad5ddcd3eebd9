-- Tables with room for all their rows: none is short, and the rows stand at their start.
use Rattle.std.specs.Prelude.{ℕ, ◌*◌, ◌≤◌, ◌<◌, ◌≡◌, refl, List, [], ◌∷◌, Bool, true, false, length, take, drop, ltb}
use Rattle.std.proofs.Common.{arith, suc-mul, zero-mul, le-div_iff_mul-le, ap, sym, ◌∙◌, le-ltb, ltb-false, length-append, take_at, drop_at}
use Rattle.meaning.specs.Choice.{pick}
use Rattle.meaning.specs.Tables.{Table, size, Item, rows_of, count, flat, room, Lent, lent, filled, short, all}
use Rattle.ast.specs.RowLaws.{Sized, puts_all}

-- each table has room for its rows among the items
abbrev pub Roomy : List Item → Lent → Type 0
Roomy xs l = (t : Table) → count t xs ≤ room (size t) (lent t l)

-- the number of the first table of which a test holds
abbrev first : Bool → Bool → Bool → Bool → Bool → ℕ
first a b c d e = pick a 1 (pick b 2 (pick c 3 (pick d 4 (pick e 5 0))))

none_lacking : (f : Table → Bool) → first (f Table.declarations) (f Table.fields) (f Table.tags) (f Table.constraints) (f Table.comments) ≡ 0
    → (t : Table) → f t ≡ false
none_lacking f h = go (f Table.declarations) (f Table.fields) (f Table.tags) (f Table.constraints) (f Table.comments) refl refl refl refl refl h
  where
    go : (a b c d e : Bool) → f Table.declarations ≡ a → f Table.fields ≡ b → f Table.tags ≡ c → f Table.constraints ≡ d → f Table.comments ≡ e
        → first a b c d e ≡ 0
        → (t : Table) → f t ≡ false
    go true b c d e p q r s u h t = absurd (omega arith)
    go false true c d e p q r s u h t = absurd (omega arith)
    go false false true d e p q r s u h t = absurd (omega arith)
    go false false false true e p q r s u h t = absurd (omega arith)
    go false false false false true p q r s u h t = absurd (omega arith)
    go false false false false false p q r s u h Table.declarations = p
    go false false false false false p q r s u h Table.fields = q
    go false false false false false p q r s u h Table.tags = r
    go false false false false false p q r s u h Table.constraints = s
    go false false false false false p q r s u h Table.comments = u

pub roomy : (xs : List Item) (l : Lent) → short all xs l ≡ 0 → Roomy xs l
roomy xs l h t = ltb-false (room (size t) (lent t l)) (count t xs) (none_lacking (λ u. ltb (room (size u) (lent u l)) (count u xs)) h t)

pub none_short : (xs : List Item) (l : Lent) → Roomy xs l → short all xs l ≡ 0
none_short xs l h =
    let e : (t : Table) → ltb (room (size t) (lent t l)) (count t xs) ≡ false = λ t. le-ltb (room (size t) (lent t l)) (count t xs) (h t) in
    rw (e Table.declarations, e Table.fields, e Table.tags, e Table.constraints, e Table.comments)

-- ---- the words of the rows
length_flat : (n : ℕ) (rows : List (List ℕ)) → Sized n rows → length (flat rows) ≡ length rows * n
unfolding Sized flat
length_flat n [] z = sym (zero-mul n)
length_flat n (r ∷ rs) z = length-append r (flat rs) ∙ omega (arith, z.0, length_flat n rs z.1, suc-mul (length rs) n)

some_words : (t : Table) → 0 < size t
some_words Table.declarations = omega arith
some_words Table.fields = omega arith
some_words Table.tags = omega arith
some_words Table.constraints = omega arith
some_words Table.comments = omega arith

pub first_words : (xs : List Item) (l : Lent) (t : Table) → Sized (size t) (rows_of t xs) → count t xs ≤ room (size t) (lent t l)
    → take (count t xs * size t) (filled xs l t) ≡ flat (rows_of t xs)
first_words xs l t z h =
    let k : count t xs * size t ≤ length (lent t l) = (le-div_iff_mul-le (some_words t)).0 h in
    ap (take (count t xs * size t)) (puts_all (size t) (rows_of t xs) (lent t l) z k)
    ∙ take_at (flat (rows_of t xs)) (drop (count t xs * size t) (lent t l)) (count t xs * size t) (length_flat (size t) (rows_of t xs) z)

-- and the words behind them are those that were lent
pub words_behind : (xs : List Item) (l : Lent) (t : Table) → Sized (size t) (rows_of t xs) → count t xs ≤ room (size t) (lent t l)
    → drop (count t xs * size t) (filled xs l t) ≡ drop (count t xs * size t) (lent t l)
words_behind xs l t z h =
    let k : count t xs * size t ≤ length (lent t l) = (le-div_iff_mul-le (some_words t)).0 h in
    ap (drop (count t xs * size t)) (puts_all (size t) (rows_of t xs) (lent t l) z k)
    ∙ drop_at (flat (rows_of t xs)) (drop (count t xs * size t) (lent t l)) (count t xs * size t) (length_flat (size t) (rows_of t xs) z)
