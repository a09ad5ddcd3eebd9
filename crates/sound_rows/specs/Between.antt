-- The rows of one table among the walk's items, from one offset to another: each starts behind the start of the one before it, and
-- its names are made of nodes.
use Rattle.std.specs.Prelude.{◌≡◌, Bool, ℕ, ◌+◌, ◌≤◌, ◌<◌, length, get_or}
use Rattle.std.proofs.Math.Path.{refl, ap}
use Rattle.std.proofs.Common.{sym, ◌∙◌, subst}
use Rattle.std.proofs.Math.Bool.{true, false}
use mathlib.Core.List.{List, [], ◌∷◌, ◌++◌, append-nil}
use native.Mathlib.Omega.{arith}
use Rattle.std.proofs.Math.Dec.{eqb}
use Rattle.meaning.specs.Choice.{pick}
use Rattle.meaning.specs.Rules.{Rule, is}
use Rattle.meaning.specs.Forest.{Forest}
use Rattle.meaning.specs.Convert.{convert, reason_of}
use Rattle.meaning.specs.Tables.{Table, number as table-number, Item, int, row, rows_of, count}
use Rattle.meaning.specs.Rows.{row_kind, start_offset}
use Rattle.meaning.specs.Walk.{Part, node, each, text_of, number, numbers}
use Rattle.meaning.specs.Moving.{Moving, ◌moves-as◌, offset, line, column, name, first, condition, moving}
use Rattle.sound_rows.specs.Placement.{Known, bare, grown, upward}
use Rattle.sound_rows.specs.Slots.{Nodes, Made, Node, node_of}
use Rattle.standing.specs.MovedItems.{same_table, rows-++}

-- ---- a row
abbrev pub start : List ℕ → ℕ
start ws = get_or ws start_offset 0

-- where names stand: the words that move as names
abbrev pub name_positions : List Moving → List ℕ
name_positions [] = []
name_positions ((i moves-as offset) ∷ ms) = name_positions ms
name_positions ((i moves-as line) ∷ ms) = name_positions ms
name_positions ((i moves-as column l) ∷ ms) = name_positions ms
name_positions ((i moves-as name) ∷ ms) = i ∷ name_positions ms
name_positions ((i moves-as first t c) ∷ ms) = name_positions ms
name_positions ((i moves-as condition) ∷ ms) = name_positions ms

-- what holds of offset and length of the names at these positions
abbrev pub Names : (ℕ → ℕ → Type 0) → List ℕ → List ℕ → Type 0
Names N ws [] = Unit {0}
Names N ws (i ∷ is) = N (get_or ws i 0) (get_or ws (i + 1) 0) × Names N ws is

-- and of all names of a row
abbrev pub Named : (ℕ → ℕ → Type 0) → Table → List ℕ → Type 0
Named N t ws = Names N ws (name_positions (moving t (get_or ws row_kind 0)))

-- ---- rows
abbrev pub Laid : Known → Table → ℕ → ℕ → List (List ℕ) → Type 0
Laid P t lo hi [] = lo ≤ hi
Laid P t lo hi (ws ∷ rs) = (lo ≤ start ws) × (Named (Made P) t ws × Laid P t (start ws + 1) hi rs)

pub record Between (P : Known) (t : Table) (lo hi : ℕ) (xs : List Item) : Type 0 where
  pub laid : Laid P t lo hi (rows_of t xs)

-- the items f p of any node p of the rule r, up to n, stand from its start to its end
abbrev pub Spans : ℕ → Known → Table → Rule → (Part → List Item) → Type 0
Spans n P t r f = (p : Part) → Node P r p → p.start + p.len ≤ n → Between P t p.start (p.start + p.len) (f p)

module _ (P : Known) (t : Table) where
  laid_higher : (lo mid hi : ℕ) (rs : List (List ℕ)) → lo ≤ mid → Laid P t mid hi rs → Laid P t lo hi rs
  laid_higher lo mid hi [] e h = omega (arith, e, h)
  laid_higher lo mid hi (ws ∷ rs) e h = (omega (arith, e, h.0), h.1)

  laid_wider : (lo mid hi : ℕ) (rs : List (List ℕ)) → mid ≤ hi → Laid P t lo mid rs → Laid P t lo hi rs
  laid_wider lo mid hi [] e h = omega (arith, e, h)
  laid_wider lo mid hi (ws ∷ rs) e h = (h.0, (h.1.0, laid_wider (start ws + 1) mid hi rs e h.1.1))

  laid-++ : (lo mid hi : ℕ) (rs qs : List (List ℕ)) → Laid P t lo mid rs → Laid P t mid hi qs → Laid P t lo hi (rs ++ qs)
  laid-++ lo mid hi [] qs h k = laid_higher lo mid hi qs h k
  laid-++ lo mid hi (ws ∷ rs) qs h k = (h.0, (h.1.0, laid-++ (start ws + 1) mid hi rs qs h.1.1 k))

no_rows : (rs : List (List ℕ)) → length rs ≡ 0 → rs ≡ []
no_rows [] e = refl
no_rows (r ∷ rs) e = absurd (omega arith)

-- ---- items
module _ {P : Known} {t : Table} where
  pub between_none : {lo hi : ℕ} → lo ≤ hi → Between P t lo hi []
  unfolding rows_of
  between_none h = record { laid = h }

  pub between-++ : {lo mid hi : ℕ} {xs ys : List Item} → Between P t lo mid xs → Between P t mid hi ys → Between P t lo hi (xs ++ ys)
  between-++ {lo} {mid} {hi} {xs} {ys} h k = record { laid = rw (rows-++ t xs ys) (laid-++ P t lo mid hi (rows_of t xs) (rows_of t ys) h.laid k.laid) }

  pub between_in : {lo a b hi : ℕ} {xs : List Item} → lo ≤ a → b ≤ hi → Between P t a b xs → Between P t lo hi xs
  between_in {lo} {a} {b} {hi} {xs} e i h = record { laid = laid_higher P t lo a hi (rows_of t xs) e (laid_wider P t a b hi (rows_of t xs) i h.laid) }

  pub between_row : (u : Table) {lo hi : ℕ} (ws : List ℕ) → lo ≤ start ws → start ws < hi → Named (Made P) u ws → Between P t lo hi (row u ws ∷ [])
  unfolding rows_of
  between_row u {lo} {hi} ws a b c = record { laid = go (eqb (table-number t) (table-number u)) refl }
    where
      go : (z : Bool) → eqb (table-number t) (table-number u) ≡ z → Laid P t lo hi (pick z (ws ∷ []) [])
      go true e = (a, (subst (λ (v : Table). Named (Made P) v ws) (sym (same_table t u e)) c, omega (arith, b)))
      go false e = omega (arith, a, b)

  -- a row behind its own parts, which write other tables
  pub between_last : (u : Table) {lo hi : ℕ} {xs : List Item} (ws : List ℕ) → Between P t lo hi xs → count u xs ≡ 0
      → lo ≤ start ws → start ws < hi → Named (Made P) u ws → Between P t lo hi (xs ++ row u ws ∷ [])
  unfolding rows_of
  between_last u {lo} {hi} {xs} ws h z a b c =
      record { laid = rw (rows-++ t xs (row u ws ∷ [])) (go (eqb (table-number t) (table-number u)) refl) }
    where
      go : (y : Bool) → eqb (table-number t) (table-number u) ≡ y → Laid P t lo hi (rows_of t xs ++ pick y (ws ∷ []) [])
      go true e =
          let q : t ≡ u = same_table t u e in
          let i : rows_of t xs ≡ [] = ap (λ (v : Table). rows_of v xs) q ∙ no_rows (rows_of u xs) z in
          rw i ((a, (subst (λ (v : Table). Named (Made P) v ws) (sym q) c, omega (arith, b))))
      go false e = rw (append-nil (rows_of t xs)) h.laid

  -- integers
  pub between_number : {lo hi : ℕ} (src : List ℕ) (p : Part) → lo ≤ hi → Between P t lo hi (number src p)
  unfolding rows_of
  between_number {lo} {hi} src p h = go p.found
    where
      go : (b : Bool) → Between P t lo hi (pick b (int p.start (reason_of (convert (text_of src p))) ∷ []) [])
      go true = record { laid = h }
      go false = record { laid = h }

  pub between_numbers : {lo hi : ℕ} (src : List ℕ) (ps : List Part) → lo ≤ hi → Between P t lo hi (numbers src ps)
  unfolding numbers
  between_numbers src [] h = between_none h
  between_numbers {lo} src (p ∷ ps) h = let z : lo ≤ lo = omega arith in between-++ (between_number src p z) (between_numbers src ps h)

  -- the nodes of a rule, side by side
  pub between_each : (r : Rule) (f : Part → List Item) {n : ℕ} → Spans n P t r f → {lo hi : ℕ} {w : Forest} → Nodes P lo hi w → hi ≤ n
      → Between P t lo hi (each r f w)
  unfolding each
  between_each r f h (bare k) e = between_none k
  between_each r f {n} h {lo} {hi} (grown {r = q} {s} {l} {kids} {more} a b i j) e =
      let u : s + l ≤ n = omega (arith, upward j) in
      between-++ (go u (is r q) refl) (between_each r f h j e)
    where
      go : s + l ≤ n → (z : Bool) → is r q ≡ z → Between P t lo (s + l) (pick z (f (node s l kids more)) [])
      go u true d = between_in b (let y : s + l ≤ s + l = omega arith in y) (h (node s l kids more) (node_of r q d a i) u)
      go u false d = between_none (let y : lo ≤ s + l = omega arith in y)
