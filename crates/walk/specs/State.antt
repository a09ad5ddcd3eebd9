-- The walk's state, and what the items that it meets do to it and to the tables lent to it.
use Rattle.std.specs.Prelude.{ℕ, ◌+◌, ◌^◌, ◌≤◌, ◌<◌, ◌≡◌, List, [], ◌∷◌, length, get_or, eqb, Option, None, Some}
use Rattle.meaning.specs.declared.SourceLocation.{SourceLocation}
use Rattle.meaning.specs.Choice.{pick}
use Rattle.meaning.specs.Places.{place_at}
use Rattle.meaning.specs.Tables.{Table, size, Item, int, row, rows_of, count, Bad, puts, Lent, lent}
use Rattle.walk.specs.declared.Door.{Door}
use Rattle.walk.specs.declared.Door.TheVariants.{Count, Write}
use Rattle.meaning.specs.declared.ConversionError.{ConversionError}
use Rattle.meaning.specs.declared.ConversionError.TheVariants.{Empty, BadDigit, TooLarge}
use Rattle.meaning.specs.Convert.{reason_of}
use Rattle.walk.specs.declared.Walk.{Walk}
use Rattle.walk.specs.declared.Number.{Number}
use Rattle.walk.specs.declared.Unconverted.{Unconverted}

-- ---- the counts, by table
abbrev pub slot : Table → ℕ
slot Table.declarations = 0
slot Table.fields = 1
slot Table.tags = 2
slot Table.constraints = 3
slot Table.comments = 4

abbrev pub counted : Table → Walk → ℕ
counted t n = get_or n.counts (slot t) 0

-- nothing done yet
abbrev pub fresh : Door → Walk
fresh d = record { door = d; counts = 0 ∷ 0 ∷ 0 ∷ 0 ∷ 0 ∷ []; bad = record { place = 0; reason = 0 }; here = record { offset = 0; line = 0; column = 0 } }

-- ---- the first bad integer stays
abbrev pub bad_of : Walk → Bad
bad_of n = record { place = n.bad.place; reason = n.bad.reason }

unfoldable pub worse : ℕ → ℕ → Bad → Bad
worse p r b = pick (eqb b.reason 0) (pick (eqb r 0) b (record { place = p; reason = r })) b

unfoldable pub bads : List Item → Bad → Bad
bads [] b = b
bads (int p r ∷ xs) b = bads xs (worse p r b)
bads (row t ws ∷ xs) b = bads xs b

abbrev worst : ℕ → ℕ → Walk → Unconverted
worst p r n = record { place = (worse p r (bad_of n)).place; reason = (worse p r (bad_of n)).reason }

-- the state after an integer with this place and reason
abbrev pub after_integer : ℕ → ℕ → Walk → Walk
after_integer p r n = record { door = n.door; counts = n.counts; bad = worst p r n; here = n.here }

abbrev worst_number : Option Number → Walk → Unconverted
worst_number None n = n.bad
worst_number (Some x) n = worst x.place (reason_of x.value) n

-- the state after an integer, if there is one
abbrev pub after_number : Option Number → Walk → Walk
after_number x n = record { door = n.door; counts = n.counts; bad = worst_number x n; here = n.here }

-- the error of a reason's number; 0 is that of none
abbrev pub error_at : ℕ → Option ConversionError
error_at n = pick (eqb n 1) (Some Empty) (pick (eqb n 2) (Some BadDigit) (pick (eqb n 3) (Some TooLarge) None))

-- the same walk, which only counts
abbrev pub counting : Walk → Walk
counting n = record { door = Count; counts = n.counts; bad = n.bad; here = n.here }

-- the same walk at another place
abbrev pub placed : SourceLocation → Walk → Walk
placed p n = record { door = n.door; counts = n.counts; bad = n.bad; here = p }

-- ---- what the door does with rows that come to it from row k on
unfoldable pub left : Door → ℕ → ℕ → List (List ℕ) → List ℕ → List ℕ
left Count size k rows t = t
left Write size k rows t = puts size k rows t

-- the tables, one of them lent with these words
abbrev pub lend : Table → List ℕ → Lent → Lent
lend Table.declarations ws l = record { w1 = ws; w2 = l.w2; w3 = l.w3; w4 = l.w4; w5 = l.w5 }
lend Table.fields ws l = record { w1 = l.w1; w2 = ws; w3 = l.w3; w4 = l.w4; w5 = l.w5 }
lend Table.tags ws l = record { w1 = l.w1; w2 = l.w2; w3 = ws; w4 = l.w4; w5 = l.w5 }
lend Table.constraints ws l = record { w1 = l.w1; w2 = l.w2; w3 = l.w3; w4 = ws; w5 = l.w5 }
lend Table.comments ws l = record { w1 = l.w1; w2 = l.w2; w3 = l.w3; w4 = l.w4; w5 = ws }

-- What a walk over these items does, from the state n to r, with the tables lent as a says and left as b says. Of the tables
-- that are not lent it says, where the walk writes, that no row is theirs.
pub record Wrote (xs : List Item) (n r : Walk) (a b : Lent → Lent) : Type 0 where
  pub door : r.door ≡ n.door
  pub sized : length r.counts ≡ length n.counts
  pub counts : (t : Table) → counted t r ≡ counted t n + count t xs
  pub bad : bad_of r ≡ bads xs (bad_of n)
  pub words : (l : Lent) (t : Table) → lent t (b l) ≡ left n.door (size t) (counted t n) (rows_of t xs) (lent t (a l))

-- ---- where the walk has come to
-- a place is known only to a walk that writes: it is right, and not past the offset k; or it is that of k
unfoldable pub Near : Door → List ℕ → ℕ → SourceLocation → Type 0
Near Count src k p = Unit {0}
Near Write src k p = (p ≡ place_at src p.offset) × (p.offset ≤ k)

unfoldable pub Stands : Door → List ℕ → ℕ → SourceLocation → Type 0
Stands Count src k p = Unit {0}
Stands Write src k p = p ≡ place_at src k

-- the walk has come to the offset k: every count is at most that, since a row takes a byte
pub record At (src : List ℕ) (k : ℕ) (n : Walk) : Type 0 where
  pub within : k ≤ length src
  pub sized : length n.counts ≡ 5
  pub few : (t : Table) → counted t n ≤ k
  pub near : Near n.door src k n.here

-- it goes over some items and comes to k
pub record Goes (xs : List Item) (src : List ℕ) (k : ℕ) (n r : Walk) (a b : Lent → Lent) : Type 0 where
  pub wrote : Wrote xs n r a b
  pub at : At src k r

abbrev pub same : Lent → Lent
same l = l

pub record Came (src : List ℕ) (k : ℕ) (n r : Walk) : Type 0 where
  pub goes : Goes [] src k n r same same
  pub stands : Stands r.door src k r.here

-- ---- one row at the door
-- the table at a place of the counts
abbrev pub table_at : ℕ → Table
table_at k =
    pick (eqb k 0) Table.declarations (pick (eqb k 1) Table.fields (pick (eqb k 2) Table.tags (pick (eqb k 3) Table.constraints Table.comments)))

pub record Knows (n : Walk) (k : ℕ) : Type 0 where
  pub sized : length n.counts ≡ 5
  pub room : get_or n.counts k 0 + 1 < 2 ^ 64

pub record Put (k : ℕ) (ws : List ℕ) (n r : Walk) (t t' : List ℕ) : Type 0 where
  pub door : r.door ≡ n.door
  pub here : r.here ≡ n.here
  pub bad : bad_of r ≡ bad_of n
  pub sized : length r.counts ≡ 5
  pub same : (j : ℕ) → (j ≡ k → ⊥) → get_or r.counts j 0 ≡ get_or n.counts j 0
  pub one : get_or r.counts k 0 ≡ get_or n.counts k 0 + 1
  pub words : t' ≡ left n.door (length ws) (get_or n.counts k 0) (ws ∷ []) t

-- ---- the items before some, as the walk has counted them
pub record Tallied (xs : List Item) (n : Walk) : Type 0 where
  pub counts : (t : Table) → count t xs ≡ counted t n
