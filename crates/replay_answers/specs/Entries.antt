-- The lines before the entries of a list, and an entry: its text, and where its parts stand.
use Rattle.std.specs.Prelude.{ℕ, suc, ◌+◌, ◌-◌, ◌≤◌, ◌<◌, ◌≡◌, List, [], ◌∷◌, ◌++◌, Bool, not, eqb, length, get_or, take, drop}
use Rattle.meaning.specs.Choice.{pick, both}
use Rattle.printing.specs.Lines.{line}
use Rattle.replay_answers.specs.declared.entries.Entry.{Entry}

abbrev pub part : List ℕ → ℕ → ℕ → List ℕ
part list from to = take (to - from) (drop from list)

-- ---- the lines that start with `#`, before all entries: such a line is over behind its LF
abbrev pub over : Bool → ℕ → Bool
over inside b = both (not inside) (not (eqb b 35))

unfoldable pub heading : Bool → List ℕ → ℕ
heading inside [] = 0
heading inside (b ∷ bs) = pick (over inside b) 0 (suc (heading (not (eqb b 10)) bs))

-- ---- an entry, and what stands behind it: a line with the lengths of its parts, and the parts, each ended by LF
unfoldable pub entry : List ℕ → List ℕ → List ℕ → List ℕ
entry source lines rest = line 83 (length source ∷ length lines ∷ []) ++ (source ++ 10 ∷ (lines ++ 10 ∷ rest))

-- its text stands there
abbrev pub Stands : List ℕ → ℕ → Entry → Type 0
Stands list at e = drop at list ≡ entry e.source.now e.lines.now (drop e.next list)

-- ---- the place behind a byte, whichever it is; the end of the list stays
pub record Behind (list : List ℕ) (at r : ℕ) : Type 0 where
  pub from : at ≤ r
  pub inside : r ≤ length list
  pub next : at < length list → r ≡ at + 1

-- ---- the end of a part that has LF behind it
pub record Ends (list : List ℕ) (at bytes r : ℕ) : Type 0 where
  pub is : r ≡ at + bytes
  pub inside : r < length list
  pub feed : get_or list r 0 ≡ 10

-- an entry that starts at a place: it ends behind that, within the list
pub record EntryAt (list : List ℕ) (at : ℕ) (e : Entry) : Type 0 where
  pub from : at < e.next
  pub inside : e.next ≤ length list
  pub stands : Stands list at e
