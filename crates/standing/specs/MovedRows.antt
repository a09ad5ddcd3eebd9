-- Moved rows, by their builders: a row whose parts are the old row's parts, moved, is the old row, moved.
use Rattle.std.specs.Prelude.{ℕ, zero, suc, ◌+◌, ◌-◌, ◌<◌, ◌≡◌, Bool, true, false, List, [], ◌∷◌}
use Rattle.std.proofs.Common.{arith, sym, ◌∙◌, subst}
use Rattle.std.proofs.Math.Path.{refl}
use Rattle.meaning.specs.declared.SourceLocation.{SourceLocation}
use Rattle.meaning.specs.Choice.{pick}
use Rattle.meaning.specs.Places.{at}
use Rattle.meaning.specs.Tables.{Table, row, first_of}
use Rattle.meaning.specs.Rows.{place_words, declaration_words, field_words, tag_words, constraint_words, comment_words}
use Rattle.meaning.specs.Moving.{Move, unless_none, unless_empty, members, moved_row}
use Rattle.standing.specs.MovedItems.{moved_items, Carries}

-- ---- the parts of a row: as they have become, and as they were
abbrev pub moved_place : Move → SourceLocation → SourceLocation
moved_place m p = at (p.offset + m.bytes) (p.line + m.lines) (p.column - m.loses p.line)

pub data Place (m : Move) : List ℕ → List ℕ → Type 0 where
  placed : (p q : SourceLocation) → Place m (place_words (moved_place m p) (moved_place m q)) (place_words p q)

pub data Name (m : Move) : List ℕ → List ℕ → Type 0 where
  named : (o n : ℕ) → Name m (unless_none m.bytes o ∷ n ∷ []) (o ∷ n ∷ [])

pub data Number : List ℕ → List ℕ → Type 0 where
  numbered : (flag n : ℕ) → Number (flag ∷ n ∷ []) (flag ∷ n ∷ [])

-- a word that stays
pub data Stays : ℕ → ℕ → Type 0 where
  stays : (x : ℕ) → Stays x x

-- a first row of a table, and its count
pub data First (m : Move) (t : Table) : ℕ → ℕ → ℕ → ℕ → Type 0 where
  first : (x n : ℕ) → First m t (unless_empty (m.before t) n x) n x n

pub data Condition (m : Move) : ℕ → ℕ → Type 0 where
  conditional : (x : ℕ) → Condition m (unless_none (m.before Table.constraints) x) x

-- ---- each from equations
pub place_of : {m : Move} {p p' q q' : SourceLocation} → p' ≡ moved_place m p → q' ≡ moved_place m q → Place m (place_words p' q') (place_words p q)
place_of {m} {p} {p'} {q} {q'} e h =
    subst (λ (x : SourceLocation). Place m (place_words x q') (place_words p q)) (sym e)
    (subst (λ (y : SourceLocation). Place m (place_words (moved_place m p) y) (place_words p q)) (sym h) (placed p q))

pub name_of : {m : Move} {o o' : ℕ} (n : ℕ) → o' ≡ unless_none m.bytes o → Name m (o' ∷ n ∷ []) (o ∷ n ∷ [])
name_of {m} {o} n e = subst (λ (x : ℕ). Name m (x ∷ n ∷ []) (o ∷ n ∷ [])) (sym e) (named o n)

pub number_of : {f f' n n' : ℕ} → f' ≡ f → n' ≡ n → Number (f' ∷ n' ∷ []) (f ∷ n ∷ [])
number_of {f} {n = n} {n'} e h =
    subst (λ (x : ℕ). Number (x ∷ n' ∷ []) (f ∷ n ∷ [])) (sym e) (subst (λ (y : ℕ). Number (f ∷ y ∷ []) (f ∷ n ∷ [])) (sym h) (numbered f n))

pub stays_of : {x y : ℕ} → x ≡ y → Stays x y
stays_of {y = y} e = subst (λ (z : ℕ). Stays z y) (sym e) (stays y)

pub first_of_lem : (t : Table) (y : ℕ) {m : Move} {x n i : ℕ} → x ≡ y + m.before t → n ≡ i → First m t (first_of x n) n (first_of y i) i
first_of_lem t y {m} {x} {n} {i} e h = subst (λ (j : ℕ). First m t (first_of x j) j (first_of y i) i) (sym h) (go i)
  where
    go : (i : ℕ) → First m t (first_of x i) i (first_of y i) i
    go zero = first 0 0
    go (suc i) = subst (λ (z : ℕ). First m t z (suc i) y (suc i)) (sym e) (first y (suc i))

pub unless_some : (k x : ℕ) → 0 < x → unless_none k x ≡ x + k
unless_some k zero h = absurd (omega arith)
unless_some k (suc x) h = refl

-- a condition's row plus 1, or 0
pub condition_of_lem : (y : ℕ) {m : Move} {b c : Bool} {x n i : ℕ} → b ≡ c → x ≡ y + m.before Table.constraints → n ≡ i
    → Condition m (pick b (x + n + 1) 0) (pick c (y + i + 1) 0)
condition_of_lem y {m} {b} {c} {x} {n} {i} d e h = subst (λ (z : Bool). Condition m (pick z (x + n + 1) 0) (pick c (y + i + 1) 0)) (sym d) (go c)
  where
    go : (z : Bool) → Condition m (pick z (x + n + 1) 0) (pick z (y + i + 1) 0)
    go true =
        subst (λ (w : ℕ). Condition m w (y + i + 1)) (unless_some (m.before Table.constraints) (y + i + 1) (omega arith) ∙ omega (arith, e, h))
        (conditional (y + i + 1))
    go false = conditional 0

-- ---- the rows
module _ {m : Move} where
  pub constraint_moved : {k k' v v' : ℕ} {p p' i i' t t' : List ℕ} → Stays k' k → Place m p' p → Name m i' i → Name m t' t → Stays v' v
      → Carries m (row Table.constraints (constraint_words k' p' i' t' v') ∷ []) (row Table.constraints (constraint_words k p i t v) ∷ [])
  unfolding moved_items moved_row
  constraint_moved (stays k) (placed p q) (named io il) (named to tl) (stays v) = record { is = refl }

  pub tag_moved : (k : ℕ) {v v' e e' n n' : ℕ} {p p' i i' : List ℕ} → Place m p' p → Name m i' i → Stays v' v → Stays e' e → Stays n' n
      → Carries m (row Table.tags (tag_words k p' i' v' e' n') ∷ []) (row Table.tags (tag_words k p i v e n) ∷ [])
  unfolding moved_items moved_row
  tag_moved k (placed p q) (named io il) (stays v) (stays e) (stays n) = record { is = refl }

  pub field_moved : {k k' f f' n n' i i' : ℕ} {p p' a a' b b' c c' na na' nb nb' : List ℕ} → Stays k' k → Place m p' p → Name m a' a → Name m b' b → Name m c' c
      → Number na' na → Number nb' nb → First m Table.constraints f' n' f n → Condition m i' i
      → Carries m (row Table.fields (field_words k' p' a' b' c' na' nb' f' n' i') ∷ []) (row Table.fields (field_words k p a b c na nb f n i) ∷ [])
  unfolding moved_items moved_row
  field_moved (stays k) (placed p q) (named ao al) (named bo bl) (named co cl) (numbered fa na) (numbered fb nb) (first f n)
      (conditional i) = record { is = refl }

  pub declaration_moved : (k : ℕ) {f f' n n' cf cf' cn cn' : ℕ} {p p' i i' o o' w w' : List ℕ} → Place m p' p → Name m i' i → Name m o' o → Number w' w
      → First m (members k) f' n' f n → First m Table.constraints cf' cn' cf cn
      → Carries m (row Table.declarations (declaration_words k p' i' o' w' f' n' cf' cn') ∷ [])
      (row Table.declarations (declaration_words k p i o w f n cf cn) ∷ [])
  unfolding moved_items moved_row
  declaration_moved k (placed p q) (named io il) (named oo ol) (numbered wf w) (first f n) (first cf cn) = record { is = refl }

  pub comment_moved : {k k' : ℕ} {p p' : List ℕ} → Stays k' k → Place m p' p
      → Carries m (row Table.comments (comment_words k' p') ∷ []) (row Table.comments (comment_words k p) ∷ [])
  unfolding moved_items moved_row
  comment_moved (stays k) (placed p q) = record { is = refl }
