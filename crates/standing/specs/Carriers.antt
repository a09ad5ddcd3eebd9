-- The bytes of a source to which a newline and more was added, and those of the declarations that were added: the first stand
-- where they stood, the others are moved.
use Rattle.std.specs.Prelude.{ℕ, zero, suc, ◌+◌, ◌-◌, ◌≤◌, ◌<◌, ◌≡◌, refl, List, [], ◌∷◌, ◌++◌, length, get_or, set, take, drop}
use Rattle.std.proofs.Common.{arith, sym, ap, ap₂, ◌∙◌, subst, length-drop, drop-drop}
use Rattle.std.proofs.lemmas.List.{drop-append-le, take-append-le}
use Rattle.std.proofs.Math.Seq.{drop-append_seam, drop-append-add}
use Rattle.meaning.specs.declared.SourceLocation.{SourceLocation}
use Rattle.meaning.specs.Forest.{Forest, nil, tree}
use Rattle.meaning.specs.Places.{at, place_at}
use Rattle.meaning.specs.Tables.{Table, Item, int, row}
use Rattle.meaning.specs.Rows.{row_kind}
use Rattle.grammar.specs.Limits.{Limits}
use Rattle.meaning.specs.Moving.{Move, Sort, offset, line, column, name, first, condition, unless_none, unless_empty, moved_word, Moving, ◌moves-as◌, moving, moved_words, moved_row, breaks}
use Rattle.standing.specs.Joinings.{moved_by}
use Rattle.standing.specs.Places.{on_line, drawn_back, end_of, place_before, place_behind}
use Rattle.standing.specs.MovedItems.{moved_item, moved_items, Carries}
use Rattle.standing.specs.MovedRows.{moved_place, unless_some}
use Rattle.standing.specs.MovedParts.{Carried, Grove, grove}

-- ---- nothing moves
abbrev pub still : Move
still = record { bytes = 0; lines = 0; loses = λ l. 0; before = λ t. 0 }

unless_still : (x : ℕ) → unless_none 0 x ≡ x
unless_still zero = refl
unless_still (suc x) = omega arith

first_still : (n x : ℕ) → unless_empty 0 n x ≡ x
first_still zero x = refl
first_still (suc n) x = omega arith

word_still : (ws : List ℕ) (s : Sort) (x : ℕ) → moved_word still ws s x ≡ x
word_still ws offset x = omega arith
word_still ws line x = omega arith
word_still ws (column l) x = omega arith
word_still ws name x = unless_still x
word_still ws (first t n) x = first_still (get_or ws n 0) x
word_still ws condition x = unless_still x

set_same : (ws : List ℕ) (i : ℕ) → set ws i (get_or ws i 0) ≡ ws
set_same [] i = refl
set_same (w ∷ ws) zero = refl
set_same (w ∷ ws) (suc i) = ap (λ (vs : List ℕ). w ∷ vs) (set_same ws i)

words_still : (ws : List ℕ) (ms : List Moving) → moved_words still ws ms ws ≡ ws
words_still ws [] = refl
words_still ws ((i moves-as s) ∷ ms) =
    ap (moved_words still ws ms) (ap (set ws i) (word_still ws s (get_or ws i 0)) ∙ set_same ws i) ∙ words_still ws ms

row_still : (t : Table) (ws : List ℕ) → moved_row still t ws ≡ ws
unfolding moved_row
row_still t ws = words_still ws (moving t (get_or ws row_kind 0))

item_still : (x : Item) → moved_item still x ≡ x
item_still (int p r) = ap (λ (q : ℕ). int q r) here
  where
    here : p + 0 ≡ p
    here = omega arith
item_still (row t ws) = ap (row t) (row_still t ws)

items_still : (xs : List Item) → moved_items still xs ≡ xs
unfolding moved_items
items_still [] = refl
items_still (x ∷ xs) = ap₂ (λ (y : Item) (ys : List Item). y ∷ ys) (item_still x) (items_still xs)

pub unmoved : {xs ys : List Item} → Carries still ys xs → ys ≡ xs
unmoved {xs} h = h.is ∙ items_still xs

nodes_still : (w : Forest) → moved_by 0 w ≡ w
nodes_still nil = refl
nodes_still (tree r s l k more) =
    ap₂ (λ (x : ℕ) (v : Forest). tree r x l v (moved_by 0 more)) here (nodes_still k) ∙ ap (tree r s l k) (nodes_still more)
  where
    here : s + 0 ≡ s
    here = omega arith

pub grove_still : (a e : ℕ) (w : Forest) → Limits a e w → Grove a e 0 w w
grove_still a e w h = subst (λ (v : Forest). Grove a e 0 v w) (nodes_still w) (grove a e 0 w h)

pub standing_bytes : (s t : List ℕ) → Carried s (s ++ t) 0 (length s) still
standing_bytes s t = record {
  places = λ o x y. ap (place_at (s ++ t)) (here o) ∙ place_before s t o y ∙ same (place_at s o);
  texts = λ o n x y.
      let d : o ≤ length s = omega (arith, y) in
      ap (λ (i : ℕ). take n (drop i (s ++ t))) (here o) ∙ ap (take n) (drop-append-le o s t d)
      ∙ take-append-le n (drop o s) t (omega (arith, y, length-drop o s));
  some = λ o x. unless_still o ∙ sym (here o);
}
  where
    here : (o : ℕ) → o + 0 ≡ o
    here o = omega arith

    none : (o : ℕ) → o ≡ o - 0
    none o = omega arith

    same : (p : SourceLocation) → p ≡ moved_place still p
    same p =
        ap₂ (λ (i j : ℕ). record { offset = i; line = j; column = p.column }) (sym (here p.offset)) (sym (here p.line))
        ∙ ap (λ (i : ℕ). at (p.offset + 0) (p.line + 0) i) (none p.column)

-- ---- what was added: the bytes b, behind p and behind q and a newline
-- how a text moves from behind p to behind q and a newline
pub record Moves (p q : List ℕ) (m : Move) : Type 0 where
  pub bytes : length p + m.bytes ≡ length q + 1
  pub lines : breaks p + m.lines ≡ breaks q + 1
  pub loses : (l : ℕ) → m.loses l ≡ on_line (breaks p) (end_of p).column l

pub added_bytes : (p q b : List ℕ) (m : Move) → 0 < length p → Moves p q m → Carried (p ++ b) (q ++ 10 ∷ b) (length p) (length (p ++ b)) m
added_bytes p q b m z h = record {
  places = λ o x y.
      let i : o ≡ length p + (o - length p) = omega (arith, x) in
      let w : SourceLocation = place_at (p ++ b) o in
      ap (λ (j : ℕ). place_at (q ++ 10 ∷ b) (j + m.bytes)) i ∙ place_behind p q b m.bytes m.lines (o - length p) h.bytes h.lines
      ∙ ap (λ (j : ℕ). drawn_back m.bytes m.lines (breaks p) (end_of p).column (place_at (p ++ b) j)) (sym i)
      ∙ ap (λ (j : ℕ). at (w.offset + m.bytes) (w.line + m.lines) (w.column - j)) (sym (h.loses w.line));
  texts = λ o n x y. ap (take n) (dropped o x);
  some = λ o x. unless_some m.bytes o (omega (arith, x, z));
}
  where
    dropped : (o : ℕ) → length p ≤ o → drop (o + m.bytes) (q ++ 10 ∷ b) ≡ drop o (p ++ b)
    dropped o x =
        let i : o + m.bytes ≡ length q + 1 + (o - length p) = omega (arith, h.bytes) in
        let j : o ≡ length p + (o - length p) = omega arith in
        ap (λ (k : ℕ). drop k (q ++ 10 ∷ b)) i ∙ sym (drop-drop (o - length p) (length q + 1) (q ++ 10 ∷ b))
        ∙ ap (drop (o - length p)) (drop-append-add q (10 ∷ b) 1)
        ∙ sym (ap (λ (k : ℕ). drop k (p ++ b)) j ∙ sym (drop-drop (o - length p) (length p) (p ++ b)) ∙ ap (drop (o - length p)) (drop-append_seam p b))
