-- The parts that the walk takes of moved nodes, and what it says of each: names, integers and places, of a source in which the
-- nodes' text stands later.
use Rattle.std.specs.Prelude.{ℕ, ◌+◌, ◌-◌, ◌≤◌, ◌≡◌, Bool, take, drop}
use Rattle.std.proofs.Common.{arith, sym, ◌∙◌}
use Rattle.std.proofs.Math.Path.{refl, ap}
use Rattle.std.proofs.Math.Bool.{true, false}
use mathlib.Core.List.{List, [], ◌∷◌}
use Rattle.meaning.specs.Choice.{pick}
use Rattle.meaning.specs.Rules.{Rule, is}
use Rattle.meaning.specs.Forest.{Forest, nil, tree}
use Rattle.meaning.specs.Places.{place_at}
use Rattle.meaning.specs.Convert.{convert, reason_of, value_of}
use Rattle.meaning.specs.Tables.{Item, int}
use Rattle.meaning.specs.Walk.{Part, absent, node, part, or_part, following, each, place, name, unquoted, value, optional, number}
use Rattle.grammar.specs.Limits.{Limits}
use Rattle.meaning.specs.Moving.{Move, unless_none}
use Rattle.standing.specs.Joinings.{moved_by}
use Rattle.standing.specs.MovedItems.{moved_items, Carries, carries_none, carries-++}
use Rattle.standing.specs.MovedRows.{moved_place, Place, place_of, Name, named, name_of, Number, number_of}

-- the bytes from a to e of `src` stand in `to`, moved
pub record Carried (src to : List ℕ) (a e : ℕ) (m : Move) : Type 0 where
  pub places : (o : ℕ) → a ≤ o → o ≤ e → place_at to (o + m.bytes) ≡ moved_place m (place_at src o)
  pub texts : (o n : ℕ) → a ≤ o → o + n ≤ e → take n (drop (o + m.bytes) to) ≡ take n (drop o src)
  -- none of them is at 0, or they stand where they stood
  pub some : (o : ℕ) → a ≤ o → unless_none m.bytes o ≡ o + m.bytes

-- ---- nodes of `src` from a to e, and the same nodes k bytes later
pub data Grove (a e k : ℕ) : Forest → Forest → Type 0 where
  bare : Grove a e k nil nil
  grown : {r : Rule} {s l : ℕ} {kids kids' more more' : Forest} → a ≤ s → s + l ≤ e → Grove a e k kids' kids → Grove a e k more' more
      → Grove a e k (tree r (s + k) l kids' more') (tree r s l kids more)

pub grove : (a e k : ℕ) (w : Forest) → Limits a e w → Grove a e k (moved_by k w) w
grove a e k nil h = bare
grove a e k (tree r s l kids more) h = grown h.0 h.1.0 (grove a e k kids h.1.1.0) (grove a e k more h.1.1.1)

-- one of them as a part; a part of them that may be absent
pub data Peer (a e k : ℕ) : Part → Part → Type 0 where
  peer : {s l : ℕ} {kids kids' more more' : Forest} → a ≤ s → s + l ≤ e → Grove a e k kids' kids → Grove a e k more' more
      → Peer a e k (node (s + k) l kids' more') (node s l kids more)

pub data Twin (a e k : ℕ) : Part → Part → Type 0 where
  gone : {v w : Forest} → Grove a e k v w → Twin a e k (absent v) (absent w)
  here : {p q : Part} → Peer a e k p q → Twin a e k p q

module _ {a e k : ℕ} where
  pub twin_part : (r : Rule) {v w : Forest} → Grove a e k v w → Twin a e k (part r v) (part r w)
  twin_part r bare = gone bare
  twin_part r (grown {r = q} {s} {l} {kids} {kids'} {more} {more'} x y i j) = go (is r q)
    where
      go : (b : Bool) → Twin a e k (pick b (node (s + k) l kids' more') (absent (tree q (s + k) l kids' more')))
          (pick b (node s l kids more) (absent (tree q s l kids more)))
      go true = here (peer x y i j)
      go false = gone (grown x y i j)

  pub twin_kids : {p q : Part} → Twin a e k p q → Grove a e k p.kids q.kids
  twin_kids (gone g) = bare
  twin_kids (here (peer x y i j)) = i

  pub twin_next : {p q : Part} → Twin a e k p q → Grove a e k p.next q.next
  twin_next (gone g) = g
  twin_next (here (peer x y i j)) = j

  pub twin_found : {p q : Part} → Twin a e k p q → p.found ≡ q.found
  twin_found (gone g) = refl
  twin_found (here (peer x y i j)) = refl

  -- the next part behind one
  pub twin_then : (r : Rule) {p q : Part} → Twin a e k p q → Twin a e k (part r p.next) (part r q.next)
  twin_then r h = twin_part r (twin_next h)

  pub twin_or : (r : Rule) {p q : Part} → Twin a e k p q → Twin a e k (or_part p r) (or_part q r)
  twin_or r (gone g) = twin_part r g
  twin_or r (here (peer x y i j)) = here (peer x y i j)

  pub twin_following : {v w : Forest} → Grove a e k v w → Grove a e k (following v) (following w)
  twin_following bare = bare
  twin_following (grown x y i j) = j

module _ {src to : List ℕ} {a e : ℕ} {m : Move} (c : Carried src to a e m) where
  pub value_moved : {p q : Part} → Twin a e m.bytes p q → value to p ≡ value src q
  value_moved (gone g) = refl
  value_moved (here (peer {s} {l} x y i j)) = ap (λ (t : List ℕ). value_of (convert t)) (c.texts s l x y)

  pub number_moved : {p q : Part} → Twin a e m.bytes p q → Carries m (number to p) (number src q)
  unfolding moved_items
  number_moved (gone g) = record { is = refl }
  number_moved (here (peer {s} {l} x y i j)) = record { is = ap (λ (t : List ℕ). int (s + m.bytes) (reason_of (convert t)) ∷ []) (c.texts s l x y) }

  -- the words of a place, of a name and of an optional number
  pub place_moved : (s l : ℕ) → a ≤ s → s + l ≤ e → Place m (place to (s + m.bytes) l) (place src s l)
  place_moved s l x y =
      let i : s + m.bytes + l ≡ s + l + m.bytes = omega arith in
      place_of (c.places s x (omega arith)) (ap (place_at to) i ∙ c.places (s + l) (omega arith) y)

  pub name_moved : {p q : Part} → Twin a e m.bytes p q → Name m (name p) (name q)
  name_moved (gone g) = named 0 0
  name_moved (here (peer {s} {l} x y i j)) = name_of l (sym (c.some s x))

  -- a text without its quotes, or else a name
  pub other_moved : {p q p' q' : Part} → Twin a e m.bytes p q → Twin a e m.bytes p' q'
      → Name m (pick p.found (unquoted p) (name p')) (pick q.found (unquoted q) (name q'))
  other_moved (gone g) f = name_moved f
  other_moved (here (peer {s} {l} x y i j)) f =
      let z : s + m.bytes + 1 ≡ s + 1 + m.bytes = omega arith in
      name_of (l - 2) (z ∙ sym (c.some (s + 1) (omega arith)))

  pub optional_moved : {p q : Part} → Twin a e m.bytes p q → Number (optional to p) (optional src q)
  optional_moved t = number_of (ap (λ (b : Bool). pick b 1 0) (twin_found t)) (value_moved t)

  -- ---- the items of the nodes of a rule
  pub each_moved : (r : Rule) (f g : Part → List Item) → ((p q : Part) → Peer a e m.bytes p q → Carries m (f p) (g q))
      → {v w : Forest} → Grove a e m.bytes v w → Carries m (each r f v) (each r g w)
  unfolding each moved_items
  each_moved r f g h bare = record { is = refl }
  each_moved r f g h (grown {r = k} {s} {l} {kids} {kids'} {more} {more'} x y i j) = carries-++ (go (is r k)) (each_moved r f g h j)
    where
      go : (b : Bool) → Carries m (pick b (f (node (s + m.bytes) l kids' more')) []) (pick b (g (node s l kids more)) [])
      go true = h (node (s + m.bytes) l kids' more') (node s l kids more) (peer x y i j)
      go false = carries_none m
