-- The parts that the walk takes of nodes which stand one behind the other: each lies where it was looked for, and what follows it
-- stands behind it.
use Rattle.std.specs.Prelude.{◌≡◌, refl, Bool, true, false, List, ℕ, ◌+◌, ◌-◌, ◌≤◌, ◌<◌, eqb}
use Rattle.std.proofs.Common.{sym, subst, arith, eqb-true}
use Rattle.meaning.specs.Choice.{pick}
use Rattle.meaning.specs.Rules.{Rule, order, is}
use Rattle.meaning.specs.Forest.{Forest, tree}
use Rattle.meaning.specs.Walk.{Part, absent, node, part, or_part, following}
use Rattle.text.specs.ChoiceLaws.{never}
use Rattle.sound_rows.specs.Placement.{Known, bytes_of, fitting, Fit, Ranged, bare, grown, higher}
use Rattle.standing.specs.Kinds.{rules, starting}

-- nodes without comments
abbrev pub Nodes : Known → ℕ → ℕ → Forest → Type 0
Nodes P lo hi w = Ranged rules P lo hi w

-- ---- a name, offset and length: absent, or of a node, or of a quoted text without its first and its last byte
pub data Made (P : Known) : ℕ → ℕ → Type 0 where
  nothing : Made P 0 0
  named : {o s l : ℕ} → P o s l → Made P s l
  quoted : {s l : ℕ} → P (order Rule.string) s l → Made P (s + 1) (l - 2)

-- ---- a node of the rule r
pub record Node (P : Known) (r : Rule) (p : Part) : Type 0 where
  pub known : P (order r) p.start p.len
  pub bytes : bytes_of (order r) ≤ p.len
  pub fits : fitting (order r) (rules p.kids) ≡ true
  pub kids : Nodes P p.start (p.start + p.len) p.kids

pub node_of : (r q : Rule) {P : Known} {s l : ℕ} {kids more : Forest} → is r q ≡ true → Fit rules P q s l kids → Nodes P s (s + l) kids
    → Node P r (node s l kids more)
node_of r q {P} {s} {l} {kids} e f i =
    let o : order q ≡ order r = sym (eqb-true (order r) (order q) e) in
    record {
      known = subst (λ (k : ℕ). P k s l) o f.known;
      bytes = subst (λ (k : ℕ). bytes_of k ≤ l) o f.bytes;
      fits = subst (λ (k : ℕ). fitting k (rules kids) ≡ true) o f.fits;
      kids = i;
    }

some_bytes : (b : Bool) (l : ℕ) → pick b 2 1 ≤ l → 0 < l
some_bytes true l h = omega arith
some_bytes false l h = omega arith

pub some : {P : Known} {r : Rule} {p : Part} → Node P r p → 0 < p.len
some {r = r} {p} h = some_bytes (eqb (order Rule.string) (order r)) p.len h.bytes

pub some_fit : {of : Forest → List Rule} {P : Known} {r : Rule} {s l : ℕ} {kids : Forest} → Fit of P r s l kids → 0 < l
some_fit {r = r} {l = l} f = some_bytes (eqb (order Rule.string) (order r)) l f.bytes

-- ---- a part from lo to hi, if it is there: it and its children lie before the edge, and the nodes that are left behind it
pub record Slot (P : Known) (lo hi : ℕ) (p : Part) : Type 0 where
  pub made : Made P p.start p.len
  pub edge : ℕ
  pub low : lo ≤ edge
  pub there : p.found ≡ true → (lo ≤ p.start) × (p.start + p.len ≤ edge)
  pub kids : Nodes P lo edge p.kids
  pub next : Nodes P edge hi p.next

module _ {P : Known} {lo hi : ℕ} where
  slot_absent : {w : Forest} → Nodes P lo hi w → Slot P lo hi (absent w)
  slot_absent h =
      let z : lo ≤ lo = omega arith in
      record { made = nothing; edge = lo; low = z; there = λ e. never e; kids = bare z; next = h }

  slot_node : {r : Rule} {s l : ℕ} {kids more : Forest} → Fit rules P r s l kids → lo ≤ s → Nodes P s (s + l) kids → Nodes P (s + l) hi more
      → Slot P lo hi (node s l kids more)
  slot_node {r} {s} {l} f h i j =
      let z : s + l ≤ s + l = omega arith in
      record { made = named f.known; edge = s + l; low = omega arith; there = λ e. (h, z); kids = higher h i; next = j }

  pub slot : (r : Rule) {w : Forest} → Nodes P lo hi w → Slot P lo hi (part r w)
  slot r (bare h) = slot_absent (bare h)
  slot r (grown {r = q} {s} {l} {kids} {more} f h i j) = go (is r q)
    where
      go : (b : Bool) → Slot P lo hi (pick b (node s l kids more) (absent (tree q s l kids more)))
      go true = slot_node f h i j
      go false = slot_absent (grown f h i j)

  -- a part that is there is a node of its rule
  pub found_node : (r : Rule) {w : Forest} → Nodes P lo hi w → (part r w).found ≡ true → Node P r (part r w)
  found_node r (bare h) e = never e
  found_node r (grown {r = q} {s} {l} {kids} {more} f h i j) e = go (is r q) refl e
    where
      go : (b : Bool) → is r q ≡ b → (pick b (node s l kids more) (absent (tree q s l kids more))).found ≡ true
          → Node P r (pick b (node s l kids more) (absent (tree q s l kids more)))
      go true d e = node_of r q d f i
      go false d e = never e

  -- what follows a first part that is there starts later
  pub behind_first : (r : Rule) {w : Forest} → Nodes P lo hi w → starting r (rules w) ≡ true → Nodes P (lo + 1) hi (part r w).next
  behind_first r (bare h) e = never e
  behind_first r (grown {r = q} {s} {l} {kids} {more} f h i j) e = go (is r q) e
    where
      go : (b : Bool) → b ≡ true → Nodes P (lo + 1) hi (pick b (node s l kids more) (absent (tree q s l kids more))).next
      go true d = let z : lo + 1 ≤ s + l = omega (arith, some_fit f) in higher z j
      go false d = never d

  pub nodes_following : {w : Forest} → Nodes P lo hi w → Nodes P lo hi (following w)
  nodes_following (bare h) = bare h
  nodes_following (grown {s = s} {l} f h i j) = let z : lo ≤ s + l = omega arith in higher z j

-- the next part behind one, and a part of another rule in its stead
pub slot_then : (r : Rule) {P : Known} {lo hi : ℕ} {p : Part} (t : Slot P lo hi p) → Slot P t.edge hi (part r p.next)
slot_then r t = slot r t.next

pub slot_or : (r : Rule) {P : Known} {lo hi : ℕ} {p : Part} → Slot P lo hi p → Slot P lo hi (or_part p r)
slot_or r {P} {lo} {hi} {p} t = go p.found
  where
    go : (b : Bool) → Slot P lo hi (pick b p (part r p.next))
    go true = t
    go false =
        let u = slot_then r t in
        let a : lo ≤ t.edge = t.low in
        let b : t.edge ≤ u.edge = u.low in
        let c : lo ≤ u.edge = omega arith in
        record {
          made = u.made;
          edge = u.edge;
          low = c;
          there = λ e. (let d : t.edge ≤ (part r p.next).start = (u.there e).0 in omega arith, (u.there e).1);
          kids = higher a u.kids;
          next = u.next;
        }
