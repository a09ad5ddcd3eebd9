-- One declaration: what its rows ask of the walk that has come there, and what they leave.
use Rattle.std.specs.Prelude.{ℕ, ◌+◌, ◌-◌, ◌≤◌, ◌<◌, ◌≡◌, refl, List, [], ◌∷◌, true, drop, Some}
use Rattle.meaning.specs.Peg.{run, bytewise, hit, taken}
use Rattle.meaning.specs.Forest.{nodes}
use Rattle.meaning.specs.Pdl.{declaration, rules}
use Rattle.meaning.specs.Places.{place_at}
use Rattle.meaning.specs.Tables.{Table, Item, row, first_of, Lent}
use Rattle.meaning.specs.Walk.{parse_toplevel}
use Rattle.grammar.specs.Matching.{eats}
use Rattle.grammar.specs.Stars.{hit_pos}
use Rattle.spans.specs.declared.Matched.{Matched}
use Rattle.spans.specs.declared.Header.{Header}
use Rattle.walk.specs.declared.Door.TheVariants.{Write}
use Rattle.walk.specs.declared.Walk.{Walk}
use Rattle.walk.specs.declared.Walked.{Walked}
use Rattle.walk.specs.State.{counted, At, Goes}
use Rattle.walk.specs.Terms.{words_of_declaration}
use Rattle.declaration_rows.specs.declared.Parts.{Parts}
use Rattle.declaration_rows.specs.Ways.{GoesTo}
use Rattle.declaration_rows.specs.declared.kinds.Kind.{Kind}
use Rattle.declaration_rows.specs.Kinds.{number, shape_of, HeadOf}
use Rattle.declaration_rows.specs.Keywords.{Known}
use Rattle.declaration_rows.specs.Members.{members_of, GoesMembers}
use Rattle.declaration_rows.specs.Heads.{GoesHead}

-- a declaration takes a byte
declaration_some : eats (bytewise declaration) ≡ true
unfolding rules
declaration_some = refl

pub takes_byte : (t : List ℕ) → hit (run (bytewise declaration) t) ≡ true → 0 < taken (run (bytewise declaration) t)
takes_byte t h = hit_pos (bytewise declaration) t declaration_some h

-- ---- the walk has come to a declaration
pub record Ready (src : List ℕ) (at : ℕ) (n : Walk) : Type 0 where
  pub came : At src at n
  pub hits : hit (run (bytewise declaration) (drop at src)) ≡ true

-- of a kind that has a row
pub record ReadyKind (src : List ℕ) (at : ℕ) (kind : Kind) (n : Walk) : Type 0 where
  pub ready : Ready src at n
  pub known : Known (drop at src) (Some kind)

-- whose head is h
pub record Opened (src : List ℕ) (at : ℕ) (kind : Kind) (h : Matched Header) (n : Walk) : Type 0 where
  pub ready : ReadyKind src at kind n
  pub head : HeadOf (shape_of kind) (drop at src) h

-- what the walk meets in it, and where it ends
abbrev pub one_items : List ℕ → ℕ → List Item → List Item
one_items src at xs = parse_toplevel src xs (nodes (bytewise declaration) at (drop at src))

abbrev pub one_end : List ℕ → ℕ → ℕ
one_end src at = at + taken (run (bytewise declaration) (drop at src))

abbrev pub GoesOne : List ℕ → ℕ → Walk → Walked → (Lent → Lent) → (Lent → Lent) → Type 0
GoesOne src at n r a b = GoesTo (one_items src at) src (one_end src at) n r a b

-- ---- its parts: the head, and then the members
pub record GoesParts (src : List ℕ) (at : ℕ) (kind : Kind) (h : Matched Header) (n : Walk) (x : Parts) (a b : Lent → Lent) : Type 0 where
  pub between : Lent → Lent
  pub head : GoesHead src at h n x.head a between
  pub members : GoesMembers src (at + taken h.at) kind x.head.walk x.members between b

-- ---- its row, from the walks before it, behind its head and behind its members
unfoldable pub declaration_row : List ℕ → Kind → Walk → Parts → List ℕ
declaration_row src k n x =
    let count = members_of k x.members.walk - members_of k x.head.walk in
    let before = counted Table.constraints n in
    let listed = counted Table.constraints x.head.walk - before in
    words_of_declaration (number k) x.head.start (place_at src x.members.end) x.head.id x.head.other x.head.width
    (first_of (members_of k n) count) count (first_of before listed) listed

-- what it asks: the walk has come to its end with a byte for it, and no count shrinks
pub record Rowed (src : List ℕ) (k : Kind) (n : Walk) (x : Parts) : Type 0 where
  pub came : At src x.members.end x.members.walk
  pub spare : counted Table.declarations x.members.walk < x.members.end
  pub grows : members_of k x.head.walk ≤ members_of k x.members.walk
  pub lists : counted Table.constraints n ≤ counted Table.constraints x.head.walk

-- it comes to the door: these are its words, if so says a walk that writes
pub record GoesRow (src : List ℕ) (k : Kind) (n : Walk) (x : Parts) (r : Walk) (a b : Lent → Lent) : Type 0 where
  pub goes : (ws : List ℕ) → (x.members.walk.door ≡ Write → declaration_row src k n x ≡ ws)
      → Goes (row Table.declarations ws ∷ []) src x.members.end x.members.walk r a b
