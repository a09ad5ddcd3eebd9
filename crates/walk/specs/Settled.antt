-- What the records of the walk settle, from the same state over the same items: whether it writes, its counts, its first bad
-- integer, and every word that is lent. They leave the place that it knows: `Came` settles it for a walk that writes, before
-- each row; a walk that counts writes none, and nobody asks it for its place.
use Rattle.std.specs.Prelude.{ℕ, zero, suc, ◌<◌, ◌≡◌, refl, List, Option, Bool, true, false, length, get_or, drop, eqb}
use Rattle.std.proofs.Common.{arith, ap, ap₂, sym, ◌∙◌, eqb-true, ext_get_or}
use Rattle.std.proofs.lemmas.Bool.{eqb-false}
use Rattle.meaning.specs.declared.Match.{Match}
use Rattle.meaning.specs.declared.SourceLocation.{SourceLocation}
use Rattle.meaning.specs.Peg.{run, bytewise}
use Rattle.meaning.specs.Tables.{Table, Item, Bad, Lent, lent}
use Rattle.walk.specs.declared.Door.{Door}
use Rattle.walk.specs.declared.Door.TheVariants.{Write}
use Rattle.walk.specs.declared.Walk.{Walk}
use Rattle.walk.specs.declared.Walked.{Walked}
use Rattle.walk.specs.declared.Turn.{Turn}
use Rattle.walk.specs.declared.Unconverted.{Unconverted}
use Rattle.walk.specs.State.{slot, counted, bad_of, Wrote, Came, Put}
use Rattle.walk.specs.Steps.{tally, tally_is}
use Rattle.walk.specs.Doors.{stood}
use Rattle.walk.specs.Totals.{Tabled}
use Rattle.walk.specs.Turns.{comma}
use Rattle.walk.specs.Nexts.{Turned, next_from}
use Rattle.walk.specs.Lists.{Form, GoesAll, GoesList}

-- two walks that differ in nothing but the place that they know, and that leave the same words
pub record Alike (r s : Walk) (b c : Lent → Lent) : Type 0 where
  pub door : r.door ≡ s.door
  pub counts : r.counts ≡ s.counts
  pub bad : bad_of r ≡ bad_of s
  pub words : (l : Lent) (t : Table) → lent t (b l) ≡ lent t (c l)

-- ---- the words of a state settle it
abbrev bad_back : Bad → Unconverted
bad_back b = record { place = b.place; reason = b.reason }

same_walk : {r s : Walk} → r.door ≡ s.door → r.counts ≡ s.counts → bad_of r ≡ bad_of s → r.here ≡ s.here → r ≡ s
same_walk {r} {s} d c b h =
    ap₂ (λ (x : Door) (ks : List ℕ). record { door = x; counts = ks; bad = r.bad; here = r.here }) d c
    ∙ ap₂ (λ (x : Bad) (p : SourceLocation). record { door = s.door; counts = s.counts; bad = bad_back x; here = p }) b h

-- five counts are those of the tables
five_counts : (a b : List ℕ) → length a ≡ 5 → length b ≡ 5 → ((t : Table) → get_or a (slot t) 0 ≡ get_or b (slot t) 0) → a ≡ b
five_counts a b ea eb h = ext_get_or 0 a b (ea ∙ sym eb) (λ i k. go i (omega (arith, ea, k)))
  where
    go : (i : ℕ) → i < 5 → get_or a i 0 ≡ get_or b i 0
    go zero k = h Table.declarations
    go (suc zero) k = h Table.fields
    go (suc (suc zero)) k = h Table.tags
    go (suc (suc (suc zero))) k = h Table.constraints
    go (suc (suc (suc (suc zero)))) k = h Table.comments
    go (suc (suc (suc (suc (suc i))))) k = absurd (omega arith)

pub wrote_settled : {xs : List Item} {n r s : Walk} {a b c : Lent → Lent} → length n.counts ≡ 5 → Wrote xs n r a b → Wrote xs n s a c → Alike r s b c
wrote_settled {r = r} {s = s} e x y =
    record {
      door = x.door ∙ sym y.door;
      counts = five_counts r.counts s.counts (x.sized ∙ e) (y.sized ∙ e) (λ t. x.counts t ∙ sym (y.counts t));
      bad = x.bad ∙ sym y.bad;
      words = λ l t. x.words l t ∙ sym (y.words l t);
    }

-- a walk that writes has come to one place, and all of it is settled
pub came_settled : {src : List ℕ} {k : ℕ} {n r s : Walk} → length n.counts ≡ 5 → n.door ≡ Write → Came src k n r → Came src k n s → r ≡ s
came_settled e w x y =
    let z = wrote_settled e x.goes.wrote y.goes.wrote in
    same_walk z.door z.counts z.bad (stood x w ∙ sym (stood y w))

-- a row at the door settles the whole state, and the table
pub put_settled : {k : ℕ} {ws : List ℕ} {n r s : Walk} {t u v : List ℕ} → Put k ws n r t u → Put k ws n s t v → (r ≡ s) × (u ≡ v)
put_settled {k} {ws} {n} {r} {s} x y = (
  same_walk (x.door ∙ sym y.door) (ext_get_or 0 r.counts s.counts (x.sized ∙ sym y.sized) (λ i e. go i (eqb i k) refl))
      (x.bad ∙ sym y.bad) (x.here ∙ sym y.here),
  x.words ∙ sym y.words,
)
  where
    go : (i : ℕ) (b : Bool) → eqb i k ≡ b → get_or r.counts i 0 ≡ get_or s.counts i 0
    go i true e = rw (eqb-true i k e) (x.one ∙ sym y.one)
    go i false e = x.same i (eqb-false i k e) ∙ sym (y.same i (eqb-false i k e))

-- ---- from nothing; of the counts this says those of the tables, and of the state no more
pub record SameTables (r s : Walk) (b c : Lent → Lent) : Type 0 where
  pub counts : (t : Table) → counted t r ≡ counted t s
  pub bad : bad_of r ≡ bad_of s
  pub words : (l : Lent) (t : Table) → lent t (b l) ≡ lent t (c l)

pub tabled_settled : {xs : List Item} {d : Door} {r s : Walk} {a b c : Lent → Lent} → Tabled xs d r a b → Tabled xs d s a c → SameTables r s b c
tabled_settled x y =
    record { counts = λ t. x.counts t ∙ sym (y.counts t); bad = x.bad ∙ sym y.bad; words = λ l t. x.words l t ∙ sym (y.words l t) }

-- ---- over a list
pub turned_settled : {src : List ℕ} {i : ℕ} {m : Match} {t u : Turn} → Turned src i m t → Turned src i m u → t ≡ u
turned_settled {src} {t = t} {u = u} x y =
    let e : t.end ≡ u.end = x.end ∙ sym y.end in
    ap₂ (λ (j : ℕ) (k : Option ℕ). record { end = j; next = k }) e
    (x.next ∙ ap (λ (j : ℕ). next_from j (run (bytewise comma) (drop j src))) e ∙ sym y.next)

module _ {A : Type 0} {z : Form A} {src : List ℕ} {at : ℕ} {n : Walk} {a b c : Lent → Lent} (e : length n.counts ≡ 5) where
  pub goes_all_settled : {r s : Walk} → GoesAll z src at n r a b → GoesAll z src at n s a c → Alike r s b c
  goes_all_settled x y = wrote_settled e (x.wrote (tally n) (tally_is n)) (y.wrote (tally n) (tally_is n))

  pub goes_list_settled : {r s : Walked} → GoesList z src at n r a b → GoesList z src at n s a c → Alike r.walk s.walk b c × (r.end ≡ s.end)
  goes_list_settled x y = (goes_all_settled x.all y.all, x.end ∙ sym y.end)
