-- A row at the door: what `put` asks and leaves, and a walk that is put back to where it was before its row.
use Rattle.std.specs.Prelude.{ℕ, ◌+◌, ◌^◌, ◌≤◌, ◌<◌, ◌≡◌, Bool}
use native.Mathlib.Omega.{arith}
use Rattle.std.proofs.Math.Path.{refl, ap, sym}
use Rattle.std.proofs.Common.{subst, ◌∙◌}
use mathlib.Core.List.{List, [], ◌∷◌}
use Rattle.std.proofs.Math.Bool.{true, false}
use Rattle.std.proofs.Math.ListN.{length}
use Rattle.std.proofs.Math.Dec.{eqb}
use borrow.Author.Tests.{eqb-true, eqb-false}
use Rattle.meaning.specs.declared.SourceLocation.{SourceLocation}
use Rattle.meaning.specs.Choice.{pick}
use Rattle.meaning.specs.Places.{place_at}
use Rattle.meaning.specs.Tables.{Table, number, size, row, rows_of, count, puts, Lent, lent}
use Rattle.walk.specs.declared.Door.{Door}
use Rattle.walk.specs.declared.Door.TheVariants.{Count, Write}
use Rattle.walk.specs.declared.Walk.{Walk}
use Rattle.walk.specs.State.{slot, table_at, counted, bads, placed, left, lend, Wrote, Near, Stands, At, Goes, Came, Put, Knows}
use Rattle.walk.specs.Steps.{left_none, at_on, same_counts}

-- ---- tables by their numbers
lend_is : (u t : Table) (ws : List ℕ) (l : Lent) → lent t (lend u ws l) ≡ pick (eqb (number t) (number u)) ws (lent t l)
lend_is Table.declarations Table.declarations ws l = refl
lend_is Table.declarations Table.fields ws l = refl
lend_is Table.declarations Table.tags ws l = refl
lend_is Table.declarations Table.constraints ws l = refl
lend_is Table.declarations Table.comments ws l = refl
lend_is Table.fields Table.declarations ws l = refl
lend_is Table.fields Table.fields ws l = refl
lend_is Table.fields Table.tags ws l = refl
lend_is Table.fields Table.constraints ws l = refl
lend_is Table.fields Table.comments ws l = refl
lend_is Table.tags Table.declarations ws l = refl
lend_is Table.tags Table.fields ws l = refl
lend_is Table.tags Table.tags ws l = refl
lend_is Table.tags Table.constraints ws l = refl
lend_is Table.tags Table.comments ws l = refl
lend_is Table.constraints Table.declarations ws l = refl
lend_is Table.constraints Table.fields ws l = refl
lend_is Table.constraints Table.tags ws l = refl
lend_is Table.constraints Table.constraints ws l = refl
lend_is Table.constraints Table.comments ws l = refl
lend_is Table.comments Table.declarations ws l = refl
lend_is Table.comments Table.fields ws l = refl
lend_is Table.comments Table.tags ws l = refl
lend_is Table.comments Table.constraints ws l = refl
lend_is Table.comments Table.comments ws l = refl

lent_own : (u : Table) (ws : List ℕ) (l : Lent) → lent u (lend u ws l) ≡ ws
lent_own Table.declarations ws l = refl
lent_own Table.fields ws l = refl
lent_own Table.tags ws l = refl
lent_own Table.constraints ws l = refl
lent_own Table.comments ws l = refl

slot_is : (t : Table) → number t ≡ slot t + 1
slot_is Table.declarations = refl
slot_is Table.fields = refl
slot_is Table.tags = refl
slot_is Table.constraints = refl
slot_is Table.comments = refl

same_slot : (t u : Table) → number t ≡ number u → slot t ≡ slot u
same_slot t u e = let a = slot_is t in let b = slot_is u in omega (arith, a, b)

same_number : (t u : Table) → slot t ≡ slot u → number t ≡ number u
same_number t u e = omega (arith, slot_is t, slot_is u)

table_is : (t : Table) → table_at (slot t) ≡ t
table_is Table.declarations = refl
table_is Table.fields = refl
table_is Table.tags = refl
table_is Table.constraints = refl
table_is Table.comments = refl

same_table : (t u : Table) → number t ≡ number u → u ≡ t
same_table t u e = sym (table_is u) ∙ ap table_at (sym (same_slot t u e)) ∙ table_is t

-- what `put` asks: there is a byte up to k for one row more of the table
pub put_asks : (u : Table) {src : List ℕ} {k : ℕ} {n : Walk} → At src k n → counted u n < k → length src < 2 ^ 64 → Knows n (slot u)
put_asks u {src} {k} {n} h e s = record { sized = h.sized; room = omega (arith, e, h.within, s) }

module _ (u : Table) {ws : List ℕ} {n r : Walk} {t t' : List ℕ} (p : Put (slot u) ws n r t t') where
  -- ws' are the words of the row, which only a walk that writes makes
  module _ (ws' : List ℕ) (e : n.door ≡ Write → ws ≡ ws') (s : length ws ≡ size u) where
    put_words : t' ≡ left n.door (size u) (counted u n) (ws' ∷ []) t
    unfolding left
    put_words = p.words ∙ ap (λ (k : ℕ). left n.door k (counted u n) (ws ∷ []) t) s ∙ go n.door refl
      where
        go : (d : Door) → n.door ≡ d → left d (size u) (counted u n) (ws ∷ []) t ≡ left d (size u) (counted u n) (ws' ∷ []) t
        go Count q = refl
        go Write q = ap (λ (x : List ℕ). puts (size u) (counted u n) (x ∷ []) t) (e q)

    pub put_wrote : length n.counts ≡ 5 → Wrote (row u ws' ∷ []) n r (lend u t) (lend u t')
    unfolding rows_of bads
    put_wrote z =
        record {
          door = p.door;
          sized = p.sized ∙ sym z;
          counts = λ v. tally v (eqb (number v) (number u)) refl;
          bad = p.bad;
          words = λ l v. lend_is u v t' l ∙ there l v (eqb (number v) (number u)) refl;
        }
      where
        tally : (v : Table) (b : Bool) → eqb (number v) (number u) ≡ b → counted v r ≡ counted v n + length (pick b (ws' ∷ []) [])
        tally v true q = let i : slot v ≡ slot u = same_slot v u (eqb-true _ _ q) in rw i p.one
        tally v false q = p.same (slot v) (λ i. eqb-false _ _ q (same_number v u i)) ∙ omega arith

        there : (l : Lent) (v : Table) (b : Bool) → eqb (number v) (number u) ≡ b
            → pick b t' (lent v l) ≡ left n.door (size v) (counted v n) (pick b (ws' ∷ []) []) (lent v (lend u t l))
        there l v true q =
            subst (λ (x : Table). t' ≡ left n.door (size x) (counted x n) (ws' ∷ []) (lent x (lend u t l))) (same_table v u (eqb-true _ _ q))
            (put_words ∙ ap (left n.door (size u) (counted u n) (ws' ∷ [])) (sym (lent_own u t l)))
        there l v false q = left_none n.door (size v) (counted v n) (lent v l)
            ∙ ap (left n.door (size v) (counted v n) []) (sym (lend_is u v t l ∙ rw q refl))

    -- and the walk that has come to k with a byte for one row more of the table has gone over it
    pub put_goes : {src : List ℕ} {k : ℕ} → At src k n → counted u n < k → Goes (row u ws' ∷ []) src k n r (lend u t) (lend u t')
    put_goes {src} {k} h e =
        record {
          wrote = put_wrote h.sized;
          at =
              record {
                within = h.within;
                sized = p.sized;
                few = λ v. go v (eqb (number v) (number u)) refl;
                near = subst (λ (d : Door). Near d src k r.here) (sym p.door) (subst (λ (q : SourceLocation). Near n.door src k q) (sym p.here)
                    h.near);
              };
        }
      where
        go : (v : Table) (b : Bool) → eqb (number v) (number u) ≡ b → counted v r ≤ k
        go v true q = let i : slot v ≡ slot u = same_slot v u (eqb-true _ _ q) in rw i (omega (arith, p.one, e))
        go v false q = omega (arith, p.same (slot v) (λ i. eqb-false _ _ q (same_number v u i)), h.few v)

-- ---- leaf rows: the walk comes to where the row starts, then to where it ends
pub stood : {src : List ℕ} {k : ℕ} {n r : Walk} → Came src k n r → n.door ≡ Write → r.here ≡ place_at src k
unfolding Stands
stood {src} {k} {n} {r} c e = subst (λ (d : Door). Stands d src k r.here) (c.goes.wrote.door ∙ e) c.stands

-- a walk that had come to j has bytes to spare at k
pub spare : {src : List ℕ} {j k : ℕ} {n r : Walk} {a b : Lent → Lent} → At src j n → Wrote [] n r a b → j < k → (t : Table) → counted t r < k
spare h w e t = omega (arith, h.few t, same_counts w t, e)

-- ---- a row of which only a walk that writes knows the words
abbrev row_if : Bool → List ℕ → List (List ℕ)
row_if b x = pick b (x ∷ []) []

as_many : (ws ws' : List ℕ) (b : Bool) → length (row_if b ws) ≡ length (row_if b ws')
as_many ws ws' true = refl
as_many ws ws' false = refl

module _ {ws ws' : List ℕ} where
  as_left : (d : Door) (size k : ℕ) (b : Bool) (t : List ℕ) → (d ≡ Write → ws ≡ ws') → left d size k (row_if b ws) t ≡ left d size k (row_if b ws') t
  unfolding left
  as_left Count size k b t e = refl
  as_left Write size k b t e = ap (λ (x : List ℕ). left Write size k (row_if b x) t) (e refl)

  pub row_as : (u : Table) {n r : Walk} {a b : Lent → Lent} → (n.door ≡ Write → ws ≡ ws') → Wrote (row u ws ∷ []) n r a b → Wrote (row u ws' ∷ []) n r a b
  unfolding rows_of bads
  row_as u {n} e h =
      record {
        door = h.door;
        sized = h.sized;
        counts = λ t. h.counts t ∙ ap (λ (k : ℕ). counted t n + k) (as_many ws ws' (eqb (number t) (number u)));
        bad = h.bad;
        words = λ l t. h.words l t ∙ as_left n.door (size t) (counted t n) (eqb (number t) (number u)) _ e;
      }

-- a row is at most one of any table
one_more : (u : Table) (ws : List ℕ) (t : Table) → count t (row u ws ∷ []) ≤ 1
unfolding rows_of
one_more u ws t = go (eqb (number t) (number u))
  where
    go : (b : Bool) → length (row_if b ws) ≤ 1
    go true = omega arith
    go false = omega arith

-- ---- the walk, put back to where it was at j, has come to k behind that
module _ {src : List ℕ} {j : ℕ} {u : Table} {ws : List ℕ} {m r q : Walk} {a b : Lent → Lent} (h : At src j m) (g : Wrote (row u ws ∷ []) m r a b)
    (eq : q ≡ placed m.here r) where
  pub back_wrote : Wrote (row u ws ∷ []) m q a b
  back_wrote =
      subst (λ (y : Walk). Wrote (row u ws ∷ []) m y a b) (sym eq)
      (record { door = g.door; sized = g.sized; counts = g.counts; bad = g.bad; words = g.words })

  pub back_at : {k : ℕ} → j < k → k ≤ length src → At src k q
  back_at {k} l w =
      subst (λ (y : Walk). At src k y) (sym eq)
      (record {
        within = w;
        sized = g.sized ∙ h.sized;
        few = λ t. omega (arith, g.counts t, one_more u ws t, h.few t, l);
        near = subst (λ (d : Door). Near d src k m.here) (sym g.door) (at_on (omega (arith, l)) w h).near;
      })
