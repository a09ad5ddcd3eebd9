-- Laws of the walk's state: what items do one after another, a number, a step to another offset.
use Rattle.std.specs.Prelude.{ℕ, zero, suc, ◌+◌, ◌≤◌, ◌≡◌, Bool, length, Option, None, Some}
use Rattle.std.proofs.Common.{arith, ap₂, subst, sym, ◌∙◌, length-append}
use Rattle.std.proofs.Math.Path.{refl, ap}
use mathlib.Core.List.{List, [], ◌∷◌, ◌++◌}
use Rattle.std.proofs.Math.Bool.{true, false}
use Rattle.std.proofs.Math.Dec.{eqb}
use Rattle.meaning.specs.declared.SourceLocation.{SourceLocation}
use Rattle.meaning.specs.Choice.{pick}
use Rattle.meaning.specs.Tables.{Table, number, size, Item, int, row, rows_of, count, Bad, puts, Lent, lent}
use Rattle.ast.specs.RowLaws.{puts_append}
use Rattle.walk.specs.declared.Door.{Door}
use Rattle.walk.specs.declared.Door.TheVariants.{Count, Write}
use Rattle.walk.specs.declared.Walk.{Walk}
use Rattle.walk.specs.declared.Number.{Number}
use Rattle.meaning.specs.Convert.{reason_of}
use Rattle.walk.specs.Terms.{integer_items}
use Rattle.walk.specs.State.{counted, bad_of, worse, bads, after_integer, after_number, counting, left, Wrote, Near, At, Goes, Tallied}

-- ---- items one after another
rows_append : (t : Table) (xs ys : List Item) → rows_of t (xs ++ ys) ≡ rows_of t xs ++ rows_of t ys
unfolding rows_of
rows_append t [] ys = refl
rows_append t (int p r ∷ xs) ys = rows_append t xs ys
rows_append t (row u ws ∷ xs) ys = go (eqb (number t) (number u)) (rows_append t xs ys)
  where
    go : (b : Bool) → rows_of t (xs ++ ys) ≡ rows_of t xs ++ rows_of t ys → pick b (ws ∷ rows_of t (xs ++ ys)) (rows_of t (xs ++ ys))
        ≡ pick b (ws ∷ rows_of t xs) (rows_of t xs) ++ rows_of t ys
    go true e = ap (λ (rs : List (List ℕ)). ws ∷ rs) e
    go false e = e

pub count_append : (t : Table) (xs ys : List Item) → count t (xs ++ ys) ≡ count t xs + count t ys
count_append t xs ys = ap length (rows_append t xs ys) ∙ length-append (rows_of t xs) (rows_of t ys)

bads_append : (xs ys : List Item) (b : Bad) → bads (xs ++ ys) b ≡ bads ys (bads xs b)
unfolding bads
bads_append [] ys b = refl
bads_append (int p r ∷ xs) ys b = bads_append xs ys (worse p r b)
bads_append (row t ws ∷ xs) ys b = bads_append xs ys b

pub left_none : (d : Door) (size k : ℕ) (t : List ℕ) → t ≡ left d size k [] t
unfolding puts left
left_none Count size k t = refl
left_none Write size k t = refl

left_append : (d : Door) (size k : ℕ) (xs ys : List (List ℕ)) (t : List ℕ) → left d size k (xs ++ ys) t ≡ left d size (k + length xs) ys (left d size k xs t)
unfolding left
left_append Count size k xs ys t = refl
left_append Write size k xs ys t = puts_append size k xs ys t

pub wrote_none : (n : Walk) (a : Lent → Lent) → Wrote [] n n a a
unfolding bads rows_of
wrote_none n a =
    record { door = refl; sized = refl; counts = λ t. omega arith; bad = refl; words = λ l t. left_none n.door (size t) (counted t n) (lent t (a l)) }

pub wrote_then : {xs ys : List Item} {n m r : Walk} {a b c : Lent → Lent} → Wrote xs n m a b → Wrote ys m r b c → Wrote (xs ++ ys) n r a c
wrote_then {xs} {ys} {n} {m} {r} {a} {b} {c} f g =
    record {
      door = g.door ∙ f.door;
      sized = g.sized ∙ f.sized;
      counts = λ t. omega (arith, f.counts t, g.counts t, count_append t xs ys);
      bad = g.bad ∙ ap (bads ys) f.bad ∙ sym (bads_append xs ys (bad_of n));
      words = λ l t.
          g.words l t
          ∙ ap₂ (λ (d : Door) (w : List ℕ). left d (size t) (counted t m) (rows_of t ys) w) f.door (f.words l t)
          ∙ ap (λ (k : ℕ). left n.door (size t) k (rows_of t ys) (left n.door (size t) (counted t n) (rows_of t xs) (lent t (a l)))) (f.counts t)
          ∙ sym (left_append n.door (size t) (counted t n) (rows_of t xs) (rows_of t ys) (lent t (a l)))
          ∙ ap (λ (rs : List (List ℕ)). left n.door (size t) (counted t n) rs (lent t (a l))) (sym (rows_append t xs ys));
    }

-- the same with more tables lent, and of the same items told otherwise
pub wrote_in : {xs : List Item} {n r : Walk} {a b : Lent → Lent} (f : Lent → Lent) → Wrote xs n r a b → Wrote xs n r (λ l. a (f l)) (λ l. b (f l))
wrote_in f h = record { door = h.door; sized = h.sized; counts = h.counts; bad = h.bad; words = λ l t. h.words (f l) t }

pub wrote_as : {xs ys : List Item} {n r : Walk} {a b : Lent → Lent} → xs ≡ ys → Wrote xs n r a b → Wrote ys n r a b
wrote_as {n = n} {r = r} {a = a} {b = b} e h = subst (λ (zs : List Item). Wrote zs n r a b) e h

pub tallied_then : {xs ys : List Item} {n r : Walk} {a b : Lent → Lent} → Tallied xs n → Wrote ys n r a b → Tallied (xs ++ ys) r
tallied_then {xs} {ys} h w = record { counts = λ t. count_append t xs ys ∙ omega (arith, h.counts t, w.counts t) }

-- ---- where the walk has come to
near_on : (d : Door) (src : List ℕ) (j k : ℕ) (p : SourceLocation) → j ≤ k → Near d src j p → Near d src k p
unfolding Near
near_on Count src j k p e h = tt
near_on Write src j k p e h = (h.0, omega (arith, h.1))

pub at_on : {src : List ℕ} {j k : ℕ} {n : Walk} → j ≤ k → k ≤ length src → At src j n → At src k n
at_on {src} {j} {k} {n} e w h =
    record { within = w; sized = h.sized; few = λ t. omega (arith, h.few t); near = near_on n.door src j k n.here e h.near }

pub goes_none : {src : List ℕ} {k : ℕ} {n : Walk} (a : Lent → Lent) → At src k n → Goes [] src k n n a a
goes_none {n = n} a h = record { wrote = wrote_none n a; at = h }

pub goes_then : {xs ys : List Item} {src : List ℕ} {j k : ℕ} {n m r : Walk} {a b c : Lent → Lent} → Goes xs src j n m a b → Goes ys src k m r b c
    → Goes (xs ++ ys) src k n r a c
goes_then f g = record { wrote = wrote_then f.wrote g.wrote; at = g.at }

pub goes_in : {xs : List Item} {src : List ℕ} {k : ℕ} {n r : Walk} {a b : Lent → Lent} (f : Lent → Lent) → Goes xs src k n r a b
    → Goes xs src k n r (λ l. a (f l)) (λ l. b (f l))
goes_in f h = record { wrote = wrote_in f h.wrote; at = h.at }

pub goes_as : {xs ys : List Item} {src : List ℕ} {k : ℕ} {n r : Walk} {a b : Lent → Lent} → xs ≡ ys → Goes xs src k n r a b → Goes ys src k n r a b
goes_as e h = record { wrote = wrote_as e h.wrote; at = h.at }

pub goes_on : {xs : List Item} {src : List ℕ} {j k : ℕ} {n r : Walk} {a b : Lent → Lent} → j ≤ k → k ≤ length src → Goes xs src j n r a b
    → Goes xs src k n r a b
goes_on e w h = record { wrote = h.wrote; at = at_on e w h.at }

-- ---- an integer
-- of any place and any reason: the first bad one stays, and nothing moves
module _ (p r : ℕ) where
  bad_kept : (n : Walk) → bad_of (after_integer p r n) ≡ bads (int p r ∷ []) (bad_of n)
  unfolding bads
  bad_kept n = refl

  int_wrote : (n : Walk) (a : Lent → Lent) → Wrote (int p r ∷ []) n (after_integer p r n) a a
  unfolding rows_of
  int_wrote n a =
      record { door = refl; sized = refl; counts = λ t. omega arith; bad = bad_kept n; words = λ l t. left_none n.door (size t) (counted t n) (lent t (a l)) }

  pub int_goes : {src : List ℕ} {k : ℕ} {n m : Walk} (a : Lent → Lent) → m ≡ after_integer p r n → At src k n → Goes (int p r ∷ []) src k n m a a
  int_goes {src} {k} {n} {m} a e h =
      subst (λ (z : Walk). Goes (int p r ∷ []) src k n z a a) (sym e)
      (record { wrote = int_wrote n a; at = record { within = h.within; sized = h.sized; few = h.few; near = h.near } })

-- one that converts changes nothing, whatever its place
pub int_good : (p : ℕ) (n : Walk) → after_integer p 0 n ≡ n
unfolding worse
int_good p n = go (eqb n.bad.reason 0)
  where
    go : (z : Bool)
        → ◌≡◌ {A = Walk} (record {
          door = n.door;
          counts = n.counts;
          bad = record { place = (pick z (bad_of n) (bad_of n)).place; reason = (pick z (bad_of n) (bad_of n)).reason };
          here = n.here;
        }) n
    go true = refl
    go false = refl

module _ (t : Table) where
  number_rows : (x : Option Number) → rows_of t (integer_items x) ≡ []
  unfolding rows_of
  number_rows None = refl
  number_rows (Some x) = refl

  pub no_rows : (x : Option Number) → count t (integer_items x) ≡ 0
  no_rows x = ap length (number_rows x)

-- of the source, if there is one
number_bad : (x : Option Number) (n : Walk) → bad_of (after_number x n) ≡ bads (integer_items x) (bad_of n)
unfolding bads
number_bad None n = refl
number_bad (Some x) n = bad_kept x.place (reason_of x.value) n

note_wrote : (x : Option Number) (n : Walk) (a : Lent → Lent) → Wrote (integer_items x) n (after_number x n) a a
note_wrote None n a = wrote_none n a
note_wrote (Some x) n a = int_wrote x.place (reason_of x.value) n a

pub integer_goes : (x : Option Number) {src : List ℕ} {k : ℕ} {n m : Walk} (a : Lent → Lent) → m ≡ after_number x n → At src k n
    → Goes (integer_items x) src k n m a a
integer_goes None {src} {k} {n} {m} a e h = subst (λ (z : Walk). Goes [] src k n z a a) (sym e) (goes_none a h)
integer_goes (Some x) a e h = int_goes x.place (reason_of x.value) a e h

-- nothing was met: no count is another
pub same_counts : {n r : Walk} {a b : Lent → Lent} → Wrote [] n r a b → (t : Table) → counted t r ≡ counted t n
unfolding rows_of
same_counts w t = omega (arith, w.counts t)

pub counting_at : {src : List ℕ} {k : ℕ} {n : Walk} → At src k n → At src k (counting n)
unfolding Near
counting_at h = record { within = h.within; sized = h.sized; few = h.few; near = tt }

-- ---- some items that are as many as the walk has counted
copies : ℕ → Table → List Item
copies zero u = []
copies (suc k) u = row u [] ∷ copies k u

copies_are : (t u : Table) (k : ℕ) → count t (copies k u) ≡ pick (eqb (number t) (number u)) k 0
unfolding rows_of copies
copies_are t u zero = go (eqb (number t) (number u))
  where
    go : (b : Bool) → ◌≡◌ {A = ℕ} 0 (pick b 0 0)
    go true = refl
    go false = refl
copies_are t u (suc k) = go (eqb (number t) (number u)) (copies_are t u k)
  where
    go : (b : Bool) → count t (copies k u) ≡ pick b k 0 → length (pick b ([] ∷ rows_of t (copies k u)) (rows_of t (copies k u))) ≡ pick b (suc k) 0
    go true e = ap suc e
    go false e = e

abbrev copied : Table → Walk → List Item
copied u n = copies (counted u n) u

pub tally : Walk → List Item
tally n = copied Table.declarations n ++ copied Table.fields n ++ copied Table.tags n ++ copied Table.constraints n ++ copied Table.comments n

tally_count : (t : Table) (n : Walk) → count t (tally n)
    ≡ count t (copied Table.declarations n) + count t (copied Table.fields n) + count t (copied Table.tags n) + count t (copied Table.constraints n)
    + count t (copied Table.comments n)
unfolding tally
tally_count t n =
    omega (
      arith,
      count_append t (copied Table.declarations n ++ copied Table.fields n ++ copied Table.tags n ++ copied Table.constraints n) (copied Table.comments n),
      count_append t (copied Table.declarations n ++ copied Table.fields n ++ copied Table.tags n) (copied Table.constraints n),
      count_append t (copied Table.declarations n ++ copied Table.fields n) (copied Table.tags n),
      count_append t (copied Table.declarations n) (copied Table.fields n),
    )

pub tally_is : (n : Walk) → Tallied (tally n) n
tally_is n = record { counts = λ t. tally_count t n ∙ go t }
  where
    one : (t : Table) → pick (eqb (number t) 1) (counted Table.declarations n) 0 + pick (eqb (number t) 2) (counted Table.fields n) 0
        + pick (eqb (number t) 3) (counted Table.tags n) 0 + pick (eqb (number t) 4) (counted Table.constraints n) 0
        + pick (eqb (number t) 5) (counted Table.comments n) 0
        ≡ counted t n
    one Table.declarations = omega arith
    one Table.fields = omega arith
    one Table.tags = omega arith
    one Table.constraints = omega arith
    one Table.comments = omega arith

    go : (t : Table) → count t (copied Table.declarations n) + count t (copied Table.fields n) + count t (copied Table.tags n)
        + count t (copied Table.constraints n) + count t (copied Table.comments n) ≡ counted t n
    go t =
        omega (
          arith,
          copies_are t Table.declarations (counted Table.declarations n),
          copies_are t Table.fields (counted Table.fields n),
          copies_are t Table.tags (counted Table.tags n),
          copies_are t Table.constraints (counted Table.constraints n),
          copies_are t Table.comments (counted Table.comments n),
          one t,
        )
