-- A walk that has met nothing yet: where it stands, and what items leave then of counts, rows and the first bad integer.
use Rattle.std.specs.Prelude.{ℕ, ◌≤◌, ◌≡◌, refl, List, [], ◌∷◌, Bool, true, false, length, eqb}
use Rattle.std.proofs.Common.{arith, ap, sym, ◌∙◌}
use Rattle.meaning.specs.Choice.{pick}
use Rattle.meaning.specs.Tables.{Table, size, Item, int, row, rows_of, count, Bad, first_bad, Lent, lent}
use Rattle.text.specs.PlaceLaws.{place_at_start}
use Rattle.walk.specs.declared.Door.{Door}
use Rattle.walk.specs.declared.Door.TheVariants.{Count, Write}
use Rattle.walk.specs.declared.Walk.{Walk}
use Rattle.walk.specs.State.{counted, fresh, bad_of, worse, bads, left, Wrote, Near, At}

-- ---- it stands at the start
pub no_count : (d : Door) (t : Table) → counted t (fresh d) ≡ 0
no_count d Table.declarations = refl
no_count d Table.fields = refl
no_count d Table.tags = refl
no_count d Table.constraints = refl
no_count d Table.comments = refl

fresh_near : (d : Door) (src : List ℕ) (k : ℕ) → Near d src k (fresh d).here
unfolding Near
fresh_near Count src k = tt
fresh_near Write src k = (sym (place_at_start src), omega arith)

pub fresh_at : (d : Door) (src : List ℕ) (k : ℕ) → k ≤ length src → At src k (fresh d)
fresh_at d src k h = record { within = h; sized = refl; few = λ t. omega (arith, no_count d t); near = fresh_near d src k }

-- ---- the first bad integer stays
after_bad : (xs : List Item) (b : Bad) → eqb b.reason 0 ≡ false → bads xs b ≡ b
unfolding bads worse
after_bad [] b h = refl
after_bad (int q s ∷ xs) b h = ap (λ (z : Bool). bads xs (pick z (pick (eqb s 0) b (record { place = q; reason = s })) b)) h ∙ after_bad xs b h
after_bad (row t ws ∷ xs) b h = after_bad xs b h

-- where there was none, it is the first of the items
first_bad_lem : (xs : List Item) → bads xs (record { place = 0; reason = 0 }) ≡ first_bad xs
unfolding bads worse first_bad
first_bad_lem [] = refl
first_bad_lem (int q s ∷ xs) = go (eqb s 0) refl (first_bad_lem xs)
  where
    go : (z : Bool) → eqb s 0 ≡ z → bads xs (record { place = 0; reason = 0 }) ≡ first_bad xs
        → bads xs (pick z (record { place = 0; reason = 0 }) (record { place = q; reason = s })) ≡ pick z (first_bad xs) (record { place = q; reason = s })
    go true h i = i
    go false h i = after_bad xs (record { place = q; reason = s }) h
first_bad_lem (row t ws ∷ xs) = first_bad_lem xs

-- ---- what the items leave
pub record Tabled (xs : List Item) (d : Door) (r : Walk) (a b : Lent → Lent) : Type 0 where
  pub counts : (t : Table) → counted t r ≡ count t xs
  pub bad : bad_of r ≡ first_bad xs
  pub words : (l : Lent) (t : Table) → lent t (b l) ≡ left d (size t) 0 (rows_of t xs) (lent t (a l))

pub tabled : {xs : List Item} {d : Door} {r : Walk} {a b : Lent → Lent} → Wrote xs (fresh d) r a b → Tabled xs d r a b
tabled {xs} {d} {r} {a} {b} w =
    record {
      counts = λ t. omega (arith, w.counts t, no_count d t);
      bad = w.bad ∙ first_bad_lem xs;
      words = λ l t. w.words l t ∙ ap (λ (k : ℕ). left d (size t) k (rows_of t xs) (lent t (a l))) (no_count d t);
    }
