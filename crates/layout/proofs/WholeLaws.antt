-- Each answer of the whole.
use Prim.Native.Nat.{ℕ, zero, suc, ◌-◌}
use mathlib.Core.Path.{◌≡◌, sym, ap, ◌∙◌}
use mathlib.Core.List.{List}
use Rattle.std.specs.Prelude.{false, Result, Ok, Err, IfOk}
use lib.Dec.{eqb}
use Rattle.meaning.specs.declared.Aligner.{Aligner}
use Rattle.meaning.specs.Alignment.{fresh, world}
use Rattle.meaning.specs.Feeding.{Fed, laid, feed_fields, feed_number, layout}
use Rattle.alignment.specs.NumberLaws.{differ}
use Rattle.layout.specs.declared.Refusal.{Refusal}
use Rattle.layout.specs.declared.Refused.{Refused}
use Rattle.layout.specs.Refusals.{number, not_zero, refused as refused_by}
use Rattle.layout.specs.Judging.{Among, Verdict, verdict, judgement, Accepted, answered}

-- ---- the whole
module _ (ps cs : List ℕ) (x : Fed) where
  laid_refused : (e : Refused) → judgement (Err e) ≡ verdict x → answered (Err e) ps cs ≡ laid x ps cs
  laid_refused e h =
      let n : number e.refusal ≡ x.number = ap (λ (v : Verdict). v.number) h in
      let p : e.place ≡ x.place = ap (λ (v : Verdict). v.place) h in
      let z : eqb x.number 0 ≡ false = rw n at (not_zero e.refusal) in
      rw z (rw (n, p))

  laid_accepted : x.number ≡ 0 → (a : Aligner) (ps' cs' : List ℕ) → world a ps' cs' ≡ x.left
      → answered (Ok (record { placed = a.placed; chunks = a.chunks })) ps' cs' ≡ laid x ps cs
  laid_accepted z a ps' cs' g = rw z (rw (← g))

-- what was not refused
pub opened : {A : Type 0} (P : A → Type 0) (r : Result A Refusal) (x : A) {n : ℕ} → refused_by r ≡ n → IfOk r P → r ≡ Ok x → (0 ≡ n) × P x
opened P r x e m q = (rw q at e, rw q at m)

module _ (ds fs : List ℕ) (d : ℕ) where
  -- the declaration's fields are those from first up to last
  abbrev Open : ℕ → ℕ → Type 0
  Open first last = (0 ≡ feed_number ds fs d) × Among ds fs d first last

  module _ (ps cs : List ℕ) where
    refuses : (m : ℕ) → feed_number ds fs d ≡ m → eqb m 0 ≡ false
        → record { number = m; place = d; placed = 0; chunks = 0; ps = ps; cs = cs } ≡ layout ds fs d ps cs
    unfolding layout
    refuses zero i h = absurd (differ (sym h))
    refuses (suc m) i h = rw (i, layout) (simp h)

    pub refused : (e : Refusal) → number e ≡ feed_number ds fs d → answered (Err (record { refusal = e; place = d })) ps cs ≡ layout ds fs d ps cs
    refused e h = refuses (number e) (sym h) (not_zero e)

    -- the fields from first up to last are fed
    module _ (first last : ℕ) (o : Open first last) where
      abbrev fed : Fed
      fed = feed_fields fs (last - first) first (world fresh ps cs)

      opens : layout ds fs d ps cs ≡ laid fed ps cs
      unfolding layout
      opens = rw (← o.0, layout, ← o.1.starts, ← o.1.counts)

      pub refused_fields : (e : Refused) → judgement (Err e) ≡ verdict fed → answered (Err e) ps cs ≡ layout ds fs d ps cs
      refused_fields e h = laid_refused ps cs fed e h ∙ sym opens

      module _ (u : Unit) (h : judgement (Ok u) ≡ verdict fed) where
        pub accepted : Accepted fs first last ps cs
        accepted = record { rows = o.1.rows; number = sym (ap (λ (x : Verdict). x.number) h) }

        pub laid_out : (a : Aligner) (ps' cs' : List ℕ) → world a ps' cs' ≡ fed.left
            → answered (Ok (record { placed = a.placed; chunks = a.chunks })) ps' cs' ≡ layout ds fs d ps cs
        laid_out a ps' cs' g = laid_accepted ps cs fed accepted.number a ps' cs' g ∙ sym opens
