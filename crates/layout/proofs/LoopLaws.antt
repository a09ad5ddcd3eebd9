-- Both loops and the whole: what is left of the fields gives the whole.
use Prim.Native.Nat.{ℕ, zero, suc, ◌+◌, ◌-◌, ◌<◌, ◌≤◌}
use mathlib.Core.Path.{◌≡◌, refl, sym, ◌∙◌}
use mathlib.Core.List.{List}
use Rattle.std.proofs.Common.{rules}
use native.Mathlib.Omega.{arith}
use Rattle.std.specs.Prelude.{false, Result, Ok, Err, IsOk}
use lib.Dec.{eqb}
use Rattle.meaning.specs.declared.Aligner.{Aligner}
use Rattle.meaning.specs.Choice.{pick}
use Rattle.meaning.specs.Alignment.{fresh, World, world, staged}
use Rattle.meaning.specs.Feeding.{Fed, onto, feed_field, feed_fields}
use Rattle.alignment.specs.declared.Refusal as aligner
use Rattle.alignment.specs.Refusals.{refused as aligner_refused}
use Rattle.alignment.specs.Answers.{called, Ended, finished, ended}
use Rattle.alignment.specs.NumberLaws.{differ}
use Rattle.alignment.specs.SoundLaws.{sound_fresh}
use Rattle.layout.specs.declared.Refusal.{Refusal}
use Rattle.layout.specs.declared.Refusal.TheVariants.{Aligner as OfAligner}
use Rattle.layout.specs.declared.Request.{Request}
use Rattle.layout.specs.Refusals.{number, not_zero}
use Rattle.layout.specs.Requests.{request, served, feeds}
use Rattle.layout.specs.Judging.{told, foreseen, verdict, judgement, judge}
use Rattle.layout.proofs.JudgingLaws.{Staging, judge_is}

-- ---- the judging loop
module _ (fs ps cs : List ℕ) where
  pub judge_start : (first count : ℕ) {a : Aligner} → a ≡ fresh
      → judge fs ps cs count first a first ≡ verdict (feed_fields fs count first (world fresh ps cs))
  judge_start first count e =
      let h : Staging ps cs (world fresh ps cs) first = record { placed = refl; chunks = refl; first = λ l. absurd (omega arith) } in
      rw e (judge_is fs ps cs count first (world fresh ps cs) first (sound_fresh ps cs) h)

  -- c is what the field at row i would be answered
  module _ (end f i : ℕ) (a : Aligner) where
    module _ {b : Aligner} (e : told a (Ok b) ≡ foreseen (request fs i) a ps cs) where
      turns : (n m g : ℕ) → n ≡ suc m → g ≡ pick (staged a) f i → judge fs ps cs m (i + 1) b g ≡ judge fs ps cs n i a f
      unfolding judge
      turns n m g l h = rw (l, ← e) (rw h)

      pub judge_turn : i < end → {g : ℕ} → g ≡ pick (staged a) f i → judge fs ps cs (end - (i + 1)) (i + 1) b g ≡ judge fs ps cs (end - i) i a f
      judge_turn l h = turns (end - i) _ _ (omega arith) h

    module _ (r : Refusal) (e : told a (Err r) ≡ foreseen (request fs i) a ps cs) where
      stops : (n m k : ℕ) → n ≡ suc m → number r ≡ k → eqb k 0 ≡ false → record { number = k; place = i } ≡ judge fs ps cs n i a f
      unfolding judge
      stops n m zero l z h = absurd (differ (sym h))
      stops n m (suc k) l z h = rw (l, ← e) (rw z)

      pub judge_stop : i < end → judgement (Err (record { refusal = r; place = i })) ≡ judge fs ps cs (end - i) i a f
      judge_stop l = stops (end - i) (end - (i + 1)) _ (omega arith) refl (not_zero r)

  module _ (f : ℕ) (a : Aligner) {end i : ℕ} (l : end ≤ i) where
    at_end_lem : {x : Ended} → x ≡ ended a ps cs → (n : ℕ) → n ≡ 0 → judge fs ps cs n i a f ≡ record { number = x.number; place = pick (eqb x.number 0) 0 f }
    unfolding judge ended
    at_end_lem e n z = rw (z, e)

    pub judge_16 : (r : aligner.Refusal) → finished (Err r) ≡ ended a ps cs
        → judgement (Err (record { refusal = OfAligner r; place = f })) ≡ judge fs ps cs (end - i) i a f
    judge_16 r e = sym (at_end_lem e (end - i) (omega arith) ∙ simp (not_zero (OfAligner r)))

    pub judge_0 : {n : ℕ} → finished (Ok n) ≡ ended a ps cs → judgement (Ok tt) ≡ judge fs ps cs (end - i) i a f
    judge_0 e = sym (at_end_lem e (end - i) (omega arith))

-- ---- the placing loop
module _ (fs : List ℕ) where
  pub place_start : (first count : ℕ) (ps cs : List ℕ) (a : Aligner) → a ≡ fresh
      → feed_fields fs count first (world a ps cs) ≡ feed_fields fs count first (world fresh ps cs)
  place_start first count ps cs a e = rw e

  went : (n i : ℕ) (w : World) (q : World → Fed) → (onto (record { number = n; left = w }) i q).number ≡ 0 → onto (record { number = n; left = w }) i q ≡ q w
  went zero i w q e = refl
  went (suc n) i w q e = absurd (omega arith)

  goes : (n m i : ℕ) (w : World) → n ≡ suc m → (feed_fields fs n i w).number ≡ 0 → feed_fields fs n i w
      ≡ feed_fields fs m (i + 1) (served (request fs i) i w).left
  unfolding feed_fields
  goes n m i w l z = rw l (went (feed_field fs i w).number i (feed_field fs i w).left (λ v. feed_fields fs m (i + 1) v) (rw l at z) ∙ rw (feeds i w fs))

  -- a field of a whole that is accepted has the number 0
  zero_of : (n i : ℕ) (w : World) (q : World → Fed) → (onto (record { number = n; left = w }) i q).number ≡ 0 → n ≡ 0
  zero_of zero i w q e = refl
  zero_of (suc n) i w q e = absurd (omega arith)

  served_0 : (n m i : ℕ) (w : World) → n ≡ suc m → (feed_fields fs n i w).number ≡ 0 → (served (request fs i) i w).number ≡ 0
  unfolding feed_fields
  served_0 n m i w l z =
      rw (feeds i w fs) at (zero_of (feed_field fs i w).number i (feed_field fs i w).left (λ v. feed_fields fs m (i + 1) v) (rw l at z))

  -- x is the whole, which is accepted
  module _ (end i : ℕ) (w : World) (x : Fed) (e : feed_fields fs (end - i) i w ≡ x) (z : x.number ≡ 0) (l : i < end) where
    accepts : (served (request fs i) i w).number ≡ 0
    accepts = served_0 (end - i) (end - (i + 1)) i w (omega arith) (rw e z)

    pub place_asks : (q : Result Request Refusal) → q ≡ request fs i → IsOk q
    unfolding served
    place_asks q eq = asks q (rw (← eq) at accepts)
      where
        asks : (q : Result Request Refusal) → (served q i w).number ≡ 0 → IsOk q
        asks (Ok r) h = search rules
        asks (Err r) h = absurd (differ (sym (rw h at (not_zero r))))

    -- r is what the aligner answered, and q what the row asks
    module _ (q : Request) (eq : request fs i ≡ Ok q) (r : Result Aligner aligner.Refusal) (ps cs : List ℕ)
        (er : called w.st r ps cs ≡ served (Ok q) i w) where
      pub place_goes : IsOk r
      place_goes = goes_on r (rw (eq, ← er) at accepts)
        where
          goes_on : (r : Result Aligner aligner.Refusal) → aligner_refused r ≡ 0 → IsOk r
          goes_on (Ok b) h = search rules
          goes_on (Err x) h = absurd (differ (sym (rw h at (not_zero (OfAligner x)))))

      pub place_turn : (b : Aligner) → r ≡ Ok b → feed_fields fs (end - (i + 1)) (i + 1) (world b ps cs) ≡ x
      place_turn b eb =
          let v : (served (request fs i) i w).left ≡ world b ps cs = rw (eq, ← er, eb) in
          rw (← v) (sym (goes (end - i) (end - (i + 1)) i w (omega arith) (rw e z)) ∙ e)

  pub place_end : (end i : ℕ) (w : World) (x : Fed) → feed_fields fs (end - i) i w ≡ x → end ≤ i → w ≡ x.left
  unfolding feed_fields
  place_end end i w x e l = let z : end - i ≡ 0 = omega arith in rw (← e, z)
