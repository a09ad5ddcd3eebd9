-- What a call leaves: all as it came where it is refused, and for a bit field what its acceptance says.
use Rattle.std.specs.Prelude.{ℕ, ◌+◌, ◌≡◌, List, true, Ok, Err}
use Rattle.std.proofs.Common.{sym, ap, ◌∙◌}
use Rattle.meaning.specs.declared.Aligner.{Aligner}
use Rattle.meaning.specs.Alignment.{World, world, Called, settled, due, bits_number, bytes_number, dyn_number, end_number, bits_done, call, add_bitfield, add_bytes, add_dyn_bytes}
use Rattle.alignment.specs.declared.Refusal.{Refusal}
use Rattle.alignment.specs.Refusals.{number, not_zero}
use Rattle.alignment.specs.NumberLaws.{BitsFit, bits_fit}
use Rattle.alignment.specs.Answers.{Told, told, called, judged, finished, ended}

-- a refusal's number settles a call as it came
left : (e : Refusal) (n : ℕ) (x w : World) → number e ≡ n → record { number = number e; left = w } ≡ settled n x w
left e n x w h = rw (← h) (simp (not_zero e))

abbrev telling : Called → Told
telling c = record { number = c.number; state = c.left.st }

module _ (a : Aligner) (ps cs : List ℕ) (e : Refusal) where
  pub bits_left : (s v : ℕ) → number e ≡ bits_number v (world a ps cs) → called a (Err e) ps cs ≡ call (add_bitfield s v) (world a ps cs)
  unfolding call
  bits_left s v h = left e _ _ (world a ps cs) h

  pub bits_refused : (v : ℕ) → number e ≡ bits_number v (world a ps cs) → told a (Err e) ≡ judged (add_bitfield 0 v) a ps cs
  bits_refused v h = ap telling (bits_left 0 v h)

  pub bytes_left : (s v : ℕ) → number e ≡ bytes_number v (world a ps cs) → called a (Err e) ps cs ≡ call (add_bytes s v) (world a ps cs)
  unfolding call
  bytes_left s v h = left e _ _ (world a ps cs) h

  pub bytes_refused : (v : ℕ) → number e ≡ bytes_number v (world a ps cs) → told a (Err e) ≡ judged (add_bytes 0 v) a ps cs
  bytes_refused v h = ap telling (bytes_left 0 v h)

  pub dyn_left : (s : ℕ) → number e ≡ dyn_number (world a ps cs) → called a (Err e) ps cs ≡ call (add_dyn_bytes s) (world a ps cs)
  unfolding call
  dyn_left s h = left e _ _ (world a ps cs) h

  pub dyn_refused : number e ≡ dyn_number (world a ps cs) → told a (Err e) ≡ judged (add_dyn_bytes 0) a ps cs
  dyn_refused h = ap telling (dyn_left 0 h)

  pub end_refused : number e ≡ end_number (world a ps cs) → finished (Err e) ≡ ended a ps cs
  unfolding ended
  end_refused h = rw (← h) (simp (not_zero e))

-- ---- the state b that an accepted bit field would leave
module _ (a : Aligner) (v : ℕ) (ps cs : List ℕ) (b : Aligner) (h : told a (Ok b) ≡ judged (add_bitfield 0 v) a ps cs) where
  zero_is : bits_number v (world a ps cs) ≡ 0
  unfolding call
  zero_is = sym (ap (λ (t : Told). t.number) h)

  pub told_fit : BitsFit v (world a ps cs)
  told_fit = bits_fit v (world a ps cs) zero_is

  pub told_start : due (a.width + v) ≡ true → b.start ≡ a.placed + 1
  unfolding call bits_done
  told_start d = ap (λ (t : Told). t.state.start) h ∙ simp (zero_is, d)
