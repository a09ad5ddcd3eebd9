-- What a call is answered, and the state after it, depend on the tables by their lengths alone, and not on the symbol.
use Rattle.std.specs.Prelude.{ℕ, ◌+◌, ◌≡◌, Bool, length, eqb}
use Rattle.std.proofs.Math.Path.{refl}
use mathlib.Core.List.{List}
use Rattle.std.proofs.Math.Bool.{true, false}
use Rattle.meaning.specs.declared.Aligner.{Aligner}
use Rattle.meaning.specs.Choice.{pick}
use Rattle.meaning.specs.Alignment.{World, world, settled, sound, due, bits_number, bytes_number, dyn_number, end_number, bits_done, chunk_done, Call, add_bitfield, add_bytes, add_dyn_bytes, align, call}
use Rattle.alignment.specs.Answers.{judged}

-- the call with 0 for its symbol
abbrev pub nameless : Call → Call
nameless (add_bitfield s v) = add_bitfield 0 v
nameless (add_bytes s v) = add_bytes 0 v
nameless (add_dyn_bytes s) = add_dyn_bytes 0
nameless align = align

-- both sides are accepted, or none is
states : {n m : ℕ} (x x' y y' : World) → n ≡ m → x.st ≡ x'.st → y.st ≡ y'.st → (settled n x y).left.st ≡ (settled m x' y').left.st
states {m = m} x x' y y' e f g = rw e (cases (eqb m 0))
  where
    cases : (b : Bool) → (pick b x y).st ≡ (pick b x' y').st
    cases true = f
    cases false = g

module _ (a : Aligner) (ps cs ps' cs' : List ℕ) (p : length ps' ≡ length ps) (q : length cs' ≡ length cs) where
  pub same_end : end_number (world a ps' cs') ≡ end_number (world a ps cs)
  unfolding end_number sound
  same_end = rw (p, q)

  same_number : (k : Call) → (call k (world a ps' cs')).number ≡ (call (nameless k) (world a ps cs)).number
  unfolding call bits_number bytes_number dyn_number sound
  same_number (add_bitfield s v) = rw (p, q)
  same_number (add_bytes s v) = rw (p, q)
  same_number (add_dyn_bytes s) = rw (p, q)
  same_number align = same_end

  bits_state : (s v : ℕ) → (bits_done s v (world a ps' cs')).st ≡ (bits_done 0 v (world a ps cs)).st
  unfolding bits_done
  bits_state s v = cases (due (a.width + v)) _ _ _ _ _ _ _ _
    where
      cases : (b : Bool) (x y : Aligner) (s t u s' t' u' : List ℕ) → (pick b (world x s t) (world y s u)).st ≡ (pick b (world x s' t') (world y s' u')).st
      cases true x y s t u s' t' u' = refl
      cases false x y s t u s' t' u' = refl

  same_state : (k : Call) → (call k (world a ps' cs')).left.st ≡ (call (nameless k) (world a ps cs)).left.st
  unfolding call chunk_done
  same_state (add_bitfield s v) = states _ _ _ _ (same_number (add_bitfield s v)) (bits_state s v) refl
  same_state (add_bytes s v) = states _ _ _ _ (same_number (add_bytes s v)) refl refl
  same_state (add_dyn_bytes s) = states _ _ _ _ (same_number (add_dyn_bytes s)) refl refl
  same_state align = states _ _ _ _ same_end refl refl

  pub same_judged : (k : Call) → judged k a ps' cs' ≡ judged (nameless k) a ps cs
  same_judged k = rw (same_number k, same_state k)
