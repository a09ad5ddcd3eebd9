-- The judging pass answers as feeding does: an answer depends on the tables by their lengths alone, and the first staged field row is
-- the symbol of the first staged placed row.
use Prim.Native.Nat.{ℕ, zero, suc, ◌+◌, ◌-◌, ◌*◌, ◌<◌, ◌≤◌}
use mathlib.Core.Path.{◌≡◌, refl, sym, ◌∙◌}
use mathlib.Core.List.{List}
use mathlib.Core.Bool.{Bool, true, false}
use native.Mathlib.Omega.{arith}
use lib.ListN.{length}
use Rattle.std.specs.Prelude.{Result, Ok, Err}
use lib.Dec.{ltb, eqb}
use borrow.Author.Tests.{lt-ltb, ltb-true, ltb-false}
use Rattle.meaning.specs.declared.Aligner.{Aligner}
use Rattle.meaning.specs.Choice.{pick}
use Rattle.meaning.specs.Tables.{put}
use Rattle.meaning.specs.Rows.{placed_size, placed_symbol, placed_words, chunk_size, chunk_words}
use Rattle.meaning.specs.Alignment.{World, world, staged, due, end_number, bits_done, chunk_done, add_bitfield, add_dyn_bytes, call}
use Rattle.meaning.specs.Feeding.{word, Fed, fed_refused, feed_fields}
use Rattle.ast.specs.RowLaws.{fits_iff, length_put, put_word, put_word_before}
use Rattle.alignment.specs.NumberLaws.{Sound, sound_is, BitsFit, bits_fit, ChunkFits, dyn_fit}
use Rattle.alignment.specs.SoundLaws.{sound_step}
use Rattle.alignment.specs.LengthLaws.{same_end, same_judged}
use Rattle.layout.specs.declared.Request.{Request}
use Rattle.layout.specs.declared.Request.TheVariants.{Nothing, Bits, Dynamic}
use Rattle.layout.specs.declared.Refusal.{Refusal}
use Rattle.layout.specs.Requests.{request, served, feeds}
use Rattle.layout.specs.Judging.{foreseen, Verdict, verdict, judge}

-- ---- tables of the same lengths
same_foreseen : (a : Aligner) (ps cs ps' cs' : List ℕ) → length ps' ≡ length ps → length cs' ≡ length cs → (r : Result Request Refusal) (i : ℕ)
    → foreseen r a ps cs ≡ record { number = (served r i (world a ps' cs')).number; state = (served r i (world a ps' cs')).left.st }
unfolding foreseen served
same_foreseen a ps cs ps' cs' p q (Ok Nothing) i = refl
same_foreseen a ps cs ps' cs' p q (Ok (Bits v)) i = sym (same_judged a ps cs ps' cs' p q (add_bitfield i v))
same_foreseen a ps cs ps' cs' p q (Ok Dynamic) i = sym (same_judged a ps cs ps' cs' p q (add_dyn_bytes i))
same_foreseen a ps cs ps' cs' p q (Err e) i = refl

-- ---- what an accepted field keeps
-- w has tables of these lengths, and f is the symbol of its first staged row
pub record Staging (ps cs : List ℕ) (w : World) (f : ℕ) : Type 0 where
  pub placed : length w.ps ≡ length ps
  pub chunks : length w.cs ≡ length cs
  pub first : w.st.start < w.st.placed → word w.ps placed_size w.st.start placed_symbol ≡ f

module _ (ps cs : List ℕ) where
  either : (d : Bool) (x y : World) (f : ℕ) → Staging ps cs x f → Staging ps cs y f → Staging ps cs (pick d x y) f
  either true x y f g h = g
  either false x y f g h = h

  module _ (w : World) (f : ℕ) (h : Staging ps cs w f) where
    stays : (i : ℕ) → Staging ps cs w (pick (staged w.st) f i)
    stays i = record { placed = h.placed; chunks = h.chunks; first = λ l. rw (lt-ltb _ _ l) (h.first l) }

    -- the row that a bit field takes
    row_first : (i v : ℕ) → BitsFit v w
        → word (put placed_size w.st.placed (placed_words i v w.st.width) w.ps) placed_size w.st.start placed_symbol ≡ pick (staged w.st) f i
    row_first i v b = cases (ltb w.st.start w.st.placed) refl
      where
        row : List ℕ
        row = placed_words i v w.st.width

        cases : (d : Bool) → ltb w.st.start w.st.placed ≡ d
            → word (put placed_size w.st.placed row w.ps) placed_size w.st.start placed_symbol ≡ pick d f i
        cases true e =
            let l : w.st.start < w.st.placed = ltb-true _ _ e in
            put_word_before placed_size w.st.placed row w.ps (w.st.start * placed_size + placed_symbol) refl (omega arith) ∙ h.first l
        cases false e =
            let l : w.st.placed ≤ w.st.start = ltb-false _ _ e in
            let z : w.st.start ≡ w.st.placed = omega (arith, b.good.ordered) in
            rw z (put_word placed_size w.st.placed row w.ps placed_symbol refl (fits_iff placed_size _ _ (omega arith) b.row) (omega arith))

    staging_bits : (i v : ℕ) → BitsFit v w → Staging ps cs (bits_done i v w) (pick (staged w.st) f i)
    unfolding bits_done
    staging_bits i v b =
        let p = length_put placed_size w.st.placed (placed_words i v w.st.width) w.ps refl ∙ h.placed in
        let c = length_put chunk_size w.st.chunks (chunk_words 1 w.st.start (w.st.placed + 1 - w.st.start) (w.st.width + v) 0)
        w.cs refl ∙ h.chunks in
        either (due (w.st.width + v)) _ _ _
        (record { placed = p; chunks = c; first = λ l. absurd (omega arith) })
        (record { placed = p; chunks = h.chunks; first = λ l. row_first i v b })

    staging_chunk : (kind i v : ℕ) → ChunkFits w → Staging ps cs (chunk_done kind i v w) (pick (staged w.st) f i)
    unfolding chunk_done
    staging_chunk kind i v c =
        record {
          placed = h.placed;
          chunks = length_put chunk_size w.st.chunks (chunk_words kind 0 0 v i) w.cs refl ∙ h.chunks;
          first = λ l. absurd (omega (arith, c.bare));
        }

    staging_next : (r : Result Request Refusal) (i : ℕ) → (served r i w).number ≡ 0 → Staging ps cs (served r i w).left (pick (staged w.st) f i)
    unfolding served call
    staging_next (Ok Nothing) i e = stays i
    staging_next (Ok (Bits v)) i e = rw e (staging_bits i v (bits_fit v w e))
    staging_next (Ok Dynamic) i e = rw e (staging_chunk 3 i 0 (dyn_fit w e))
    staging_next (Err x) i e = stays i

sound_served : (r : Result Request Refusal) (i : ℕ) (w : World) → Sound w → Sound (served r i w).left
unfolding served
sound_served (Ok Nothing) i w s = s
sound_served (Ok (Bits v)) i w s = sound_step (add_bitfield i v) w s
sound_served (Ok Dynamic) i w s = sound_step (add_dyn_bytes i) w s
sound_served (Err e) i w s = s

-- ---- the whole
module _ (fs ps cs : List ℕ) where
  -- 16 is given where fields are staged
  end_place : (w : World) (f : ℕ) → Sound w → Staging ps cs w f → pick (eqb (end_number w) 0) 0 f
      ≡ pick (eqb (end_number w) 0) 0 (word w.ps placed_size w.st.start placed_symbol)
  unfolding end_number
  end_place w f s h = rw (sound_is w s) (cases (ltb w.st.start w.st.placed) refl)
    where
      cases : (d : Bool) → ltb w.st.start w.st.placed ≡ d → pick (eqb (pick d 16 0) 0) 0 f
          ≡ pick (eqb (pick d 16 0) 0) 0 (word w.ps placed_size w.st.start placed_symbol)
      cases true e = sym (h.first (ltb-true _ _ e))
      cases false e = refl

  turn : (i m : ℕ) (x : Verdict) (y : Fed) (l : World) → (m ≡ 0 → x ≡ verdict y)
      → elim m [ zero ↦ x | suc k ↦ record { number = suc k; place = i } ] ≡ verdict (elim m [ zero ↦ y | suc k ↦ fed_refused (suc k) i l ])
  turn i zero x y l g = g refl
  turn i (suc m) x y l g = refl

  pub judge_is : (n i : ℕ) (w : World) (f : ℕ) → Sound w → Staging ps cs w f → judge fs ps cs n i w.st f ≡ verdict (feed_fields fs n i w)
  unfolding judge feed_fields
  judge_is zero i w f s h = rw (← same_end w.st ps cs w.ps w.cs h.placed h.chunks) (rw (end_place w f s h))
  judge_is (suc n) i w f s h =
      let r = request fs i in
      rw (feeds i w fs, same_foreseen w.st ps cs w.ps w.cs h.placed h.chunks r i)
      (turn i (served r i w).number _ _ _ (λ e. judge_is n (i + 1) (served r i w).left _ (sound_served r i w s) (staging_next ps cs w f h r i e)))
