-- A call over one chunk row tells the call over a table of so many records.
use Prim.Native.Nat.{ℕ, ◌+◌, ◌-◌, ◌<◌, ◌≤◌}
use mathlib.Core.Path.{◌≡◌, refl, sym, ap, subst, ◌∙◌}
use mathlib.Core.Logic.{◌⊎◌, inl, inr}
use mathlib.Core.List.{List}
use mathlib.Core.Bool.{Bool, true, false}
use native.Mathlib.Omega.{arith}
use lib.ListN.{length, set}
use lib.Dec.{ltb, leb, eqb}
use borrow.Author.Tests.{lt-ltb, le-ltb, le-leb, lt-leb, ltb-true, ltb-false, eqb-true, eqb-false}
use Rattle.std.specs.Prelude.{Ok, Err}
use Rattle.meaning.specs.declared.Aligner.{Aligner}
use Rattle.meaning.specs.Choice.{pick, both}
use Rattle.meaning.specs.Tables.{put, room}
use Rattle.meaning.specs.Rows.{placed_size, chunk_size, placed_words, chunk_words}
use Rattle.meaning.specs.Alignment as meaning
use Rattle.meaning.specs.Alignment.{World, world, sound, due, bits_number, bytes_number, dyn_number, end_number, bits_done, chunk_done, call, Call, add_bitfield, add_bytes, add_dyn_bytes, align}
use Rattle.alignment.specs.declared.Refusal.{Refusal}
use Rattle.alignment.specs.NumberLaws.{bits_fit, bytes_fit, dyn_fit}
use Rattle.alignment.specs.Refusals.{number, not_zero}
use Rattle.alignment.specs.Answers.{called, Ended, finished, ended}
use Rattle.byte_aligner.specs.declared.Chunk.{Chunk}
use Rattle.byte_aligner.specs.Records.{row, flat, RecordWorld, record_world, words, bits_to, chunk_to, Recorded, recorded, call_to}
use Rattle.byte_aligner.specs.Plans.{near, with_chunks, near_state, blank, chunk_of}
use Rattle.byte_aligner.specs.Answers.{answered}
use Rattle.byte_aligner.specs.SameRecords.{flat_rows, flattened, same_words}

-- ---- one row for many: the tests of a count answer alike
module _ (k n : ℕ) where
  pub near_over : ltb 1 (near k n) ≡ ltb n k
  near_over = cases (ltb k n) (eqb k n) refl refl
    where
      cases : (t u : Bool) → ltb k n ≡ t → eqb k n ≡ u → ltb 1 (pick t 0 (pick u 1 2)) ≡ ltb n k
      cases true u p q = let l = ltb-true k n p in sym (le-ltb n k (omega arith))
      cases false true p q = let l = eqb-true k n q in sym (le-ltb n k (omega arith))
      cases false false p q = let l = ltb-false k n p in let m = eqb-false k n q in sym (lt-ltb n k (omega arith))

  pub near_full : leb 1 (near k n) ≡ leb n k
  near_full = cases (ltb k n) (eqb k n) refl refl
    where
      cases : (t u : Bool) → ltb k n ≡ t → eqb k n ≡ u → leb 1 (pick t 0 (pick u 1 2)) ≡ leb n k
      cases true u p q = let l = ltb-true k n p in sym (lt-leb n k (omega arith))
      cases false true p q = let l = eqb-true k n q in sym (le-leb n k (omega arith))
      cases false false p q = let l = ltb-false k n p in sym (le-leb n k (omega arith))

  -- where the row was not taken, none is due
  pub near_quiet : both (ltb k n) (ltb 0 (near k n)) ≡ false
  near_quiet = cases (ltb k n)
    where
      cases : (t : Bool) → both t (ltb 0 (pick t 0 (pick (eqb k n) 1 2))) ≡ false
      cases true = refl
      cases false = refl

-- ---- the numbers
module _ (a : Aligner) (ps cs : List ℕ) (n : ℕ) (e : room chunk_size cs ≡ n) where
  abbrev one : World
  one = world (near_state a n) ps blank

  abbrev all : World
  all = world a ps cs

  over : ltb (room chunk_size blank) (near a.chunks n) ≡ ltb (room chunk_size cs) a.chunks
  over = near_over a.chunks n ∙ ap (λ (z : ℕ). ltb z a.chunks) (sym e)

  full : leb (room chunk_size blank) (near a.chunks n) ≡ leb (room chunk_size cs) a.chunks
  full = near_full a.chunks n ∙ ap (λ (z : ℕ). leb z a.chunks) (sym e)

  same_sound : sound one ≡ sound all
  unfolding sound
  same_sound = rw over

  same_bits : (v : ℕ) → bits_number v one ≡ bits_number v all
  unfolding bits_number
  same_bits v = rw (same_sound, full)

  same_bytes : (v : ℕ) → bytes_number v one ≡ bytes_number v all
  unfolding bytes_number
  same_bytes v = rw (same_sound, full)

  same_dyn : dyn_number one ≡ dyn_number all
  unfolding dyn_number
  same_dyn = rw (same_sound, full)

  pub same_end : end_number one ≡ end_number all
  unfolding end_number
  same_end = rw same_sound

-- ---- the calls: what the core left over one row, told of these records
module _ (a : Aligner) (ps : List ℕ) (rs : List Chunk) (n : ℕ) (e : length rs ≡ n) where
  abbrev k : ℕ
  k = a.chunks

  abbrev h : RecordWorld
  h = record_world a ps rs

  abbrev w : World
  w = world (near_state a n) ps blank

  -- a record is stored where the one row was free and was taken
  abbrev after : meaning.Called → Recorded
  after o =
      pick (both (ltb k n) (ltb 0 o.left.st.chunks))
      (recorded o.number (with_chunks o.left.st (k + 1)) o.left.ps (set rs k (chunk_of o.left.cs)))
      (recorded o.number (with_chunks o.left.st k) o.left.ps rs)

  rows : room chunk_size (flat rs) ≡ n
  rows = flat_rows rs ∙ e

  -- the row was not taken
  kept : (m : ℕ) (b : Aligner) (ps' ws : List ℕ) → after (record { number = m; left = world (with_chunks b (near k n)) ps' ws })
      ≡ recorded m (with_chunks b k) ps' rs
  kept m b ps' ws = simp (near_quiet k n)

  -- it was
  took_first : ltb k n ≡ true → (m : ℕ) (b : Aligner) (ps' : List ℕ) (c : Chunk)
      → after (record { number = m; left = world (with_chunks b 1) ps' (put chunk_size 0 (row c) blank) })
      ≡ recorded m (with_chunks b (k + 1)) ps' (set rs k c)
  unfolding put
  took_first t m b ps' c = simp t

  took : k < n → (m : ℕ) (b : Aligner) (ps' : List ℕ) (c : Chunk)
      → after (record { number = m; left = world (with_chunks b (near k n + 1)) ps' (put chunk_size (near k n) (row c) blank) })
      ≡ recorded m (with_chunks b (k + 1)) ps' (set rs k c)
  took l m b ps' c =
      let t : ltb k n ≡ true = lt-ltb k n l in
      subst
      (λ (x : ℕ). after (record { number = m; left = world (with_chunks b (x + 1)) ps' (put chunk_size x (row c) blank) })
      ≡ recorded m (with_chunks b (k + 1)) ps' (set rs k c))
      (sym (ap (λ (z : Bool). pick z 0 (pick (eqb k n) 1 2)) t))
      (took_first t m b ps' c)

  fewer : k < room chunk_size (flat rs) → k < n
  fewer l = subst (λ (z : ℕ). k < z) rows l

  module _ (s v : ℕ) where
    abbrev laid : List ℕ
    laid = put placed_size a.placed (placed_words s v a.width) ps

    abbrev packed : Chunk
    packed = record { kind = 1; first = a.start; count = a.placed + 1 - a.start; width = a.width + v; symbol = 0 }

    abbrev cleared : ℕ → Aligner
    cleared c = record { placed = a.placed + 1; chunks = c; start = a.placed + 1; width = 0 }

    abbrev wider : ℕ → Aligner
    wider c = record { placed = a.placed + 1; chunks = c; start = a.start; width = a.width + v }

    bits_cases : (m : ℕ) (t d : Bool) → (t ≡ true → d ≡ true → k < n)
        → after (record {
          number = m;
          left = pick t (pick d (world (cleared (near k n + 1)) laid
              (put chunk_size (near k n) (chunk_words 1 a.start (a.placed + 1 - a.start) (a.width + v) 0) blank))
              (world (wider (near k n)) laid blank)) w;
        })
        ≡ record { number = m; left = pick t (pick d (record_world (cleared (k + 1)) laid (set rs k packed)) (record_world (wider k) laid rs)) h }
    bits_cases m true true f = took (f refl refl) m (cleared 0) laid packed
    bits_cases m true false f = kept m (wider 0) laid blank
    bits_cases m false d f = kept m a ps blank

    bits_after : after (call (add_bitfield s v) w) ≡ call_to (add_bitfield s v) h
    unfolding call call_to bits_done bits_to
    bits_after =
        rw (same_bits a ps (flat rs) n rows v)
        (bits_cases (bits_number v (words h)) (eqb (bits_number v (words h)) 0) (due (a.width + v))
        (λ t d. fewer ((bits_fit v (words h) (eqb-true _ _ t)).chunk d)))

  chunk_after : (m kind s v : ℕ) → (m ≡ 0 → k < n) → after (meaning.settled m (chunk_done kind s v w) w)
      ≡ record { number = m; left = pick (eqb m 0) (chunk_to kind s v h) h }
  unfolding chunk_done chunk_to
  chunk_after m kind s v f = cases (eqb m 0) (λ t. f (eqb-true _ _ t))
    where
      cases : (t : Bool) → (t ≡ true → k < n)
          → after (record {
            number = m;
            left = pick t (world (with_chunks a (near k n + 1)) ps
                (put chunk_size (near k n) (chunk_words kind 0 0 v s) blank)) w;
          })
          ≡ record {
            number = m;
            left = pick t
                (record_world (with_chunks a (k + 1)) ps (set rs k (record { kind = kind; first = 0; count = 0; width = v; symbol = s }))) h;
          }
      cases true g = took (g refl) m a ps (record { kind = kind; first = 0; count = 0; width = v; symbol = s })
      cases false g = kept m a ps blank

  bytes_after : (s v : ℕ) → after (call (add_bytes s v) w) ≡ call_to (add_bytes s v) h
  unfolding call call_to
  bytes_after s v = rw (same_bytes a ps (flat rs) n rows v) (chunk_after (bytes_number v (words h)) 2 s v (λ z. fewer (bytes_fit v (words h) z).chunk))

  dyn_after : (s : ℕ) → after (call (add_dyn_bytes s) w) ≡ call_to (add_dyn_bytes s) h
  unfolding call call_to
  dyn_after s = rw (same_dyn a ps (flat rs) n rows) (chunk_after (dyn_number (words h)) 3 s 0 (λ z. fewer (dyn_fit (words h) z).chunk))

  -- every call, over these records
  tells : (c : Call) → after (call c w) ≡ call_to c h
  unfolding call call_to
  tells (add_bitfield s v) = bits_after s v
  tells (add_bytes s v) = bytes_after s v
  tells (add_dyn_bytes s) = dyn_after s
  tells align = rw (same_end a ps (flat rs) n rows) (cases (end_number (words h)) (eqb (end_number (words h)) 0))
    where
      cases : (m : ℕ) (t : Bool) → after (record { number = m; left = pick t w w }) ≡ record { number = m; left = pick t h h }
      cases m true = kept m a ps blank
      cases m false = kept m a ps blank

-- ---- what a call over records leaves, from what the core left of the one row
module _ (c : Call) (a : Aligner) (ps : List ℕ) (rs : List Chunk) (ps' row : List ℕ) where
  abbrev b : Aligner
  b = near_state a (length rs)

  abbrev asked : meaning.Called
  asked = call c (world b ps blank)

  settled : (o : meaning.Called) → o ≡ asked → flattened (after a ps rs (length rs) refl o) ≡ call c (world a ps (flat rs))
  settled o q = ap flattened (ap (after a ps rs (length rs) refl) q ∙ tells a ps rs (length rs) refl c) ∙ same_words c (record_world a ps rs)

  pub left_refused : (e : Refusal) → called b (Err e) ps' row ≡ asked → answered (number e) a ps' (flat rs) ≡ call c (world a ps (flat rs))
  left_refused e q = sym (ap flattened (kept a ps rs (length rs) refl (number e) a ps' row)) ∙ settled (called b (Err e) ps' row) q

  module _ (s : Aligner) (q : called b (Ok s) ps' row ≡ asked) where
    pub left_stored : a.chunks < length rs → 0 < s.chunks
        → answered 0 (with_chunks s (a.chunks + 1)) ps' (flat (set rs a.chunks (chunk_of row))) ≡ call c (world a ps (flat rs))
    left_stored l m = simp (lt-ltb _ _ l, lt-ltb _ _ m) at (settled (called b (Ok s) ps' row) q)

    pub left_kept : (a.chunks < length rs × s.chunks ≤ 0) ⊎ (length rs ≤ a.chunks)
        → answered 0 (with_chunks s a.chunks) ps' (flat rs) ≡ call c (world a ps (flat rs))
    left_kept (inl m) = simp (lt-ltb _ _ m.0, le-ltb _ _ m.1) at (settled (called b (Ok s) ps' row) q)
    left_kept (inr l) = simp (le-ltb _ _ l) at (settled (called b (Ok s) ps' row) q)

-- ---- the end: b is the state as over one row
module _ (a : Aligner) (ps : List ℕ) (rs : List Chunk) (b : Aligner) (d : b ≡ near_state a (length rs)) where
  same_number : end_number (world b ps blank) ≡ end_number (world a ps (flat rs))
  same_number = rw d (same_end a ps (flat rs) (length rs) (flat_rows rs))

  pub end_refused : (e : Refusal) → finished (Err e) ≡ ended b ps blank → finished (Err e) ≡ ended a ps (flat rs)
  unfolding ended
  end_refused e q = rw (← ap (λ (x : Ended). x.number) q ∙ same_number) (simp (not_zero e))

  pub end_accepted : (n : ℕ) → finished (Ok n) ≡ ended b ps blank → finished (Ok a.chunks) ≡ ended a ps (flat rs)
  unfolding ended
  end_accepted n q = let z : 0 ≡ end_number (world a ps (flat rs)) = ap (λ (x : Ended). x.number) q ∙ same_number in rw (← z) refl
