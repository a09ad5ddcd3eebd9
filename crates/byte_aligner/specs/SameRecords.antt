-- The records hold the same as the word tables: every call over records leaves the words that the call over their words leaves.
use Rattle.std.specs.Prelude.{ℕ, zero, suc, ◌+◌, ◌*◌, ◌<◌, ◌≤◌, ◌≡◌, refl, List, [], ◌∷◌, ◌++◌, Bool, true, false, length, set, eqb, leb}
use Rattle.std.proofs.Common.{sym, ap, ◌∙◌, arith, leb-true, leb-false}
use Rattle.meaning.specs.declared.Aligner.{Aligner}
use Rattle.meaning.specs.Choice.{pick}
use Rattle.meaning.specs.Tables.{put, room}
use Rattle.meaning.specs.Rows.{chunk_size}
use Rattle.meaning.specs.Alignment.{World, world, due, bits_number, bytes_number, dyn_number, end_number, bits_done, chunk_done, Called, settled, call, Call, add_bitfield, add_bytes, add_dyn_bytes, align}
use Rattle.ast.specs.RowLaws.{put_fits, put_short}
use Rattle.byte_aligner.specs.declared.Chunk.{Chunk}
use Rattle.byte_aligner.specs.Records.{row, flat, RecordWorld, record_world, words, bits_to, chunk_to, Recorded, settled_to, call_to}

pub flat_length : (rs : List Chunk) → length (flat rs) ≡ length rs * chunk_size
unfolding flat
flat_length [] = refl
flat_length (c ∷ cs) = let h = flat_length cs in omega arith

-- as many rows as records
pub flat_rows : (rs : List Chunk) → room chunk_size (flat rs) ≡ length rs
flat_rows rs = omega (arith, flat_length rs)

-- a row put behind the first is put in the rest
put_past : (a b c d e k : ℕ) (ws t : List ℕ) → put chunk_size (suc k) ws (a ∷ b ∷ c ∷ d ∷ e ∷ t) ≡ a ∷ b ∷ c ∷ d ∷ e ∷ put chunk_size k ws t
put_past a b c d e k ws t = cases (leb (k * chunk_size + chunk_size) (length t)) refl
  where
    at : suc k * chunk_size ≡ suc (suc (suc (suc (suc (k * chunk_size)))))
    at = omega arith

    end : suc (suc (suc (suc (suc (k * chunk_size))))) + chunk_size ≡ suc (suc (suc (suc (suc (k * chunk_size + chunk_size)))))
    end = omega arith

    cases : (z : Bool) → leb (k * chunk_size + chunk_size) (length t) ≡ z → put chunk_size (suc k) ws (a ∷ b ∷ c ∷ d ∷ e ∷ t)
        ≡ a ∷ b ∷ c ∷ d ∷ e ∷ put chunk_size k ws t
    cases true h =
        let l : k * chunk_size + chunk_size ≤ length t = leb-true _ _ h in
        put_fits chunk_size (suc k) ws (a ∷ b ∷ c ∷ d ∷ e ∷ t) (omega arith) ∙ rw (at, end, put_fits chunk_size k ws t l)
    cases false h =
        let l : length t < k * chunk_size + chunk_size = leb-false _ _ h in
        put_short chunk_size (suc k) ws (a ∷ b ∷ c ∷ d ∷ e ∷ t) (omega arith) ∙ rw (put_short chunk_size k ws t l)

-- a record stored is its row put
pub flat_set : (rs : List Chunk) (k : ℕ) (c : Chunk) → flat (set rs k c) ≡ put chunk_size k (row c) (flat rs)
unfolding flat
flat_set [] k c = sym (put_short chunk_size k (row c) [] (omega arith))
flat_set (x ∷ xs) zero c = sym (put_fits chunk_size 0 (row c) (row x ++ flat xs) (omega arith))
flat_set (x ∷ xs) (suc k) c =
    ap (λ (l : List ℕ). row x ++ l) (flat_set xs k c)
    ∙ sym (put_past x.kind x.first x.count x.width x.symbol k (row c) (flat xs))

-- an answer over records, with their words
abbrev pub flattened : Recorded → Called
flattened r = record { number = r.number; left = words r.left }

settles : (n : ℕ) (x y : RecordWorld) (z : World) → words x ≡ z → flattened (settled_to n x y) ≡ settled n z (words y)
settles n x y z e = cases (eqb n 0)
  where
    cases : (t : Bool) → ◌≡◌ {A = Called} (record { number = n; left = words (pick t x y) }) (record { number = n; left = pick t z (words y) })
    cases true = ap (λ (w : World). record { number = n; left = w }) e
    cases false = refl

bits_same : (s v : ℕ) (h : RecordWorld) → words (bits_to s v h) ≡ bits_done s v (words h)
unfolding bits_to bits_done
bits_same s v h = cases (due (h.st.width + v)) _ _ _ _
  where
    cases : (d : Bool) (a b : Aligner) (ps : List ℕ) (c : Chunk)
        → words (pick d (record_world a ps (set h.rs h.st.chunks c)) (record_world b ps h.rs))
        ≡ pick d (world a ps (put chunk_size h.st.chunks (row c) (flat h.rs))) (world b ps (flat h.rs))
    cases true a b ps c = ap (λ (l : List ℕ). world a ps l) (flat_set h.rs h.st.chunks c)
    cases false a b ps c = refl

chunk_same : (k s v : ℕ) (h : RecordWorld) → words (chunk_to k s v h) ≡ chunk_done k s v (words h)
unfolding chunk_to chunk_done
chunk_same k s v h = ap (λ (l : List ℕ). world (chunk_to k s v h).st h.ps l) (flat_set h.rs h.st.chunks _)

-- the answer, the state, the placed words and the words of the records, for every call
pub same_words : (c : Call) (h : RecordWorld) → flattened (call_to c h) ≡ call c (words h)
unfolding call_to call
same_words (add_bitfield s v) h = settles (bits_number v (words h)) _ h _ (bits_same s v h)
same_words (add_bytes s v) h = settles (bytes_number v (words h)) _ h _ (chunk_same 2 s v h)
same_words (add_dyn_bytes s) h = settles (dyn_number (words h)) _ h _ (chunk_same 3 s 0 h)
same_words align h = settles (end_number (words h)) h h _ refl
