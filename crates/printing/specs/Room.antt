-- How much room lines take, and that a text that has its room stands on the page whole.
use Rattle.std.specs.Prelude.{ℕ, zero, suc, ◌+◌, ◌*◌, ◌-◌, ◌/◌, ◌%◌, ◌≤◌, ◌<◌, ◌≡◌, refl, List, [], ◌∷◌, ◌++◌, Bool, true, false, ltb, length, get_or, take, drop, set}
use Rattle.std.proofs.Common.{sym, ap, ◌∙◌, append-nil, add-one, arith, length-append, length-drop, length-set, take-suc-set, length-take-le, lt-ltb, ltb-false}
use Rattle.std.proofs.Math.Seq.{append_snoc}
use Rattle.meaning.specs.Choice.{pick}
use Rattle.meaning.specs.Tables.{Table, size}
use Rattle.printing.specs.declared.pages.Page as lent
use Rattle.printing.specs.Pages.{Page, page, put, wrote, sheet, Wrote}
use Rattle.printing.specs.Lines.{digits_of, decimal, words, line, lines}
use Rattle.printing.specs.Answers.{reading}

-- ---- a text that has its room
put_fits : (b : ℕ) (p : Page) → p.used < length p.bytes → put b p ≡ page (p.used + 1) (set p.bytes p.used b)
unfolding put
put_fits b p h = rw (lt-ltb p.used (length p.bytes) h)

stands : (text : List ℕ) (p : Page) → p.used + length text ≤ length p.bytes
    → ((wrote text p).used ≡ p.used + length text) × (take (p.used + length text) (wrote text p).bytes ≡ take p.used p.bytes ++ text)
unfolding wrote
stands [] p h = let e : p.used + 0 ≡ p.used = omega arith in (sym e, rw e (sym (append-nil _)))
stands (b ∷ bs) p h =
    let u : ℕ = p.used in
    let room : u < length p.bytes = omega arith in
    let e : u + suc (length bs) ≡ u + 1 + length bs = omega arith in
    let q : Page = page (u + 1) (set p.bytes u b) in
    let front : take (u + 1) (set p.bytes u b) ≡ take u p.bytes ++ (b ∷ []) = rw (add-one u) (take-suc-set p.bytes u b room) in
    let rest = stands bs q (rw length-set (omega arith)) in
    let w : wrote (b ∷ bs) p ≡ wrote bs q = ap (wrote bs) (put_fits b p room) in (
      ap (λ (z : Page). z.used) w ∙ rest.0 ∙ sym e,
      ap (λ (n : ℕ). take n (wrote (b ∷ bs) p).bytes) e ∙ ap (λ (z : Page). take (u + 1 + length bs) z.bytes) w ∙ rest.1
          ∙ ap (λ (z : List ℕ). z ++ bs) front
          ∙ append_snoc (take u p.bytes) b bs,
    )

-- the whole text, and nothing else, is what a function wrote that began with an empty page
pub whole : {text : List ℕ} {before after : lent.Page} → Wrote text before after → before.at ≡ 0 → length text ≤ length before.bytes.now
    → (after.at ≡ length text) × (take after.at after.bytes.now ≡ text)
whole {text} {before} {after} w z h =
    let s = stands text (sheet before) (omega arith) in
    let n : after.at ≡ before.at + length text = ap (λ (x : Page). x.used) w.is ∙ s.0 in (
      omega arith,
      ap (λ (x : Page). take after.at x.bytes) w.is ∙ ap (λ (k : ℕ). take k (wrote text (sheet before)).bytes) n ∙ s.1
          ∙ ap (λ (k : ℕ). take k before.bytes.now ++ text) z,
    )

-- ---- the room of lines
pub digits_room : (f n : ℕ) → length (digits_of f n) ≤ f
unfolding digits_of
digits_room zero n = omega arith
digits_room (suc f) n = go (digits_room f (n / 10)) (ltb n 10)
  where
    go : length (digits_of f (n / 10)) ≤ f → (b : Bool) → length (pick b ((48 + n) ∷ []) (digits_of f (n / 10) ++ ((48 + n % 10) ∷ []))) ≤ suc f
    go h true = omega arith
    go h false = simp length-append (omega arith)

words_room : (ws : List ℕ) → length (words ws) ≤ 21 * length ws
unfolding words
words_room [] = omega arith
words_room (w ∷ ws) =
    let d : length (decimal w) ≤ 20 = digits_room 20 w in
    let h : length (words ws) ≤ 21 * length ws = words_room ws in
    simp length-append (omega arith)

pub line_room : (letter : ℕ) (ws : List ℕ) → length (line letter ws) ≤ 21 * length ws + 2
line_room letter ws = let h : length (words ws) ≤ 21 * length ws = words_room ws in simp length-append (omega arith)

-- a word takes 23 bytes at most, for a row has one word at least
lines_room : (letter size k : ℕ) (t : List ℕ) → 0 < size → length (lines letter size k t) ≤ 23 * length t
unfolding lines
lines_room letter size zero t z = omega arith
lines_room letter size (suc k) t z = go (lines_room letter size k (drop size t) z) (ltb (length t) size) refl
  where
    go : length (lines letter size k (drop size t)) ≤ 23 * length (drop size t) → (b : Bool) → ltb (length t) size ≡ b
        → length (pick b [] (line letter (take size t) ++ lines letter size k (drop size t))) ≤ 23 * length t
    go m true e = omega arith
    go m false e =
        let h : size ≤ length t = ltb-false (length t) size e in
        let a : length (take size t) ≡ size = length-take-le size t h in
        let d : length (drop size t) ≡ length t - size = length-drop size t in
        let l : length (line letter (take size t)) ≤ 21 * length (take size t) + 2 = line_room letter (take size t) in
        rw (length-append (line letter (take size t)) (lines letter size k (drop size t))) (omega arith)

-- the lines of an accepted source, by the words of its tables
pub reading_room : (e counts ds fs ts cs ms : List ℕ)
    → length (reading e counts ds fs ts cs ms) ≤ 21 * length e + 2 + 23 * (length ds + length fs + length ts + length cs + length ms)
reading_room e counts ds fs ts cs ms =
    let w : length (words e) ≤ 21 * length e = words_room e in
    let d : length (lines 68 (size Table.declarations) (get_or counts 0 0) ds) ≤ 23 * length ds
    = lines_room 68 (size Table.declarations) (get_or counts 0 0) ds (omega arith) in
    let f : length (lines 70 (size Table.fields) (get_or counts 1 0) fs) ≤ 23 * length fs
    = lines_room 70 (size Table.fields) (get_or counts 1 0) fs (omega arith) in
    let t : length (lines 84 (size Table.tags) (get_or counts 2 0) ts) ≤ 23 * length ts
    = lines_room 84 (size Table.tags) (get_or counts 2 0) ts (omega arith) in
    let c : length (lines 67 (size Table.constraints) (get_or counts 3 0) cs) ≤ 23 * length cs
    = lines_room 67 (size Table.constraints) (get_or counts 3 0) cs (omega arith) in
    let m : length (lines 77 (size Table.comments) (get_or counts 4 0) ms) ≤ 23 * length ms
    = lines_room 77 (size Table.comments) (get_or counts 4 0) ms (omega arith) in
    simp length-append (omega arith)
