-- Classes of bytes, and the laws of runs and words: what an expression that takes one byte of a class takes again and again.
use Rattle.std.specs.Prelude.{ℕ, suc, ◌+◌, ◌≤◌, ◌<◌, max, ◌≡◌, refl, List, [], ◌∷◌, Bool, true, false, length, drop, get_or, eqb, Option, None, Some, slice_get, not}
use Rattle.std.proofs.Common.{arith, add-one, ap₂, sym, ◌∙◌, drop_of_length-le, drop-cons}
use Rattle.std.proofs.Math.Path.{ap}
use Rattle.meaning.specs.declared.Match.{Match}
use Rattle.meaning.specs.declared.Match.TheVariants.{Missed, Took}
use Rattle.meaning.specs.Choice.{pick, both, either}
use Rattle.meaning.specs.Peg.{Peg, lit, range, seq, alt, star, join, lift, after, or_else, again, many, within, run, bytewise}
use Rattle.meaning.specs.Pdl.{WHITESPACE, alpha, digit, hexdigit, alphanum}
use Rattle.grammar.specs.Matching.{Reads}
use Rattle.grammar.specs.Fits.{lift_le}
use Rattle.grammar.specs.Steps.{reads}
use Rattle.lexis.specs.declared.bytes.Class.{Class}
use Rattle.lexis.specs.declared.bytes.Class.TheVariants.{Space, Alpha, Alphanum, Digit, Hexdigit}

abbrev pub digitb : ℕ → Bool
digitb x = within 48 57 x

abbrev pub alphab : ℕ → Bool
alphab x = either (within 97 122 x) (within 65 90 x)

abbrev pub alphanumb : ℕ → Bool
alphanumb x = either (either (alphab x) (digitb x)) (eqb 95 x)

abbrev pub hexb : ℕ → Bool
hexb x = either (either (digitb x) (within 97 102 x)) (within 65 70 x)

abbrev pub spaceb : ℕ → Bool
spaceb x = either (either (either (eqb 32 x) (eqb 10 x)) (eqb 13 x)) (eqb 9 x)

-- the test of a class, and the grammar's rule for it
abbrev pub classed : Class → ℕ → Bool
classed Space x = spaceb x
classed Alpha x = alphab x
classed Alphanum x = alphanumb x
classed Digit x = digitb x
classed Hexdigit x = hexb x

abbrev pub one_of : Class → Peg
one_of Space = WHITESPACE
one_of Alpha = alpha
one_of Alphanum = alphanum
one_of Digit = digit
one_of Hexdigit = hexdigit

-- ---- how many bytes from the front are of a class
abbrev pub suc_if : Bool → ℕ → ℕ
suc_if true n = suc n
suc_if false n = 0

unfoldable pub span : (ℕ → Bool) → List ℕ → ℕ
span f [] = 0
span f (x ∷ t) = suc_if (f x) (span f t)

pub record Runs (f : ℕ → Bool) (t : List ℕ) (r : ℕ) : Type 0 where
  pub is : r ≡ span f t
  pub fits : r ≤ length t

pub span_le : (f : ℕ → Bool) (t : List ℕ) → span f t ≤ length t
unfolding span
span_le f [] = omega arith
span_le f (x ∷ t) = go (f x) (span_le f t)
  where
    go : (d : Bool) → span f t ≤ length t → suc_if d (span f t) ≤ suc (length t)
    go true h = omega arith
    go false h = omega arith

pub runs : (f : ℕ → Bool) (t : List ℕ) (r : ℕ) → r ≡ span f t → Runs f t r
runs f t r e = record { is = e; fits = omega (arith, span_le f t) }

-- a loop that counts
pub span_step : (f : ℕ → Bool) (t : List ℕ) (i : ℕ) → i < length t → f (get_or t i 0) ≡ true → i + span f (drop i t) ≡ i + 1 + span f (drop (i + 1) t)
unfolding span
span_step f t i h e = rw (add-one, drop-cons t i 0 h, e) (omega arith)

pub span_stop : (f : ℕ → Bool) (t : List ℕ) (i : ℕ) → i < length t → f (get_or t i 0) ≡ false → i + span f (drop i t) ≡ i
unfolding span
span_stop f t i h e = rw (drop-cons t i 0 h, e) (omega arith)

pub span_end : (f : ℕ → Bool) (t : List ℕ) (i : ℕ) → length t ≤ i → i + span f (drop i t) ≡ i
unfolding span
span_end f t i h = rw (drop_of_length-le t h) (omega arith)

-- ---- one byte: it was taken or not, and a try that failed before it was taken leaves a mark
abbrev Hit : Bool → Match → Type 0
Hit true m = (h : ℕ) × (h ≤ 1) × (m ≡ Took 1 h)
Hit false m = m ≡ Missed 1

abbrev Ones : (ℕ → Bool) → List ℕ → Match → Type 0
Ones f [] m = m ≡ Missed 1
Ones f (x ∷ t) m = Hit (f x) m

-- the expression p takes one byte of the class f
abbrev One : Peg → (ℕ → Bool) → Type 0
One p f = (t : List ℕ) → Ones f t (run p t)

hit_pick : (d : Bool) → Hit d (pick d (Took 1 0) (Missed 1))
hit_pick true = (0, omega arith, refl)
hit_pick false = refl

one_range : (lo hi : ℕ) → One (range lo hi) (λ x. within lo hi x)
unfolding run
one_range lo hi [] = refl
one_range lo hi (x ∷ t) = hit_pick (within lo hi x)

both_true : (d : Bool) → both d true ≡ d
both_true true = refl
both_true false = refl

one_byte_lem : (b : ℕ) → One (lit (b ∷ [])) (λ x. eqb b x)
unfolding run
one_byte_lem b [] = refl
one_byte_lem b (x ∷ t) = rw (both_true (eqb b x)) (hit_pick (eqb b x))

hit_alt : (d e : Bool) (m : Match) (q : List ℕ → Match) (u : List ℕ) → Hit d m → Hit e (q u) → Hit (either d e) (or_else m q u)
hit_alt true e m q u h k = (h.0, h.1, ap (λ (z : Match). or_else z q u) h.2)
hit_alt false true m q u h k =
    (max 1 (lift 0 k.0), omega (arith, lift_le 0 k.0, k.1), ap (λ (z : Match). or_else z q u) h ∙ ap (λ (z : Match). join 0 1 z) k.2)
hit_alt false false m q u h k = ap (λ (z : Match). or_else z q u) h ∙ ap (λ (z : Match). join 0 1 z) k

one_alt : (a b : Peg) (f g : ℕ → Bool) → One a f → One b g → One (alt a b) (λ x. either (f x) (g x))
unfolding run
one_alt a b f g ha hb [] = hit_alt false false (run a []) (λ u. run b u) [] (ha []) (hb [])
one_alt a b f g ha hb (x ∷ t) = hit_alt (f x) (g x) (run a (x ∷ t)) (λ u. run b u) (x ∷ t) (ha (x ∷ t)) (hb (x ∷ t))

one_class : (k : Class) → One (bytewise (one_of k)) (classed k)
unfolding WHITESPACE alpha digit hexdigit alphanum
one_class Space = one_alt _ _ _ _ (one_alt _ _ _ _ (one_alt _ _ _ _ (one_byte_lem 32) (one_byte_lem 10)) (one_byte_lem 13)) (one_byte_lem 9)
one_class Alpha = one_alt _ _ _ _ (one_range 97 122) (one_range 65 90)
one_class Alphanum = one_alt _ _ _ _ (one_alt _ _ _ _ (one_alt _ _ _ _ (one_range 97 122) (one_range 65 90)) (one_range 48 57)) (one_byte_lem 95)
one_class Digit = one_range 48 57
one_class Hexdigit = one_alt _ _ _ _ (one_alt _ _ _ _ (one_range 48 57) (one_range 97 102)) (one_range 65 70)

-- ---- a star of one byte
again_one : (d : Bool) (m : Match) (q : List ℕ → Match) (x : ℕ) (t : List ℕ) (n : ℕ) → Hit d m → q t ≡ Took n (suc n)
    → again m q (x ∷ t) ≡ Took (suc_if d n) (suc (suc_if d n))
again_one true m q x t n h e =
    let k : h.0 ≤ 1 = h.1 in
    ap (λ (z : Match). again z q (x ∷ t)) h.2 ∙ ap (λ (z : Match). join 1 h.0 z) e ∙ ap₂ Took (omega arith) (omega arith)
again_one false m q x t n h e = ap (λ (z : Match). again z q (x ∷ t)) h

many_one : (p : List ℕ → Match) (f : ℕ → Bool) → ((t : List ℕ) → Ones f t (p t)) → (t : List ℕ) → many (suc (length t)) p t ≡ Took (span f t) (suc (span f t))
unfolding many span
many_one p f h [] = ap (λ (z : Match). again z (λ u. many 0 p u) []) (h [])
many_one p f h (x ∷ t) =
    again_one (f x) (p (x ∷ t)) (λ u. many (suc (length t)) p u) x t (span f t) (h (x ∷ t)) (many_one p f h t)

pub star_one : (k : Class) (t : List ℕ) → run (star (bytewise (one_of k))) t ≡ Took (span (classed k) t) (suc (span (classed k) t))
unfolding run
star_one k t = many_one (λ u. run (bytewise (one_of k)) u) (classed k) (one_class k) t

-- ---- a word: one byte of a class, and then a run of another
after_one : (d : Bool) (m : Match) (q : List ℕ → Match) (x : ℕ) (t : List ℕ) (n : ℕ) → Hit d m → q t ≡ Took n (suc n)
    → after m q (x ∷ t) ≡ pick d (Took (suc n) (suc (suc n))) (Missed 1)
after_one true m q x t n h e =
    let k : h.0 ≤ 1 = h.1 in
    ap (λ (z : Match). after z q (x ∷ t)) h.2 ∙ ap (λ (z : Match). join 1 h.0 z) e ∙ ap₂ Took (omega arith) (omega arith)
after_one false m q x t n h e = ap (λ (z : Match). after z q (x ∷ t)) h

module _ (h k : Class) where
  word_nil : run (seq (bytewise (one_of h)) (star (bytewise (one_of k)))) [] ≡ Missed 1
  unfolding run
  word_nil = ap (λ (z : Match). after z (λ u. run (star (bytewise (one_of k))) u) []) (one_class h [])

  word_cons : (x : ℕ) (t : List ℕ)
      → run (seq (bytewise (one_of h)) (star (bytewise (one_of k)))) (x ∷ t)
      ≡ pick (classed h x) (Took (suc (span (classed k) t)) (suc (suc (span (classed k) t)))) (Missed 1)
  unfolding run
  word_cons x t =
      after_one (classed h x) (run (bytewise (one_of h)) (x ∷ t)) (λ u. run (star (bytewise (one_of k))) u) x t (span (classed k) t)
      (one_class h (x ∷ t)) (star_one k t)

  -- the three answers of the code
  pub word_none : (t : List ℕ) → length t ≡ 0 → Reads (seq (one_of h) (star (one_of k))) t (Missed 1)
  word_none [] e = reads (seq (one_of h) (star (one_of k))) [] (Missed 1) (sym word_nil)
  word_none (x ∷ t) e = absurd (omega arith)

  pub word_not : {s t : List ℕ} {x : ℕ} → s ≡ x ∷ t → classed h x ≡ false → Reads (seq (one_of h) (star (one_of k))) s (Missed 1)
  word_not {s} {t} {x} q e = rw q (reads (seq (one_of h) (star (one_of k))) (x ∷ t) (Missed 1) (sym (word_cons x t ∙ rw e)))

  pub word_is : {s t : List ℕ} {x r : ℕ} → s ≡ x ∷ t → classed h x ≡ true → Runs (classed k) t r
      → Reads (seq (one_of h) (star (one_of k))) s (Took (r + 1) (r + 2))
  word_is {s} {t} {x} {r} q e n =
      rw q
      (reads (seq (one_of h) (star (one_of k))) (x ∷ t) (Took (r + 1) (r + 2))
      (sym (word_cons x t ∙ rw (e, ← n.is) (ap₂ Took (omega arith) (omega arith)))))

-- ---- one whitespace character, the first of a text, with its mark
abbrev pub white : Option ℕ → Match
white None = Missed 1
white (Some x) = pick (eqb 32 x) (Took 1 0) (pick (spaceb x) (Took 1 1) (Missed 1))

white_is : (x : ℕ) (t : List ℕ) → run (bytewise WHITESPACE) (x ∷ t) ≡ white (Some x)
unfolding run WHITESPACE
white_is x t =
    go (eqb 32 x) (eqb 10 x) (eqb 13 x) (eqb 9 x) (λ u. run (lit (10 ∷ [])) u) (λ u. run (lit (13 ∷ [])) u) (λ u. run (lit (9 ∷ [])) u) refl refl refl
  where
    one : Bool → Match
    one d = pick (both d true) (Took 1 0) (Missed 1)

    go : (a b c d : Bool) (p q r : List ℕ → Match) → p (x ∷ t) ≡ one b → q (x ∷ t) ≡ one c → r (x ∷ t) ≡ one d
        → or_else (or_else (or_else (one a) p (x ∷ t)) q (x ∷ t)) r (x ∷ t) ≡ pick a (Took 1 0) (pick (either (either (either a b) c) d) (Took 1 1) (Missed 1))
    go true b c d p q r hp hq hr = refl
    go false true c d p q r hp hq hr = rw hp
    go false false true d p q r hp hq hr = rw (hp, hq)
    go false false false true p q r hp hq hr = rw (hp, hq, hr)
    go false false false false p q r hp hq hr = rw (hp, hq, hr)

pub white_reads : (t : List ℕ) (r : Match) → r ≡ white (slice_get t 0) → Reads WHITESPACE t r
unfolding run WHITESPACE
white_reads [] r e = reads WHITESPACE [] r e
white_reads (x ∷ t) r e = reads WHITESPACE (x ∷ t) r (e ∙ sym (white_is x t))
