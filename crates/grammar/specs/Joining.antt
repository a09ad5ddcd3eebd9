-- One byte for ANY, or one character: in `(!x ~ ANY)*` with x ASCII it is the same on whole characters.
use Rattle.std.specs.Prelude.{ℕ, zero, suc, ◌+◌, ◌≤◌, max, ◌≡◌, List, [], ◌∷◌, Bool, true, false, length, drop, leb, eqb}
use Rattle.std.proofs.Common.{arith, ap, subst, sym, ◌∙◌, le-leb, ne_eqb, leb-true, eqb-true, drop-drop}
use Rattle.std.proofs.Math.Path.{refl}
use Rattle.meaning.specs.declared.Match.{Match}
use Rattle.meaning.specs.declared.Match.TheVariants.{Missed, Took}
use Rattle.meaning.specs.Choice.{pick, both}
use Rattle.meaning.specs.Utf8.{character, formed, has, holds, Octet, ascii_form, wide_forms}
use Rattle.meaning.specs.Rules.{Rule}
use Rattle.meaning.specs.Peg.{Peg, lit, any, any_byte, neg, seq, star, prefixb, lift, one_byte, one_letter, at_end, within}
use Rattle.meaning.specs.Forest.{Forest, nil, Out, missed, took, leaf, join_o, after_o, or_else_o, maybe_o, turned_o, hushed_o, again_o, note_o, many_o, eval}
use Rattle.grammar.specs.Picks.{both_1, both_2}
use Rattle.grammar.specs.Fits.{lift_0, join_join}
use Rattle.grammar.specs.Stars.{unroll_o}

-- ---- texts made of whole characters
pub data Chars : List ℕ → Type 0 where
  done : Chars []
  char : (t : List ℕ) (n : ℕ) → character t ≡ suc n → Chars (drop (suc n) t) → Chars t

-- the first n bytes are no ASCII
abbrev pub High : ℕ → List ℕ → Type 0
High zero t = Unit {0}
High (suc n) [] = ⊥
High (suc n) (y ∷ t) = (128 ≤ y) × High n t

abbrev pub high : List Octet → Bool
high [] = true
high (r ∷ rs) = both (leb 128 r.least) (high rs)

abbrev pub highs : List (List Octet) → Bool
highs [] = true
highs (f ∷ fs) = both (high f) (highs fs)

high_has : (f : List Octet) (t : List ℕ) → high f ≡ true → has f t ≡ true → High (length f) t
high_has [] t e h = tt
high_has (r ∷ f) [] e h = absurd (let z : ◌≡◌ {A = ℕ} 0 1 = cc in omega arith)
high_has (r ∷ f) (y ∷ t) e h =
    let a = leb-true 128 r.least (both_1 (leb 128 r.least) (high f) e) in
    let b = leb-true r.least y (both_1 (leb r.least y) (leb y r.most) (both_1 (holds r y) (has f t) h)) in
    (omega arith, high_has f t (both_2 (leb 128 r.least) (high f) e) (both_2 (holds r y) (has f t) h))

pick_high : (b : Bool) (f : List Octet) (k n : ℕ) (t : List ℕ) → (b ≡ true → High (length f) t) → (k ≡ n → High n t) → pick b (length f) k ≡ n → High n t
pick_high true f k n t g h e = subst (λ (m : ℕ). High m t) e (g refl)
pick_high false f k n t g h e = h e

formed_high : (fs : List (List Octet)) (t : List ℕ) (n : ℕ) → highs fs ≡ true → formed fs t ≡ n → High n t
formed_high [] t n e h = subst (λ (m : ℕ). High m t) h tt
formed_high (f ∷ fs) t n e h =
    pick_high (has f t) f (formed fs t) n t (λ p. high_has f t (both_1 (high f) (highs fs) e) p) (λ p. formed_high fs t n (both_2 (high f) (highs fs) e) p) h

-- a character is one byte, or its bytes are no ASCII
data Kind (n : ℕ) (t : List ℕ) : Type 0 where
  one : n ≡ 0 → Kind n t
  wide : High (suc n) t → Kind n t

kind_pick : (b : Bool) (k n : ℕ) (t : List ℕ) → (k ≡ suc n → High (suc n) t) → pick b 1 k ≡ suc n → Kind n t
kind_pick true k n t h e = one (omega arith)
kind_pick false k n t h e = wide (h e)

kind : (t : List ℕ) (n : ℕ) → character t ≡ suc n → Kind n t
unfolding character
kind t n e = kind_pick (has ascii_form t) (formed wide_forms t) n t (λ h. formed_high wide_forms t (suc n) refl h) e

ascii_one : (y : ℕ) (t : List ℕ) → y ≤ 127 → character (y ∷ t) ≡ 1
unfolding character
ascii_one y t h = rw (le-leb 0 y (omega arith), le-leb y 127 h)

-- ---- past an ASCII byte, and past an ASCII text
past_one : {s : List ℕ} → Chars s → (y : ℕ) (t : List ℕ) → s ≡ y ∷ t → y ≤ 127 → Chars t
past_one done y t e h = absurd (let z : ◌≡◌ {A = ℕ} 0 (suc (length t)) = ap length e in omega arith)
past_one (char s n q c) y t e h =
    let a : 1 ≡ suc n = sym (ascii_one y t h) ∙ ap character (sym e) ∙ q in
    let b : n ≡ 0 = omega arith in
    subst Chars (ap (λ (k : ℕ). drop (suc k) s) b ∙ ap (drop 1) e) c

abbrev pub asciis : List ℕ → Bool
asciis [] = true
asciis (x ∷ l) = both (leb x 127) (asciis l)

pub past_text : (l t : List ℕ) → asciis l ≡ true → prefixb l t ≡ true → Chars t → Chars (drop (length l) t)
past_text [] t a h c = c
past_text (x ∷ l) [] a h c = absurd (let z : ◌≡◌ {A = ℕ} 0 1 = cc in omega arith)
past_text (x ∷ l) (y ∷ t) a h c =
    let e = eqb-true x y (both_1 (eqb x y) (prefixb l t) h) in
    let k = leb-true x 127 (both_1 (leb x 127) (asciis l) a) in
    past_text l t (both_2 (leb x 127) (asciis l) a) (both_2 (eqb x y) (prefixb l t) h) (past_one c y t refl (omega arith))

-- ---- what is left after a match is made of whole characters too
abbrev pub Keeps : Out → List ℕ → Type 0
Keeps (missed f) t = Unit {0}
Keeps (took n f w) t = Chars (drop n t)

keeps_join : (n f : ℕ) (w : Forest) (x : Out) (t : List ℕ) → Keeps x (drop n t) → Keeps (join_o n f w x) t
keeps_join n f w (missed g) t h = tt
keeps_join n f w (took k g v) t h = subst Chars (drop-drop k n t) h

-- p' reads as p does
abbrev pub Alike : (ℕ → List ℕ → Out) → (ℕ → List ℕ → Out) → Type 0
Alike p' p = (i : ℕ) (u : List ℕ) → Chars u → (p' i u ≡ p i u) × Keeps (p i u) u

module _ (p' p : ℕ → List ℕ → Out) (h : Alike p' p) where
  pub alike_after : (x : Out) (o : ℕ) (t : List ℕ) → Keeps x t → (after_o x p' o t ≡ after_o x p o t) × Keeps (after_o x p o t) t
  alike_after (missed f) o t k = (refl, tt)
  alike_after (took n f w) o t k = let r = h (o + n) (drop n t) k in (ap (λ (y : Out). join_o n f w y) r.0, keeps_join n f w (p (o + n) (drop n t)) t r.1)

  pub alike_or_else : (x : Out) (o : ℕ) (t : List ℕ) → Chars t → Keeps x t → (or_else_o x p' o t ≡ or_else_o x p o t) × Keeps (or_else_o x p o t) t
  alike_or_else (missed f) o t c k = let r = h o t c in (ap (λ (y : Out). join_o 0 f nil y) r.0, keeps_join 0 f nil (p o t) t r.1)
  alike_or_else (took n f w) o t c k = (refl, k)

  alike_again : (x : Out) (o : ℕ) (t : List ℕ) → Chars t → Keeps x t → (again_o x p' o t ≡ again_o x p o t) × Keeps (again_o x p o t) t
  alike_again (missed f) o t c k = (refl, c)
  alike_again (took n f w) o t c k = let r = h (o + n) (drop n t) k in (
    ap (λ (y : Out). join_o n f w y) r.0,
    keeps_join n f w (p (o + n) (drop n t)) t
        r.1,
  )

pub alike_many : (p' p : ℕ → List ℕ → Out) → Alike p' p → (k : ℕ) → Alike (λ i u. many_o k p' i u) (λ i u. many_o k p i u)
unfolding many_o
alike_many p' p h zero o t c = (refl, c)
alike_many p' p h (suc k) o t c =
    let r = h o t c in
    let q = alike_again (λ i u. many_o k p' i u) (λ i u. many_o k p i u) (alike_many p' p h k) (p o t) o t c r.1 in
    (ap (λ (x : Out). again_o x (λ i u. many_o k p' i u) o t) r.0 ∙ q.0, q.1)

pub keeps_maybe : (x : Out) (t : List ℕ) → Chars t → Keeps x t → Keeps (maybe_o x) t
keeps_maybe (missed f) t c k = c
keeps_maybe (took n f w) t c k = k

pub keeps_turned : (x : Out) (t : List ℕ) → Chars t → Keeps (turned_o x) t
keeps_turned (missed f) t c = c
keeps_turned (took n f w) t c = tt

pub keeps_hushed : (x : Out) (t : List ℕ) → Keeps x t → Keeps (hushed_o x) t
keeps_hushed (missed f) t k = k
keeps_hushed (took n f w) t k = k

pub keeps_note : (r : Rule) (o : ℕ) (x : Out) (t : List ℕ) → Keeps x t → Keeps (note_o r o x) t
keeps_note r o (missed f) t k = k
keeps_note r o (took n f w) t k = k

pub keeps_lit : (b : Bool) (n : ℕ) (t : List ℕ) → (b ≡ true → Chars (drop n t)) → Keeps (leaf (pick b (Took n 0) (Missed 1))) t
keeps_lit true n t h = h refl
keeps_lit false n t h = tt

pub keeps_range : (lo hi : ℕ) (t : List ℕ) → hi ≤ 127 → Chars t → Keeps (leaf (one_byte (within lo hi) t)) t
keeps_range lo hi [] h c = tt
keeps_range lo hi (y ∷ t) h c =
    keeps_lit (within lo hi y) 1 (y ∷ t) (λ e. let k = leb-true y hi (both_2 (leb lo y) (leb y hi) e) in past_one c y t refl (omega arith))

pub keeps_end : (t : List ℕ) → Chars t → Keeps (leaf (at_end t)) t
keeps_end [] c = c
keeps_end (y ∷ t) c = tt

-- ---- (!x ~ ANY)* with x ASCII
mark_of : Match → ℕ
mark_of (Missed f) = f
mark_of (Took n f) = f

taken_of : Match → ℕ
taken_of (Missed f) = 0
taken_of (Took n f) = n

join_0 : (x : Out) → join_o 0 0 nil x ≡ x
join_0 (missed g) = ap missed (rw (lift_0 g) (omega arith))
join_0 (took k g v) = ap (λ (m : ℕ). took m (max 0 (lift 0 g)) v) (omega arith) ∙ ap (λ (m : ℕ). took k m v) (rw (lift_0 g) (omega arith))

joins_add : (n k : ℕ) (x : Out) → join_o n 0 nil (join_o k 0 nil x) ≡ join_o (n + k) 0 nil x
unfolding mark_of taken_of
joins_add n k (missed h) = ap (λ (m : Match). missed (mark_of m)) (join_join n 0 k 0 (Missed h))
joins_add n k (took j h v) = ap (λ (m : Match). took (taken_of m) (mark_of m) v) (join_join n 0 k 0 (Took j h))

abbrev guard : Bool → ℕ → (ℕ → List ℕ → Out) → ℕ → List ℕ → Out
guard b n q o t = after_o (turned_o (leaf (pick b (Took n 0) (Missed 1)))) q o t

abbrev a_byte : ℕ → List ℕ → Out
a_byte i u = leaf (one_byte (λ x. true) u)

abbrev a_char : ℕ → List ℕ → Out
a_char i u = leaf (one_letter (character u))

stop : (b : Bool) (n : ℕ) (q e : ℕ → List ℕ → Out) (o : ℕ) (t : List ℕ) → b ≡ true → again_o (guard b n q o t) e o t ≡ took 0 0 nil
stop true n q e o t h = refl
stop false n q e o t h = absurd (let z : ◌≡◌ {A = ℕ} 0 1 = cc in omega arith)

byte_step : (b : Bool) (n : ℕ) (e : ℕ → List ℕ → Out) (o y : ℕ) (t : List ℕ) → b ≡ false
    → again_o (guard b n a_byte o (y ∷ t)) e o (y ∷ t) ≡ join_o 1 0 nil (e (o + 1) t)
byte_step true n e o y t h = absurd (let z : ◌≡◌ {A = ℕ} 0 1 = cc in omega arith)
byte_step false n e o y t h = refl

letter_step : (c n : ℕ) (e : ℕ → List ℕ → Out) (o : ℕ) (t : List ℕ) → suc n ≡ c
    → again_o (join_o 0 0 nil (leaf (one_letter c))) e o t ≡ join_o (suc n) 0 nil (e (o + suc n) (drop (suc n) t))
letter_step zero n e o t h = absurd (omega arith)
letter_step (suc m) n e o t h = ap (λ (k : ℕ). join_o k 0 nil (e (o + k) (drop k t))) (omega arith)

char_step : (b : Bool) (m n : ℕ) (e : ℕ → List ℕ → Out) (o : ℕ) (t : List ℕ) → b ≡ false → character t ≡ suc n
    → again_o (guard b m a_char o t) e o t ≡ join_o (suc n) 0 nil (e (o + suc n) (drop (suc n) t))
char_step true m n e o t h q = absurd (let z : ◌≡◌ {A = ℕ} 0 1 = cc in omega arith)
char_step false m n e o t h q = letter_step (character t) n e o t (sym q)

both_no : (a b : Bool) → a ≡ false → both a b ≡ false
both_no true b e = absurd (let z : ◌≡◌ {A = ℕ} 0 1 = cc in omega arith)
both_no false b e = refl

no_char : (n : ℕ) → character [] ≡ suc n → ⊥
unfolding character
no_char n e = omega arith

module _ (x : ℕ) (l : List ℕ) (hx : x ≤ 127) where
  abbrev pub by_byte : Peg
  by_byte = seq (neg (lit (x ∷ l))) any_byte

  abbrev pub by_char : Peg
  by_char = seq (neg (lit (x ∷ l))) any

  turn_byte : (o : ℕ) (t : List ℕ)
      → eval (star by_byte) o t ≡ again_o (guard (prefixb (x ∷ l) t) (length (x ∷ l)) a_byte o t) (λ i u. eval (star by_byte) i u) o t
  unfolding eval
  turn_byte o t = unroll_o by_byte refl o t

  turn_char : (o : ℕ) (t : List ℕ)
      → eval (star by_char) o t ≡ again_o (guard (prefixb (x ∷ l) t) (length (x ∷ l)) a_char o t) (λ i u. eval (star by_char) i u) o t
  unfolding eval
  turn_char o t = unroll_o by_char refl o t

  step_byte : (o y : ℕ) (t : List ℕ) → prefixb (x ∷ l) (y ∷ t) ≡ false → eval (star by_byte) o (y ∷ t) ≡ join_o 1 0 nil (eval (star by_byte) (o + 1) t)
  step_byte o y t h = turn_byte o (y ∷ t) ∙ byte_step (prefixb (x ∷ l) (y ∷ t)) (length (x ∷ l)) (λ i u. eval (star by_byte) i u) o y t h

  -- over bytes that are no ASCII
  run_high : (n : ℕ) (t : List ℕ) (o : ℕ) → High n t → eval (star by_byte) o t ≡ join_o n 0 nil (eval (star by_byte) (o + n) (drop n t))
  run_high zero t o h = sym (join_0 (eval (star by_byte) o t)) ∙ ap (λ (k : ℕ). join_o 0 0 nil (eval (star by_byte) k t)) (omega arith)
  run_high (suc n) [] o h = absurd h
  run_high (suc n) (y ∷ t) o h =
      let a : 128 ≤ y = h.0 in
      step_byte o y t (both_no (eqb x y) (prefixb l t) (ne_eqb x y (λ e. omega arith)))
      ∙ ap (λ (z : Out). join_o 1 0 nil z) (run_high n t (o + 1) h.1)
      ∙ joins_add 1 n (eval (star by_byte) (o + 1 + n) (drop n t))
      ∙ ap (λ (k : ℕ). join_o k 0 nil (eval (star by_byte) (o + 1 + n) (drop n t))) (omega arith)
      ∙ ap (λ (k : ℕ). join_o (suc n) 0 nil (eval (star by_byte) k (drop n t))) (omega arith)

  one_byte_lem : (t : List ℕ) (n o : ℕ) → character t ≡ suc n → n ≡ 0 → prefixb (x ∷ l) t ≡ false
      → eval (star by_byte) o t ≡ join_o (suc n) 0 nil (eval (star by_byte) (o + suc n) (drop (suc n) t))
  one_byte_lem [] n o e z h = absurd (no_char n e)
  one_byte_lem (y ∷ t) n o e z h = step_byte o y t h ∙ ap (λ (k : ℕ). join_o (suc k) 0 nil (eval (star by_byte) (o + suc k) (drop (suc k) (y ∷ t)))) (sym z)

  over_kind : (t : List ℕ) (n o : ℕ) → character t ≡ suc n → Kind n t → prefixb (x ∷ l) t ≡ false
      → eval (star by_byte) o t ≡ join_o (suc n) 0 nil (eval (star by_byte) (o + suc n) (drop (suc n) t))
  over_kind t n o e (one z) h = one_byte_lem t n o e z h
  over_kind t n o e (wide w) h = run_high (suc n) t o w

  upto_one : (b : Bool) (t : List ℕ) (n o : ℕ) → prefixb (x ∷ l) t ≡ b → character t ≡ suc n → Chars t
      → (eval (star by_byte) (o + suc n) (drop (suc n) t) ≡ eval (star by_char) (o + suc n) (drop (suc n) t))
      × Keeps (eval (star by_char) (o + suc n) (drop (suc n) t)) (drop (suc n) t)
      → (eval (star by_byte) o t ≡ eval (star by_char) o t) × Keeps (eval (star by_char) o t) t
  upto_one true t n o b e c r =
      let p = turn_byte o t ∙ stop (prefixb (x ∷ l) t) (length (x ∷ l)) a_byte (λ i u. eval (star by_byte) i u) o t b in
      let q = turn_char o t ∙ stop (prefixb (x ∷ l) t) (length (x ∷ l)) a_char (λ i u. eval (star by_char) i u) o t b in
      (p ∙ sym q, subst (λ (z : Out). Keeps z t) (sym q) c)
  upto_one false t n o b e c r =
      let p = over_kind t n o e (kind t n e) b in
      let q = turn_char o t ∙ char_step (prefixb (x ∷ l) t) (length (x ∷ l)) n (λ i u. eval (star by_char) i u) o t b e in (
        p ∙ ap (λ (z : Out). join_o (suc n) 0 nil z) r.0 ∙ sym q,
        subst (λ (z : Out). Keeps z t) (sym q) (keeps_join (suc n) 0 nil (eval (star by_char) (o + suc n) (drop (suc n) t)) t r.1),
      )

  upto_end : (o : ℕ) → (eval (star by_byte) o [] ≡ eval (star by_char) o []) × Keeps (eval (star by_char) o []) []
  unfolding eval many_o character
  upto_end o = (refl, done)

  pub upto : {t : List ℕ} → Chars t → (o : ℕ) → (eval (star by_byte) o t ≡ eval (star by_char) o t) × Keeps (eval (star by_char) o t) t
  upto done o = upto_end o
  upto (char t n e c) o = upto_one (prefixb (x ∷ l) t) t n o refl e (char t n e c) (upto c (o + suc n))
