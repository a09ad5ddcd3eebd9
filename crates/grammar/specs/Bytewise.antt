-- The whole grammar, by bytes and by characters: the theorem that joins the matchers' promises with the meaning.
use Rattle.std.specs.Prelude.{ℕ, zero, suc, ◌+◌, ◌≤◌, ◌<◌, ◌≡◌, refl, List, [], ◌∷◌, Bool, true, false, length, drop, leb}
use Rattle.std.proofs.Common.{arith, ap, ◌∙◌, leb-true, length-drop}
use Rattle.std.proofs.Math.Option.{Option, none, some}
use Rattle.meaning.specs.Utf8.{character, onward, valid_for, valid}
use Rattle.meaning.specs.Rules.{Rule}
use Rattle.meaning.specs.Peg.{Peg, lit, range, any, any_byte, end, neg, seq, alt, star, opt, quiet, rule, prefixb, bytewise}
use Rattle.meaning.specs.Forest.{Out, missed, took, after_o, or_else_o, maybe_o, turned_o, hushed_o, note_o, eval}
use Rattle.meaning.specs.Pdl.{file, file_start, file_line, file_head, rules}
use Rattle.grammar.specs.Fits.{character_le}
use Rattle.grammar.specs.Joining.{Chars, done, char, asciis, past_text, Keeps, Alike, alike_after, alike_or_else, alike_many, keeps_maybe, keeps_turned, keeps_hushed, keeps_note, keeps_lit, keeps_range, keeps_end, upto}

-- ASCII texts and ranges; ANY only in (!x ~ ANY)*, with x ASCII
pub data Tame : Peg → Type 0 where
  t_lit : (l : List ℕ) → asciis l ≡ true → Tame (lit l)
  t_range : (lo hi : ℕ) → leb hi 127 ≡ true → Tame (range lo hi)
  t_end : Tame end
  t_neg : (p : Peg) → Tame p → Tame (neg p)
  t_seq : (a b : Peg) → Tame a → Tame b → Tame (seq a b)
  t_alt : (a b : Peg) → Tame a → Tame b → Tame (alt a b)
  t_star : (p : Peg) → Tame p → Tame (star p)
  t_opt : (p : Peg) → Tame p → Tame (opt p)
  t_quiet : (p : Peg) → Tame p → Tame (quiet p)
  t_rule : (r : Rule) (p : Peg) → Tame p → Tame (rule r p)
  t_upto : (x : ℕ) (l : List ℕ) → leb x 127 ≡ true → Tame (star (seq (neg (lit (x ∷ l))) any))

joins : {g : Peg} → Tame g → Alike (λ i u. eval (bytewise g) i u) (λ i u. eval g i u)
unfolding eval
joins (t_lit l a) o t c = (refl, keeps_lit (prefixb l t) (length l) t (λ h. past_text l t a h c))
joins (t_range lo hi h) o t c = (refl, keeps_range lo hi t (leb-true hi 127 h) c)
joins t_end o t c = (refl, keeps_end t c)
joins (t_neg p h) o t c = (ap turned_o (joins h o t c).0, keeps_turned (eval p o t) t c)
joins (t_seq a b ha hb) o t c =
    let r = joins ha o t c in
    let q = alike_after (λ i u. eval (bytewise b) i u) (λ i u. eval b i u) (joins hb) (eval a o t) o t r.1 in
    (ap (λ (x : Out). after_o x (λ i u. eval (bytewise b) i u) o t) r.0 ∙ q.0, q.1)
joins (t_alt a b ha hb) o t c =
    let r = joins ha o t c in
    let q = alike_or_else (λ i u. eval (bytewise b) i u) (λ i u. eval b i u) (joins hb) (eval a o t) o t c r.1 in
    (ap (λ (x : Out). or_else_o x (λ i u. eval (bytewise b) i u) o t) r.0 ∙ q.0, q.1)
joins (t_star p h) o t c = alike_many (λ i u. eval (bytewise p) i u) (λ i u. eval p i u) (joins h) (suc (length t)) o t c
joins (t_opt p h) o t c = let r = joins h o t c in (ap maybe_o r.0, keeps_maybe (eval p o t) t c r.1)
joins (t_quiet p h) o t c = let r = joins h o t c in (ap hushed_o r.0, keeps_hushed (eval p o t) t r.1)
joins (t_rule r p h) o t c = let q = joins h o t c in (ap (note_o r o) q.0, keeps_note r o (eval p o t) t q.1)
joins (t_upto x l h) o t c = upto x l (leb-true x 127 h) c o

-- ---- tame, as a test
abbrev ok : (b : Bool) → Option (b ≡ true)
ok true = some refl
ok false = none

abbrev and1 : {A B : Type 0} → (A → B) → Option A → Option B
and1 f none = none
and1 f (some a) = some (f a)

abbrev and2 : {A B C : Type 0} → (A → B → C) → Option A → Option B → Option C
and2 f none y = none
and2 f (some a) none = none
and2 f (some a) (some b) = some (f a b)

abbrev any_of : (b : Peg) (x : ℕ) (l : List ℕ) → Option (Tame (star (seq (neg (lit (x ∷ l))) b))) → Option (Tame (star (seq (neg (lit (x ∷ l))) b)))
any_of (lit m) x l d = d
any_of (range lo hi) x l d = d
any_of any x l d = and1 (t_upto x l) (ok (leb x 127))
any_of any_byte x l d = d
any_of end x l d = d
any_of (neg q) x l d = d
any_of (seq a b) x l d = d
any_of (alt a b) x l d = d
any_of (star p) x l d = d
any_of (opt p) x l d = d
any_of (quiet p) x l d = d
any_of (rule r p) x l d = d

abbrev lit_of : (l : List ℕ) (b : Peg) → Option (Tame (star (seq (neg (lit l)) b))) → Option (Tame (star (seq (neg (lit l)) b)))
lit_of [] b d = d
lit_of (x ∷ l) b d = any_of b x l d

abbrev neg_of : (q b : Peg) → Option (Tame (star (seq (neg q) b))) → Option (Tame (star (seq (neg q) b)))
neg_of (lit l) b d = lit_of l b d
neg_of (range lo hi) b d = d
neg_of any b d = d
neg_of any_byte b d = d
neg_of end b d = d
neg_of (neg q) b d = d
neg_of (seq a c) b d = d
neg_of (alt a c) b d = d
neg_of (star p) b d = d
neg_of (opt p) b d = d
neg_of (quiet p) b d = d
neg_of (rule r p) b d = d

abbrev seq_of : (a b : Peg) → Option (Tame (star (seq a b))) → Option (Tame (star (seq a b)))
seq_of (lit l) b d = d
seq_of (range lo hi) b d = d
seq_of any b d = d
seq_of any_byte b d = d
seq_of end b d = d
seq_of (neg q) b d = neg_of q b d
seq_of (seq a c) b d = d
seq_of (alt a c) b d = d
seq_of (star p) b d = d
seq_of (opt p) b d = d
seq_of (quiet p) b d = d
seq_of (rule r p) b d = d

abbrev star_of : (p : Peg) → Option (Tame (star p)) → Option (Tame (star p))
star_of (lit l) d = d
star_of (range lo hi) d = d
star_of any d = d
star_of any_byte d = d
star_of end d = d
star_of (neg q) d = d
star_of (seq a b) d = seq_of a b d
star_of (alt a b) d = d
star_of (star p) d = d
star_of (opt p) d = d
star_of (quiet p) d = d
star_of (rule r p) d = d

abbrev tame : (g : Peg) → Option (Tame g)
tame (lit l) = and1 (t_lit l) (ok (asciis l))
tame (range lo hi) = and1 (t_range lo hi) (ok (leb hi 127))
tame any = none
tame any_byte = none
tame end = some t_end
tame (neg p) = and1 (t_neg p) (tame p)
tame (seq a b) = and2 (t_seq a b) (tame a) (tame b)
tame (alt a b) = and2 (t_alt a b) (tame a) (tame b)
tame (star p) = star_of p (and1 (t_star p) (tame p))
tame (opt p) = and1 (t_opt p) (tame p)
tame (quiet p) = and1 (t_quiet p) (tame p)
tame (rule r p) = and1 (t_rule r p) (tame p)

abbrev Found : {A : Type 0} → Option A → Type 0
Found none = ⊥
Found (some a) = Unit {0}

found : {A : Type 0} (m : Option A) → Found m → A
found none h = absurd h
found (some a) h = a

-- ---- a valid source is made of whole characters
valid_one : (c k : ℕ) (t : List ℕ) → character t ≡ c → length t ≤ suc k → 0 < length t → onward c (λ u. valid_for k u) t ≡ length t
    → ((n : ℕ) → length (drop (suc n) t) ≤ k → valid_for k (drop (suc n) t) ≡ length (drop (suc n) t) → Chars (drop (suc n) t)) → Chars t
valid_one zero k t e h z q ih = absurd (omega arith)
valid_one (suc n) k t e h z q ih =
    char t n e (ih n (omega (arith, length-drop (suc n) t)) (omega (arith, length-drop (suc n) t)))

valid_step : (k : ℕ) (t : List ℕ) → length t ≤ suc k → valid_for (suc k) t ≡ length t
    → ((n : ℕ) → length (drop (suc n) t) ≤ k → valid_for k (drop (suc n) t) ≡ length (drop (suc n) t) → Chars (drop (suc n) t)) → Chars t
unfolding valid_for
valid_step k [] h q ih = done
valid_step k (y ∷ t) h q ih = valid_one (character (y ∷ t)) k (y ∷ t) refl h (omega arith) q ih

valid_none : (t : List ℕ) → length t ≤ 0 → Chars t
valid_none [] h = done
valid_none (y ∷ t) h = absurd (omega arith)

valid_for_lem : (k : ℕ) (t : List ℕ) → length t ≤ k → valid_for k t ≡ length t → Chars t
valid_for_lem zero t h q = valid_none t h
valid_for_lem (suc k) t h q = valid_step k t h q (λ n a b. valid_for_lem k (drop (suc n) t) a b)

pub valid_chars : (t : List ℕ) → valid t ≡ length t → Chars t
valid_chars t h = valid_for_lem (length t) t (omega arith) h

-- ---- any tame expression, by bytes and by characters
joined : (g : Peg) → Found (tame g) → (o : ℕ) (t : List ℕ) → valid t ≡ length t → eval (bytewise g) o t ≡ eval g o t
joined g h o t v = (joins (found (tame g) h) o t (valid_chars t v)).0

pub file_joined : (o : ℕ) (t : List ℕ) → valid t ≡ length t → eval (bytewise file) o t ≡ eval file o t
unfolding rules
file_joined = joined file tt

pub file_start_joined : (o : ℕ) (t : List ℕ) → valid t ≡ length t → eval (bytewise file_start) o t ≡ eval file_start o t
unfolding rules
file_start_joined = joined file_start tt

pub file_line_joined : (o : ℕ) (t : List ℕ) → valid t ≡ length t → eval (bytewise file_line) o t ≡ eval file_line o t
unfolding rules
file_line_joined = joined file_line tt

pub file_head_joined : (o : ℕ) (t : List ℕ) → valid t ≡ length t → eval (bytewise file_head) o t ≡ eval file_head o t
unfolding rules
file_head_joined = joined file_head tt

-- ---- what is left after a match of valid text is valid
no_character : character [] ≡ 0
unfolding character
no_character = refl

valid_empty : (k : ℕ) → valid_for k [] ≡ 0
unfolding valid_for
valid_empty zero = refl
valid_empty (suc k) = ap (λ (c : ℕ). onward c (λ u. valid_for k u) []) no_character

valid_turn : (k n : ℕ) (t : List ℕ) → character t ≡ suc n → valid_for (suc k) t ≡ suc n + valid_for k (drop (suc n) t)
unfolding valid_for
valid_turn k n t e = ap (λ (c : ℕ). onward c (λ u. valid_for k u) t) e

chars_valid : {t : List ℕ} → Chars t → (k : ℕ) → length t ≤ k → valid_for k t ≡ length t
chars_valid done k h = valid_empty k
chars_valid (char t n e c) zero h = absurd (let z : suc n ≤ length t = rw e at (character_le t) in omega arith)
chars_valid (char t n e c) (suc k) h =
    let z : suc n ≤ length t = rw e at (character_le t) in
    let r : valid_for k (drop (suc n) t) ≡ length (drop (suc n) t) = chars_valid c k (omega (arith, length-drop (suc n) t)) in
    valid_turn k n t e ∙ omega (arith, r, length-drop (suc n) t)

abbrev pub LeftValid : Out → List ℕ → Type 0
LeftValid (missed f) t = Unit {0}
LeftValid (took n f w) t = valid (drop n t) ≡ length (drop n t)

left : (x : Out) (t : List ℕ) → Keeps x t → LeftValid x t
left (missed f) t h = tt
left (took n f w) t h = chars_valid h (length (drop n t)) (omega arith)

pub left_valid : (g : Peg) → Found (tame g) → (o : ℕ) (t : List ℕ) → valid t ≡ length t → LeftValid (eval g o t) t
left_valid g h o t v = left (eval g o t) t (joins (found (tame g) h) o t (valid_chars t v)).1
