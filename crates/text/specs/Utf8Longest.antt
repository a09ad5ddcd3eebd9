-- What the UTF-8 test means: the valid prefix is valid, no longer prefix is, and a wide character has no byte of ASCII.
use Rattle.std.specs.Prelude.{ℕ, zero, suc, ◌+◌, ◌≤◌, ◌<◌, ◌≡◌, refl, List, [], ◌∷◌, Bool, true, false, length, get_or, take, drop, leb}
use Rattle.std.proofs.Common.{ap, sym, ◌∙◌, zero-add, suc-add, arith, leb-true, length-drop}
use Rattle.meaning.specs.Choice.{pick, both, either}
use Rattle.meaning.specs.Utf8.{Octet, holds, has, formed, forms, character, valid}
use Rattle.text.specs.ChoiceLaws.{never, both_is}
use Rattle.text.specs.Utf8Laws.{ascends, head_of, under, character_fits, character_none, valid_step, valid_stop}

-- ---- forms in a part of a text
has_take : (f : List Octet) (t : List ℕ) (n : ℕ) → length f ≤ n → has f (take n t) ≡ has f t
has_take [] t n h = refl
has_take (r ∷ rs) t zero h = absurd (omega arith)
has_take (r ∷ rs) [] (suc n) h = refl
has_take (r ∷ rs) (x ∷ t) (suc n) h = ap (both (holds r x)) (has_take rs t n (omega arith))

has_longer : (f : List Octet) (t : List ℕ) (n : ℕ) → has f (take n t) ≡ true → has f t ≡ true
has_longer [] t n e = refl
has_longer (r ∷ rs) t zero e = never e
has_longer (r ∷ rs) [] (suc n) e = e
has_longer (r ∷ rs) (x ∷ t) (suc n) e =
    let p = both_is (holds r x) (has rs (take n t)) e in
    rw p.0 (has_longer rs t n p.1)

same_pick : (a b : Bool) (m x y n : ℕ) → (m ≤ n → a ≡ b) → (a ≡ true → b ≡ true) → (x ≤ n → y ≡ x) → pick b m x ≤ n
    → pick a m y ≡ pick b m x
same_pick true true m x y n f g k h = refl
same_pick true false m x y n f g k h = never (g refl)
same_pick false true m x y n f g k h = never (f h)
same_pick false false m x y n f g k h = k h

formed_take : (fs : List (List Octet)) (t : List ℕ) (n : ℕ) → formed fs t ≤ n → formed fs (take n t) ≡ formed fs t
formed_take [] t n h = refl
formed_take (f ∷ fs) t n h =
    same_pick (has f (take n t)) (has f t) (length f) (formed fs t) (formed fs (take n t)) n
    (has_take f t n) (has_longer f t n) (formed_take fs t n) h

-- a character that ends in the part is the character of the whole
pub character_take : (t : List ℕ) (n : ℕ) → character t ≤ n → character (take n t) ≡ character t
unfolding character
character_take t n h = formed_take forms t n h

formed_none : (fs : List (List Octet)) (m : ℕ) → ascends m fs ≡ true → formed fs [] ≡ 0
formed_none [] m e = refl
formed_none ([] ∷ fs) m e = never e
formed_none ((r ∷ rs) ∷ fs) m e = formed_none fs (r.most + 1) (head_of m r rs fs e).rest

longer_pick : (b a a' : Bool) (l p q c : ℕ) → (a ≡ true → a' ≡ true) → (b ≡ true → (p ≡ 0) × (q ≡ 0)) → (p ≡ suc c → q ≡ suc c)
    → pick (both b a) l p ≡ suc c → pick (both b a') l q ≡ suc c
longer_pick true true a' l p q c f g k e = rw (f refl) e
longer_pick true false a' l p q c f g k e = absurd (let z = g refl in omega arith)
longer_pick false a a' l p q c f g k e = k e

formed_longer : (fs : List (List Octet)) (m x : ℕ) (t : List ℕ) (n c : ℕ) → ascends m fs ≡ true
    → formed fs (x ∷ take n t) ≡ suc c → formed fs (x ∷ t) ≡ suc c
formed_longer [] m x t n c a e = e
formed_longer ([] ∷ fs) m x t n c a e = never a
formed_longer ((r ∷ rs) ∷ fs) m x t n c a e =
    let h = head_of m r rs fs a in
    longer_pick (holds r x) (has rs (take n t)) (has rs t) (length (r ∷ rs)) (formed fs (x ∷ take n t)) (formed fs (x ∷ t)) c
    (has_longer rs t n)
    (λ i. (let k : x < r.most + 1 = omega (arith, leb-true x r.most (both_is (leb r.least x) (leb x r.most) i).1) in
    (under fs (r.most + 1) x (take n t) h.rest k, under fs (r.most + 1) x t h.rest k)))
    (formed_longer fs (r.most + 1) x t n c h.rest)
    e

-- a character of a part is the character of the whole
pub character_longer : (t : List ℕ) (n c : ℕ) → character (take n t) ≡ suc c → character t ≡ suc c
unfolding character
character_longer t zero c e = absurd (omega (arith, formed_none forms 0 refl))
character_longer [] (suc n) c e = e
character_longer (x ∷ t) (suc n) c e = formed_longer forms 0 x t n c refl e

-- ---- the longest valid prefix
drop_take : (m n : ℕ) (t : List ℕ) → drop m (take (m + n) t) ≡ take n (drop m t)
drop_take zero n t = rw (zero-add n)
drop_take (suc m) n [] = rw (suc-add m n) (sym (none n))
  where
    none : (n : ℕ) → ◌≡◌ {A = List ℕ} (take n []) []
    none zero = refl
    none (suc n) = refl
drop_take (suc m) n (x ∷ t) = rw (suc-add m n) (drop_take m n t)

valid_nothing : valid [] ≡ 0
valid_nothing = valid_stop [] character_none

-- by the character in front, and then for texts of at most k bytes
prefix_step : (t : List ℕ) (n : ℕ) → character t ≡ n
    → ((c : ℕ) → n ≡ suc c → valid (take (valid (drop n t)) (drop n t)) ≡ valid (drop n t)) → valid (take (valid t) t) ≡ valid t
prefix_step t zero e f = rw (valid_stop t e) valid_nothing
prefix_step t (suc c) e f =
    let v = valid (drop (suc c) t) in
    let q : valid t ≡ suc c + v = valid_step t c e in
    let a : character (take (suc c + v) t) ≡ suc c = character_take t (suc c + v) (omega arith) ∙ e in
    rw q (valid_step (take (suc c + v) t) c a ∙ rw (drop_take (suc c) v t) (ap (λ z. suc c + z) (f c refl)))

prefix_for : (k : ℕ) (t : List ℕ) → length t ≤ k → valid (take (valid t) t) ≡ valid t
prefix_for zero t h = prefix_step t (character t) refl (λ c e. absurd (omega (arith, character_fits t)))
prefix_for (suc k) t h =
    prefix_step t (character t) refl (λ c e. prefix_for k (drop (character t) t) (omega (arith, length-drop (character t) t)))

pub prefix_valid : (t : List ℕ) → valid (take (valid t) t) ≡ valid t
prefix_valid t = prefix_for (length t) t (omega arith)

longest_step : (t : List ℕ) (n c : ℕ) → character (take n t) ≡ c → valid (take n t) ≡ n
    → ((d m : ℕ) → c ≡ suc d → valid (take m (drop c t)) ≡ m → m ≤ valid (drop c t)) → n ≤ valid t
longest_step t n zero e v f = omega (arith, valid_stop (take n t) e)
longest_step t n (suc c) e v f =
    let m = valid (drop (suc c) (take n t)) in
    let q : n ≡ suc c + m = sym v ∙ valid_step (take n t) c e in
    let w : drop (suc c) (take n t) ≡ take m (drop (suc c) t) = ap (λ z. drop (suc c) (take z t)) q ∙ drop_take (suc c) m t in
    let u : valid (take m (drop (suc c) t)) ≡ m = ap (λ z. valid z) (sym w) in
    let r : m ≤ valid (drop (suc c) t) = f c m refl u in
    omega (arith, valid_step t c (character_longer t n c e))

longest_for : (k : ℕ) (t : List ℕ) (n : ℕ) → length t ≤ k → valid (take n t) ≡ n → n ≤ valid t
longest_for zero t n h v =
    longest_step t n (character (take n t)) refl v
    (λ d m e u. absurd (omega (arith, character_longer t n d e, character_fits t)))
longest_for (suc k) t n h v =
    longest_step t n (character (take n t)) refl v
    (λ d m e u. longest_for k (drop (character (take n t)) t) m (omega (arith, length-drop (character (take n t)) t)) u)

pub longest : (t : List ℕ) (n : ℕ) → valid (take n t) ≡ n → n ≤ valid t
longest t n v = longest_for (length t) t n (omega arith) v

-- ---- a wide character has no byte of ASCII
abbrev high : List Octet → Bool
high [] = true
high (r ∷ rs) = both (leb 128 r.least) (high rs)

-- every form is high, or of one byte
abbrev highs : List (List Octet) → Bool
highs [] = true
highs (f ∷ fs) = both (either (high f) (leb (length f) 1)) (highs fs)

has_high : (f : List Octet) (t : List ℕ) → high f ≡ true → has f t ≡ true → (j : ℕ) → j < length f → 128 ≤ get_or t j 0
has_high [] t a e j h = absurd (omega arith)
has_high (r ∷ rs) [] a e j h = never e
has_high (r ∷ rs) (x ∷ t) a e zero h =
    let p = both_is (leb 128 r.least) (high rs) a in
    let q = both_is (leb r.least x) (leb x r.most) (both_is (holds r x) (has rs t) e).0 in
    omega (arith, leb-true 128 r.least p.0, leb-true r.least x q.0)
has_high (r ∷ rs) (x ∷ t) a e (suc j) h =
    has_high rs t (both_is (leb 128 r.least) (high rs) a).1 (both_is (holds r x) (has rs t) e).1 j (omega arith)

long_high : (b c : Bool) (n : ℕ) → either b c ≡ true → (c ≡ true → n ≤ 1) → 2 ≤ n → b ≡ true
long_high true c n e f h = refl
long_high false c n e f h = absurd (omega (arith, f e))

high_by : (f : List Octet) (t : List ℕ) (n j : ℕ) → either (high f) (leb (length f) 1) ≡ true → (2 ≤ n → j < n → 128 ≤ get_or t j 0)
    → (b : Bool) → has f t ≡ b → 2 ≤ pick b (length f) n → j < pick b (length f) n → 128 ≤ get_or t j 0
high_by f t n j a k true e l h = has_high f t (long_high (high f) (leb (length f) 1) (length f) a (leb-true (length f) 1) l) e j h
high_by f t n j a k false e l h = k l h

formed_high : (fs : List (List Octet)) (t : List ℕ) → highs fs ≡ true → (j : ℕ) → 2 ≤ formed fs t → j < formed fs t → 128 ≤ get_or t j 0
formed_high [] t a j l h = absurd (omega arith)
formed_high (f ∷ fs) t a j l h =
    let p = both_is (either (high f) (leb (length f) 1)) (highs fs) a in
    high_by f t (formed fs t) j p.0 (formed_high fs t p.1 j) (has f t) refl l h

pub wide_byte : (t : List ℕ) (j : ℕ) → 2 ≤ character t → j < character t → 128 ≤ get_or t j 0
unfolding character
wide_byte t j l h = formed_high forms t refl j l h
