-- Laws of UTF-8: what the first byte says of a character, its length, and the valid prefix one character on.
use Rattle.std.specs.Prelude.{ℕ, zero, suc, ◌+◌, ◌≤◌, ◌<◌, ◌≡◌, refl, List, [], ◌∷◌, Bool, true, false, length, get_or, drop, replicate, leb}
use Rattle.std.proofs.Common.{ap, sym, ◌∙◌, add-one, arith, le-leb, leb-true, length-drop, drop_of_length-le}
use Rattle.std.proofs.lemmas.Bool.{lt-leb}
use Rattle.std.proofs.Math.Seq.{drop-cons}
use Rattle.meaning.specs.Choice.{pick, both}
use Rattle.meaning.specs.Utf8.{Octet, ◌to◌, tail, holds, has, formed, forms, character, onward, valid_for, valid}
use Rattle.text.specs.ChoiceLaws.{never, both_is, both_false}

-- an octet from least to most, and then n tails: what follows the first byte of a wide form
abbrev pub octets : ℕ → ℕ → ℕ → List Octet
octets least most n = (least to most) ∷ replicate n tail

-- ---- one octet
holds_in : (r : Octet) (x : ℕ) → r.least ≤ x → x ≤ r.most → holds r x ≡ true
holds_in r x l m = simp (le-leb _ _ l, le-leb _ _ m)

pub holds_under : (r : Octet) (x : ℕ) → x < r.least → holds r x ≡ false
holds_under r x h = simp (lt-leb _ _ h)

holds_over : (r : Octet) (x : ℕ) → r.most < x → holds r x ≡ false
holds_over r x h = rw (lt-leb _ _ h) (both_false (leb r.least x))

-- ---- the first byte settles the form: the forms stand in the order of their first octets
-- each first octet begins at m or later, and past the one before it
abbrev pub ascends : ℕ → List (List Octet) → Bool
ascends m [] = true
ascends m ([] ∷ fs) = false
ascends m ((r ∷ rs) ∷ fs) = both (both (leb m r.least) (leb r.least r.most)) (ascends (r.most + 1) fs)

pub record Head (m : ℕ) (r : Octet) (fs : List (List Octet)) : Type 0 where
  pub from : m ≤ r.least
  pub upto : r.least ≤ r.most
  pub rest : ascends (r.most + 1) fs ≡ true

pub head_of : (m : ℕ) (r : Octet) (rs : List Octet) (fs : List (List Octet)) → ascends m ((r ∷ rs) ∷ fs) ≡ true → Head m r fs
head_of m r rs fs e =
    let p = both_is _ (ascends (r.most + 1) fs) e in
    let q = both_is (leb m r.least) (leb r.least r.most) p.0 in
    record { from = leb-true _ _ q.0; upto = leb-true _ _ q.1; rest = p.1 }

-- no form begins with so low a byte
pub under : (fs : List (List Octet)) (m x : ℕ) (t : List ℕ) → ascends m fs ≡ true → x < m → formed fs (x ∷ t) ≡ 0
under [] m x t e h = refl
under ([] ∷ fs) m x t e h = never e
under ((r ∷ rs) ∷ fs) m x t e h =
    let k = head_of m r rs fs e in
    rw (holds_under r x (omega arith)) (under fs (r.most + 1) x t k.rest (omega arith))

-- past the first k forms
abbrev pub top : ℕ → ℕ → List (List Octet) → ℕ
top zero m fs = m
top (suc k) m [] = m
top (suc k) m ([] ∷ fs) = m
top (suc k) m ((r ∷ rs) ∷ fs) = top k (r.most + 1) fs

top_up : (k m : ℕ) (fs : List (List Octet)) → ascends m fs ≡ true → m ≤ top k m fs
top_up zero m fs e = omega arith
top_up (suc k) m [] e = omega arith
top_up (suc k) m ([] ∷ fs) e = omega arith
top_up (suc k) m ((r ∷ rs) ∷ fs) e =
    let q = head_of m r rs fs e in
    omega (arith, top_up k (r.most + 1) fs q.rest)

pub past : (k : ℕ) (fs : List (List Octet)) (m x : ℕ) (t : List ℕ) → ascends m fs ≡ true → top k m fs ≤ x
    → formed fs (x ∷ t) ≡ formed (drop k fs) (x ∷ t)
past zero fs m x t e h = refl
past (suc k) [] m x t e h = refl
past (suc k) ([] ∷ fs) m x t e h = never e
past (suc k) ((r ∷ rs) ∷ fs) m x t e h =
    let q = head_of m r rs fs e in
    rw (holds_over r x (omega (arith, top_up k (r.most + 1) fs q.rest))) (past k fs (r.most + 1) x t q.rest h)

-- the byte begins this form, and no other
pub begins : (r : Octet) (rs : List Octet) (fs : List (List Octet)) (x : ℕ) (t : List ℕ) → ascends (r.most + 1) fs ≡ true
    → r.least ≤ x → x ≤ r.most → formed ((r ∷ rs) ∷ fs) (x ∷ t) ≡ pick (has rs t) (length (r ∷ rs)) 0
begins r rs fs x t e l m = rw (holds_in r x l m, under fs (r.most + 1) x t e (omega arith))

-- ---- the character at i, by its first byte: of the form k, or between the forms
module _ (s : List ℕ) (i : ℕ) (h : i < length s) where
  at_first : character (drop i s) ≡ formed forms (get_or s i 0 ∷ drop (i + 1) s)
  unfolding character
  at_first = rw (add-one i, drop-cons s i 0)

  pub by_form : (k : ℕ) (r : Octet) (rs : List Octet) (fs : List (List Octet)) → drop k forms ≡ (r ∷ rs) ∷ fs
      → ascends (r.most + 1) fs ≡ true → top k 0 forms ≤ get_or s i 0 → r.least ≤ get_or s i 0 → get_or s i 0 ≤ r.most
      → character (drop i s) ≡ pick (has rs (drop (i + 1) s)) (length (r ∷ rs)) 0
  by_form k r rs fs d e a l m =
      at_first ∙ past k forms 0 (get_or s i 0) (drop (i + 1) s) refl a ∙ rw d (begins r rs fs (get_or s i 0) (drop (i + 1) s) e l m)

  pub by_none : (k m : ℕ) → ascends m (drop k forms) ≡ true → top k 0 forms ≤ get_or s i 0 → get_or s i 0 < m
      → character (drop i s) ≡ 0
  by_none k m e a l =
      at_first ∙ past k forms 0 (get_or s i 0) (drop (i + 1) s) refl a ∙ under (drop k forms) m (get_or s i 0) (drop (i + 1) s) e l

-- ---- octet after octet
module _ (r : Octet) (rs : List Octet) (s : List ℕ) (i : ℕ) where
  pub has_step : i < length s → has (r ∷ rs) (drop i s) ≡ both (holds r (get_or s i 0)) (has rs (drop (i + 1) s))
  has_step h = rw (add-one i, drop-cons s i 0)

  pub has_end : length s ≤ i → has (r ∷ rs) (drop i s) ≡ false
  has_end h = rw (drop_of_length-le s h)

-- ---- lengths
pub has_fits : (f : List Octet) (t : List ℕ) → has f t ≡ true → length f ≤ length t
has_fits [] t e = omega arith
has_fits (r ∷ rs) [] e = never e
has_fits (r ∷ rs) (x ∷ t) e = omega (arith, has_fits rs t (both_is (holds r x) (has rs t) e).1)

pick_fits : (b : Bool) (m n l : ℕ) → (b ≡ true → m ≤ l) → n ≤ l → pick b m n ≤ l
pick_fits true m n l f g = f refl
pick_fits false m n l f g = g

formed_fits : (fs : List (List Octet)) (t : List ℕ) → formed fs t ≤ length t
formed_fits [] t = omega arith
formed_fits (f ∷ fs) t = pick_fits (has f t) (length f) (formed fs t) (length t) (has_fits f t) (formed_fits fs t)

pub character_fits : (t : List ℕ) → character t ≤ length t
unfolding character
character_fits t = formed_fits forms t

pub character_none : character [] ≡ 0
unfolding character
character_none = refl

character_ascii : (x : ℕ) (t : List ℕ) → x < 128 → character (x ∷ t) ≡ 1
unfolding character
character_ascii x t h = begins (record { least = 0; most = 127 }) [] (drop 1 forms) x t refl (omega arith) (omega arith)

-- ---- the valid prefix: enough fuel is enough
onward_fits : (n : ℕ) (q : List ℕ → ℕ) (t : List ℕ) → n ≤ length t → ((u : List ℕ) → q u ≤ length u) → onward n q t ≤ length t
onward_fits zero q t h f = omega arith
onward_fits (suc n) q t h f = omega (arith, f (drop (suc n) t), length-drop (suc n) t)

valid_for_fits : (k : ℕ) (t : List ℕ) → valid_for k t ≤ length t
unfolding valid_for
valid_for_fits zero t = omega arith
valid_for_fits (suc k) t = onward_fits (character t) (λ u. valid_for k u) t (character_fits t) (λ u. valid_for_fits k u)

pub valid_fits : (t : List ℕ) → valid t ≤ length t
valid_fits t = valid_for_fits (length t) t

onward_same : (n : ℕ) (p q : List ℕ → ℕ) (t : List ℕ) → ((m : ℕ) → n ≡ suc m → p (drop n t) ≡ q (drop n t)) → onward n p t ≡ onward n q t
onward_same zero p q t f = refl
onward_same (suc n) p q t f = ap (λ z. suc n + z) (f n refl)

valid_for_none : (k : ℕ) → valid_for k [] ≡ 0
unfolding valid_for
valid_for_none zero = refl
valid_for_none (suc k) = rw character_none

pub fuel : (k l : ℕ) (t : List ℕ) → length t ≤ k → length t ≤ l → valid_for k t ≡ valid_for l t
unfolding valid_for
fuel zero l [] h g = sym (valid_for_none l)
fuel zero l (x ∷ t) h g = absurd (omega arith)
fuel (suc k) zero [] h g = valid_for_none (suc k)
fuel (suc k) zero (x ∷ t) h g = absurd (omega arith)
fuel (suc k) (suc l) t h g =
    onward_same (character t) (λ u. valid_for k u) (λ u. valid_for l u) t
    (λ m e. fuel k l (drop (character t) t) (omega (arith, length-drop (character t) t)) (omega (arith, length-drop (character t) t)))

-- one character on
valid_onward : (t : List ℕ) → valid t ≡ onward (character t) (λ u. valid u) t
unfolding valid_for
valid_onward t =
    fuel (length t) (suc (length t)) t (omega arith) (omega arith)
    ∙ onward_same (character t) (λ u. valid_for (length t) u) (λ u. valid u) t
    (λ m e. fuel (length t) (length (drop (character t) t)) (drop (character t) t) (omega (arith, length-drop (character t) t)) (omega arith))

pub valid_step : (t : List ℕ) (n : ℕ) → character t ≡ suc n → valid t ≡ suc n + valid (drop (suc n) t)
valid_step t n e = valid_onward t ∙ rw e

pub valid_stop : (t : List ℕ) → character t ≡ 0 → valid t ≡ 0
valid_stop t e = valid_onward t ∙ rw e

pub valid_ascii : (x : ℕ) (t : List ℕ) → x < 128 → valid (x ∷ t) ≡ suc (valid t)
valid_ascii x t h = omega (arith, valid_step (x ∷ t) 0 (character_ascii x t h))
