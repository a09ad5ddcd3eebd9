-- What the turns and returns of the UTF-8 test show: octets, the first byte's form, and the valid prefix one character on.
use Prim.Native.Nat.{ℕ, zero, suc, ◌+◌, ◌-◌, ◌≤◌, ◌<◌}
use mathlib.Core.Path.{◌≡◌, refl, ap, sym, ◌∙◌}
use mathlib.Core.List.{List, [], ◌∷◌}
use mathlib.Core.Bool.{Bool, true, false}
use native.Mathlib.Omega.{arith}
use borrow.Author.Tests.{lt-leb}
use lib.ListN.{length, get_or, take, drop, replicate, length-drop}
use lib.Seq.{drop-cons, drop-drop, take-length}
use lib.Dec.{leb}
use Rattle.meaning.specs.Choice.{pick, both}
use Rattle.meaning.specs.Utf8.{Octet, tail, holds, has, forms, character, valid}
use Rattle.std.proofs.Common.{add-one}
use Rattle.std.specs.Prelude.{◌&&◌, Option, Some, None, SomeIff}
use Rattle.std.specs.List.{list_all}
use Rattle.text.specs.ChoiceLaws.{both_false}
use Rattle.text.specs.Utf8Laws.{ascends, top, by_form, by_none, character_fits, character_none, valid_step, valid_stop, valid_ascii}

-- ---- the tails at the front
both_and : (b c : Bool) → (b && c) ≡ both b c
both_and true c = refl
both_and false c = refl

pub tails_all : (n : ℕ) (s : List ℕ) → n ≤ length s → list_all (holds tail) (take n s) ≡ has (replicate n tail) s
tails_all zero s h = refl
tails_all (suc n) [] h = absurd (omega arith)
tails_all (suc n) (x ∷ s) h = both_and (holds tail x) _ ∙ ap (both (holds tail x)) (tails_all n s (omega arith))

pub tails_short : (n : ℕ) (s : List ℕ) → length s < n → leb n (length s) ≡ has (replicate n tail) s
tails_short n s h = lt-leb n (length s) h ∙ sym (none n s h)
  where
    none : (n : ℕ) (s : List ℕ) → length s < n → has (replicate n tail) s ≡ false
    none zero s h = absurd (omega arith)
    none (suc n) [] h = refl
    none (suc n) (x ∷ s) h = rw (none n s (omega arith)) (both_false (holds tail x))

-- ---- the character at the front
-- where nothing stands there is none
pub character_end : (s : List ℕ) → length s ≤ 0 → 0 < character s → ⊥
character_end [] h l = omega (arith, character_none)
character_end (x ∷ s) h l = omega arith

-- of the length c of a character, whose form is told by b
either_way : (b : Bool) (n c : ℕ) → c ≡ pick b (suc n) 0 → (found : Option ℕ) → SomeIff found (b ≡ true) (suc n) → SomeIff found (0 < c) c
either_way true n c e None h = absurd (h refl)
either_way false n c e None h = λ l. omega (arith, e)
either_way b n c e (Some m) h = let q : c ≡ suc n = rw h.0 at e in (omega (arith, q), h.1 ∙ sym q)

module _ (x : ℕ) (t : List ℕ) where
  -- the first byte begins the form k, and this was found of the octets after it
  pub character_formed : (k : ℕ) (r : Octet) (rs : List Octet) (fs : List (List Octet)) → drop k forms ≡ (r ∷ rs) ∷ fs
      → ascends (r.most + 1) fs ≡ true → top k 0 forms ≤ x → r.least ≤ x → x ≤ r.most
      → (found : Option ℕ) → SomeIff found (has rs t ≡ true) (length (r ∷ rs)) → SomeIff found (0 < character (x ∷ t)) (character (x ∷ t))
  character_formed k r rs fs d a u l m found q =
      either_way _ (length rs) (character (x ∷ t)) (by_form (x ∷ t) 0 (omega arith) k r rs fs d a u l m) found q

  -- it stands before the form k and past the one before it, or past all forms
  pub character_between : (k m : ℕ) → ascends m (drop k forms) ≡ true → top k 0 forms ≤ x → x < m → 0 < character (x ∷ t) → ⊥
  character_between k m a u l z = omega (arith, by_none (x ∷ t) 0 (omega arith) k m a u l)

-- ---- the valid prefix, one character on
-- what stands from i on, as the code cuts it: a byte, and those behind it
abbrev cut : List ℕ → ℕ → List ℕ
cut s i = get_or s i 0 ∷ take (length s - (i + 1)) (drop (i + 1) s)

cut_all : (s : List ℕ) (i : ℕ) → i < length s → cut s i ≡ drop i s
cut_all s i h = rw (← length-drop (i + 1) s, take-length (drop (i + 1) s), add-one i, drop-cons s i 0)

not_positive : (n : ℕ) → (0 < n → ⊥) → n ≡ 0
not_positive zero f = refl
not_positive (suc n) f = absurd (f (omega arith))

-- nothing is left
pub valid_end : (s : List ℕ) (i : ℕ) → length s ≤ i → valid s ≡ i + valid (drop i s) → i ≡ valid s
valid_end s i h q =
    let none : 0 < character (drop i s) → ⊥ = character_end (drop i s) (omega (arith, length-drop i s)) in
    omega (arith, valid_stop (drop i s) (not_positive _ none))

module _ (s : List ℕ) (i : ℕ) (h : i < length s) (q : valid s ≡ i + valid (drop i s)) where
  -- a byte of ASCII stands there
  pub valid_byte : get_or s i 0 < 128 → valid s ≡ i + 1 + valid (drop (i + 1) s)
  valid_byte a =
      let v : valid (drop i s) ≡ suc (valid (drop (i + 1) s)) = rw (drop-cons s i 0, add-one i) (valid_ascii (get_or s i 0) (drop (suc i) s) a) in
      omega arith

  -- a character of n bytes begins there
  pub valid_turn : (n : ℕ) → (0 < character (cut s i)) × (n ≡ character (cut s i)) → (i + n ≤ length s) × (valid s ≡ i + n + valid (drop (i + n) s))
  valid_turn zero e = absurd (omega arith)
  valid_turn (suc n) e =
      let p = rw (cut_all s i h) at e in
      let v : valid (drop i s) ≡ suc n + valid (drop (i + suc n) s) = valid_step (drop i s) n (sym p.1) ∙ rw (drop-drop (suc n) i s) in
      (omega (arith, p.1, character_fits (drop i s), length-drop i s), omega arith)

  -- none begins there
  pub valid_none : (0 < character (cut s i) → ⊥) → i ≡ valid s
  valid_none e = let p = rw (cut_all s i h) at e in omega (arith, valid_stop (drop i s) (not_positive _ p))
