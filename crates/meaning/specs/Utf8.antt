-- UTF-8 as RFC 3629, section 4, has it: no overlong forms, no surrogates, nothing above U+10FFFF.
use Rattle.std.specs.Prelude.{ℕ, zero, suc, ◌+◌, List, [], ◌∷◌, Bool, true, false, length, drop, leb}
use Rattle.meaning.specs.Choice.{pick, both}

infix 30 ◌to◌
pub record Octet : Type 0 where
  pub least : ℕ
  pub most : ℕ

abbrev pub ◌to◌ : ℕ → ℕ → Octet
a to b = record { least = a; most = b }

-- UTF8-tail
abbrev pub tail : Octet
tail = 0x80 to 0xBF

-- UTF8-1
abbrev pub ascii_form : List Octet
ascii_form = (0x00 to 0x7F) ∷ []

-- UTF8-2, UTF8-3, UTF8-4
abbrev pub wide_forms : List (List Octet)
wide_forms =
    ((0xC2 to 0xDF) ∷ tail ∷ [])
    ∷ ((0xE0 to 0xE0) ∷ (0xA0 to 0xBF) ∷ tail ∷ [])
    ∷ ((0xE1 to 0xEC) ∷ tail ∷ tail ∷ [])
    ∷ ((0xED to 0xED) ∷ (0x80 to 0x9F) ∷ tail ∷ [])
    ∷ ((0xEE to 0xEF) ∷ tail ∷ tail ∷ [])
    ∷ ((0xF0 to 0xF0) ∷ (0x90 to 0xBF) ∷ tail ∷ tail ∷ [])
    ∷ ((0xF1 to 0xF3) ∷ tail ∷ tail ∷ tail ∷ [])
    ∷ ((0xF4 to 0xF4) ∷ (0x80 to 0x8F) ∷ tail ∷ tail ∷ [])
    ∷ []

abbrev pub forms : List (List Octet)
forms = ascii_form ∷ wide_forms

abbrev pub holds : Octet → ℕ → Bool
holds r x = both (leb r.least x) (leb x r.most)

-- whether a text begins with bytes of these octets
abbrev pub has : List Octet → List ℕ → Bool
has [] t = true
has (r ∷ rs) [] = false
has (r ∷ rs) (x ∷ t) = both (holds r x) (has rs t)

-- how long the first of these forms is that the text begins with: 0, if it begins with none
abbrev pub formed : List (List Octet) → List ℕ → ℕ
formed [] t = 0
formed (f ∷ fs) t = pick (has f t) (length f) (formed fs t)

-- how long the character at the front is: 0, if there is none
unfoldable pub character : List ℕ → ℕ
character t = formed forms t

-- over n bytes and on, unless n is 0
abbrev pub onward : ℕ → (List ℕ → ℕ) → List ℕ → ℕ
onward zero q t = 0
onward (suc n) q t = suc n + q (drop (suc n) t)

unfoldable pub valid_for : ℕ → List ℕ → ℕ
valid_for zero t = 0
valid_for (suc k) t = onward (character t) (λ u. valid_for k u) t

-- the length of the longest valid prefix (refusal 2)
abbrev pub valid : List ℕ → ℕ
valid t = valid_for (length t) t
