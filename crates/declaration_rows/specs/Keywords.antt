-- The kind of a declaration by its keyword: where one of the words stands, no other kind can match.
use Rattle.std.specs.Prelude.{ℕ, ◌≡◌, refl, List, [], ◌∷◌, Bool, true, false, ◌&&◌, eqb, Option, None, Some}
use Rattle.std.specs.List.{starts_with, find}
use Rattle.std.proofs.Common.{ap, subst, sym, ◌∙◌}
use Rattle.meaning.specs.Choice.{both, either}
use Rattle.meaning.specs.Quoted.{bytes}
use Rattle.meaning.specs.Peg.{Peg, prefixb, bytewise}
use Rattle.meaning.specs.Pdl.{rules, declaration}
use Rattle.grammar.specs.Openings.{clash, clashes, alike, alike_same}
use Rattle.grammar.specs.Choices.{Same, left, same}
use Rattle.declaration_rows.specs.declared.kinds.Kind.{Kind}
use Rattle.declaration_rows.specs.declared.kinds.Kind.TheVariants.{Enum, Packet, Struct, Group, Checksum, CustomField}
use Rattle.declaration_rows.specs.Kinds.{declared, stands}

-- ---- the kinds: the word of each
abbrev pub word : Kind → List ℕ
word Enum = bytes "enum"
word Packet = bytes "packet"
word Struct = bytes "struct"
word Group = bytes "group"
word Checksum = bytes "checksum"
word CustomField = bytes "custom_field"

-- whatever declaration stands there is of the kind k, or a test where there is none
pub record Known (t : List ℕ) (k : Option Kind) : Type 0 where
  pub known : Same (bytewise declaration) (bytewise (stands k)) t

-- where the word of a kind stands, no other kind is left
one_left : (k : Kind) → left (clash (word k)) (bytewise declaration) ≡ bytewise (declared k)
unfolding rules declared
one_left Enum = refl
one_left Packet = refl
one_left Struct = refl
one_left Group = refl
one_left Checksum = refl
one_left CustomField = refl

-- ---- what `starts_with` says of a word
starts : (l s : List ℕ) → starts_with eqb s l ≡ prefixb l s
starts [] s = refl
starts (x ∷ l) [] = refl
starts (x ∷ l) (y ∷ s) = rw (starts l s) (go (eqb x y))
  where
    go : (b : Bool) → b && prefixb l s ≡ both b (prefixb l s)
    go true = refl
    go false = refl

-- the kinds in the order of their numbers, and the first whose word stands at the front of t
abbrev pub all : List Kind
all = Enum ∷ Packet ∷ Struct ∷ Group ∷ Checksum ∷ CustomField ∷ []

abbrev pub begins : List ℕ → Kind → Bool
begins t k = starts_with eqb t (word k)

abbrev pub kind_of : List ℕ → Option Kind
kind_of t = find (begins t) all

word_stands : (k : Kind) (t : List ℕ) → begins t k ≡ true → Known t (Some k)
word_stands k t h =
    record {
      known = subst (λ (g : Peg). Same (bytewise declaration) g t) (one_left k)
          (same (clash (word k)) t (λ l e. clashes (word k) l t e (sym (starts (word k) t) ∙ h)) (bytewise declaration));
    }

-- where none of the six words stands, only a test is left
abbrev one_of_six : List ℕ → Bool
one_of_six l =
    either (alike (word Enum) l) (either (alike (word Packet) l)
    (either (alike (word Struct) l) (either (alike (word Group) l) (either (alike (word Checksum) l) (alike (word CustomField) l)))))

test_left : left one_of_six (bytewise declaration) ≡ bytewise (stands None)
unfolding rules declared
test_left = refl

no_word : (t : List ℕ) → begins t Enum ≡ false → begins t Packet ≡ false → begins t Struct ≡ false → begins t Group ≡ false → begins t Checksum ≡ false
    → begins t CustomField ≡ false → Known t None
no_word t h1 h2 h3 h4 h5 h6 =
    record { known = subst (λ (g : Peg). Same (bytewise declaration) g t) test_left (same one_of_six t gone (bytewise declaration)) }
  where
    lacks : (k : Kind) (l : List ℕ) → begins t k ≡ false → alike (word k) l ≡ true → prefixb l t ≡ false
    lacks k l h q = ap (λ (m : List ℕ). prefixb m t) (sym (alike_same (word k) l q)) ∙ sym (starts (word k) t) ∙ h

    next : (k : Kind) (l : List ℕ) (b : Bool) → begins t k ≡ false → (b ≡ true → prefixb l t ≡ false) → either (alike (word k) l) b ≡ true → prefixb l t ≡ false
    next k l b h f e = go (alike (word k) l) refl e
      where
        go : (a : Bool) → alike (word k) l ≡ a → either a b ≡ true → prefixb l t ≡ false
        go true q z = lacks k l h q
        go false q z = f z

    gone : (l : List ℕ) → one_of_six l ≡ true → prefixb l t ≡ false
    gone l e =
        next Enum l _ h1 (λ e. next Packet l _ h2
        (λ e. next Struct l _ h3 (λ e. next Group l _ h4 (λ e. next Checksum l _ h5 (λ e. lacks CustomField l h6 e) e) e) e) e) e

-- whatever declaration stands there is of the kind that is found
pub known : (t : List ℕ) → Known t (kind_of t)
known t = go (begins t Enum) refl (begins t Packet) refl (begins t Struct) refl (begins t Group) refl (begins t Checksum) refl (begins t CustomField) refl
  where
    go : (a : Bool) → begins t Enum ≡ a → (b : Bool) → begins t Packet ≡ b → (c : Bool) → begins t Struct ≡ c → (d : Bool) → begins t Group ≡ d
        → (e : Bool) → begins t Checksum ≡ e → (f : Bool) → begins t CustomField ≡ f → Known t (kind_of t)
    go true p b q c r d s e u f v = rw p (word_stands Enum t p)
    go false p true q c r d s e u f v = rw (p, q) (word_stands Packet t q)
    go false p false q true r d s e u f v = rw (p, q, r) (word_stands Struct t r)
    go false p false q false r true s e u f v = rw (p, q, r, s) (word_stands Group t s)
    go false p false q false r false s true u f v = rw (p, q, r, s, u) (word_stands Checksum t u)
    go false p false q false r false s false u true v = rw (p, q, r, s, u, v) (word_stands CustomField t v)
    go false p false q false r false s false u false v = rw (p, q, r, s, u, v) (no_word t p q r s u v)
