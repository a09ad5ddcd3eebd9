-- The kinds that start with an underscore, told by the letters behind it; a text with none in front is none of them.
use Rattle.std.specs.Prelude.{ℕ, ◌≡◌, refl, List, Bool, true, false, eqb, Option, None, Some}
use Rattle.std.specs.List.{starts_with}
use Rattle.std.proofs.Common.{arith, sym, ◌∙◌}
use Rattle.meaning.specs.declared.Match.TheVariants.{Missed}
use Rattle.meaning.specs.Quoted.{bytes}
use Rattle.meaning.specs.Peg.{Peg, alt, prefixb, bytewise}
use Rattle.meaning.specs.Forest.{Forest}
use Rattle.meaning.specs.Pdl.{size_field, count_field, body_field, payload_field, fixed_field, reserved_field}
use Rattle.meaning.specs.Everything.{everything}
use Rattle.grammar.specs.Hits.{no_hit}
use Rattle.grammar.specs.Steps.{reads}
use Rattle.grammar.specs.Drawing.{Draws}
use Rattle.grammar.specs.Openings.{longer, clash, clashes, opens, misses}
use Rattle.lexis.specs.Prefixes.{starts}
use Rattle.spans.specs.declared.Matched.{Matched}
use Rattle.spans.specs.declared.FieldDesc.{FieldDesc}
use Rattle.spans.specs.Answers.{Described}
use Rattle.fields.specs.declared.WordKind.{WordKind}
use Rattle.grammar.specs.Behind.{Behind, behind, behind_none}
use Rattle.fields.specs.Kinds.{word_fields, field_of}

-- each match of theirs begins with an underscore
all_marked : opens (prefixb (bytes "_")) (bytewise word_fields) ≡ true
unfolding everything word_fields
all_marked = refl

pub no_word : {t : List ℕ} {w : ℕ → Forest} → false ≡ starts_with eqb t (bytes "_") → Draws word_fields t (Missed 1) w
no_word {t} {w} e =
    let absent : prefixb (bytes "_") t ≡ false = sym (e ∙ starts (bytes "_") t) in
    record {
      reads = reads word_fields t (Missed 1) (sym (misses (prefixb (bytes "_")) t (λ l p. longer (bytes "_") l t p absent) (bytewise word_fields) all_marked));
      draws = λ k o. no_hit 1 k;
    }

-- ---- of the choice g only k can match where none of the texts stands that q tells
pub data Only (q : List ℕ → Bool) (k : Peg) : Peg → Type 0 where
  here : {a : Peg} → opens q a ≡ true → Only q k (alt a k)
  more : {a b : Peg} → Only q k a → opens q b ≡ true → Only q k (alt a b)

module _ (q : List ℕ → Bool) (t : List ℕ) (gone : (l : List ℕ) → q l ≡ true → prefixb l t ≡ false) where
  sole : {k g : Peg} → Only q k g → Behind 1 k g t
  sole (here {a = a} e) = behind t 1 a _ (misses q t gone a e)
  sole (more {b = b} s e) = behind_none t b (omega arith) (sole s) (misses q t gone b e)

-- where the letters w stand, no text does that differs from them
pub stands : {t : List ℕ} {k g : Peg} (w : List ℕ) → Only (clash w) k g → true ≡ starts_with eqb t w → Behind 1 k g t
stands {t} w s e = sole (clash w) t (λ l c. clashes w l t c (sym (e ∙ starts w t))) s

-- the letters that tell a kind from all others
pub sole_count : Only (clash (bytes "_co")) (bytewise count_field) (bytewise word_fields)
unfolding everything word_fields
sole_count = more (more (more (more (more (here refl) refl) refl) refl) refl) refl

pub sole_size : Only (clash (bytes "_s")) (bytewise size_field) (bytewise word_fields)
unfolding everything word_fields
sole_size = more (more (more (more (more (more (here refl) refl) refl) refl) refl) refl) refl

pub sole_body : Only (clash (bytes "_b")) (bytewise body_field) (bytewise word_fields)
unfolding everything word_fields
sole_body = more (more (more (here refl) refl) refl) refl

pub sole_payload : Only (clash (bytes "_pay")) (bytewise payload_field) (bytewise word_fields)
unfolding everything word_fields
sole_payload = more (more (here refl) refl) refl

pub sole_fixed : Only (clash (bytes "_f")) (bytewise fixed_field) (bytewise word_fields)
unfolding everything word_fields
sole_fixed = more (here refl) refl

pub sole_reserved : Only (clash (bytes "_r")) (bytewise reserved_field) (bytewise word_fields)
unfolding everything word_fields
sole_reserved = here refl

-- no other kind than this one can stand here
abbrev pub Sole : List ℕ → Option WordKind → Type 0
Sole t None = Unit {0}
Sole t (Some kind) = Behind 1 (bytewise (field_of kind)) (bytewise word_fields) t

-- r answers the kind, where no other can stand
pub record OnlyKind (kind : WordKind) (t : List ℕ) (r : Matched FieldDesc) : Type 0 where
  pub answers : Sole t (Some kind) → Described word_fields t r
