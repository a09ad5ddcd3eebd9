-- The kinds of declarations by the bytes in front: where those stand, only one kind is left of the choice.
use Rattle.std.specs.Prelude.{ℕ, ◌≡◌, refl, List, [], ◌∷◌, Bool, true, false, eqb, Option, None, Some, slice_get}
use Rattle.std.specs.List.{starts_with}
use Rattle.std.proofs.Common.{ap, sym, ◌∙◌, eq-eqb, ne_eqb}
use Rattle.meaning.specs.declared.Match.{Match}
use Rattle.meaning.specs.declared.Match.TheVariants.{Missed}
use Rattle.meaning.specs.Choice.{both, either}
use Rattle.meaning.specs.Quoted.{bytes}
use Rattle.meaning.specs.Peg.{Peg, prefixb, run, bytewise}
use Rattle.meaning.specs.Pdl.{rules, enum_declaration, packet_declaration, struct_declaration, group_declaration, checksum_declaration, custom_field_declaration, test_declaration, declaration}
use Rattle.grammar.specs.Matching.{Reads}
use Rattle.grammar.specs.Picks.{both_1, both_2}
use Rattle.grammar.specs.Steps.{reads}
use Rattle.grammar.specs.Openings.{longer, clash, clashes, opens, misses}
use Rattle.grammar.specs.Choices.{left}
use Rattle.lexis.specs.Prefixes.{starts}
use Rattle.grammar.specs.Marks.{marks_misses, marks_matches, alone}

-- ---- the byte in front
front_is : (t : List ℕ) (x : ℕ) → Some x ≡ slice_get t 0 → prefixb (x ∷ []) t ≡ true
front_is [] x e = cc
front_is (y ∷ t) x e = let q : x ≡ y = cc in rw (eq-eqb x y q)

front_not : (t : List ℕ) (x : ℕ) → (Some x ≡ slice_get t 0 → ⊥) → prefixb (x ∷ []) t ≡ false
front_not [] x n = refl
front_not (y ∷ t) x n = rw (ne_eqb x y (λ e. n (ap (λ (z : ℕ). Some z) e)))

-- ---- words that q tells, none of which stands at t
pub record Gone (q : List ℕ → Bool) (t : List ℕ) : Type 0 where
  pub gone : (l : List ℕ) → q l ≡ true → prefixb l t ≡ false

-- where w stands, those that differ from it are gone
stands : (w : List ℕ) {t : List ℕ} → prefixb w t ≡ true → Gone (clash w) t
stands w {t} h = record { gone = λ l e. clashes w l t e h }

-- where w does not stand, those that begin with it are, besides those that are gone already
nor : (w : List ℕ) {q : List ℕ → Bool} {t : List ℕ} → prefixb w t ≡ false → Gone q t → Gone (λ l. either (prefixb w l) (q l)) t
nor w {q} {t} h k = record { gone = λ l e. go l (prefixb w l) refl e }
  where
    go : (l : List ℕ) (b : Bool) → prefixb w l ≡ b → either b (q l) ≡ true → prefixb l t ≡ false
    go l true i e = longer w l t i h
    go l false i e = k.gone l e

-- the byte in front, or two
pub by_byte : {t : List ℕ} {b : ℕ} (x : ℕ) → Some b ≡ slice_get t 0 → b ≡ x → Gone (clash (x ∷ [])) t
by_byte {t} x h e = stands (x ∷ []) (front_is t x (ap (λ (z : ℕ). Some z) (sym e) ∙ h))

module _ (w : List ℕ) {t : List ℕ} where
  pub with_text : true ≡ starts_with eqb t w → Gone (clash w) t
  with_text e = stands w (sym (e ∙ starts w t))

  pub without_text : {q : List ℕ → Bool} → false ≡ starts_with eqb t w → Gone q t → Gone (λ l. either (prefixb w l) (q l)) t
  without_text e k = nor w (sym (e ∙ starts w t)) k

-- ---- what is gone, and the kind that is left
pub data Only : (List ℕ → Bool) → Peg → Type 0 where
  enums : Only (clash (bytes "e")) enum_declaration
  packets : Only (clash (bytes "p")) packet_declaration
  structs : Only (clash (bytes "s")) struct_declaration
  groups : Only (clash (bytes "g")) group_declaration
  customs : Only (clash (bytes "cu")) custom_field_declaration
  checksums : Only (λ l. either (prefixb (bytes "cu") l) (clash (bytes "c") l)) checksum_declaration
  tests : Only (clash (bytes "t")) test_declaration

one_left : {q : List ℕ → Bool} {g : Peg} → Only q g → left q (bytewise declaration) ≡ bytewise g
unfolding rules
one_left enums = refl
one_left packets = refl
one_left structs = refl
one_left groups = refl
one_left customs = refl
one_left checksums = refl
one_left tests = refl

-- each has a name, behind whose last byte a further one was tried
marks : {q : List ℕ → Bool} {g : Peg} → Only q g → both (marks_misses (bytewise g)) (marks_matches (bytewise g)) ≡ true
unfolding rules
marks enums = refl
marks packets = refl
marks structs = refl
marks groups = refl
marks customs = refl
marks checksums = refl
marks tests = refl

pub kind_is : {q : List ℕ → Bool} {g : Peg} {t : List ℕ} {r : Match} → Only q g → Gone q t → Reads g t r → Reads declaration t r
kind_is {q} {g} {t} {r} k h d =
    let e = one_left k in
    let m : Peg = bytewise g in
    reads declaration t r
    (d.is ∙ ap (λ (p : Peg). run p t) (sym e)
    ∙ sym (alone q t h.gone (bytewise declaration) (ap marks_misses e ∙ both_1 (marks_misses m) (marks_matches m) (marks k))
    (ap marks_matches e ∙ both_2 (marks_misses m) (marks_matches m) (marks k))))

-- ---- where none of the six bytes stands, no kind is left
nothing : {t : List ℕ} → Gone (λ l. false) t
nothing = record { gone = λ l e. cc }

abbrev six : List ℕ → Bool
six l =
    either (prefixb (bytes "e") l) (either (prefixb (bytes "p") l) (either (prefixb (bytes "s") l)
    (either (prefixb (bytes "g") l) (either (prefixb (bytes "c") l) (either (prefixb (bytes "t") l) false)))))

all_six : opens six (bytewise declaration) ≡ true
unfolding rules
all_six = refl

kind_none : {t : List ℕ} → ((x : ℕ) → six (x ∷ []) ≡ true → Some x ≡ slice_get t 0 → ⊥) → Reads declaration t (Missed 1)
kind_none {t} n =
    let not : (x : ℕ) → six (x ∷ []) ≡ true → prefixb (x ∷ []) t ≡ false = λ x e. front_not t x (n x e) in
    let all = nor (bytes "e") (not 101 refl) (nor (bytes "p") (not 112 refl) (nor (bytes "s") (not 115 refl)
    (nor (bytes "g") (not 103 refl) (nor (bytes "c") (not 99 refl) (nor (bytes "t") (not 116 refl) nothing))))) in
    reads declaration t (Missed 1) (sym (misses six t all.gone (bytewise declaration) all_six))

pub kind_empty : {t : List ℕ} → None ≡ slice_get t 0 → Reads declaration t (Missed 1)
kind_empty h = kind_none (λ x e i. cc)

pub kind_other : {t : List ℕ} {b : ℕ} → Some b ≡ slice_get t 0 → (b ≡ 101 → ⊥) → (b ≡ 112 → ⊥) → (b ≡ 115 → ⊥) → (b ≡ 103 → ⊥) → (b ≡ 116 → ⊥) → (b ≡ 99 → ⊥)
    → Reads declaration t (Missed 1)
kind_other {t} {b} h e p s g k c =
    let no : (x : ℕ) → (b ≡ x → ⊥) → eqb x b ≡ false = λ x n. ne_eqb x b (λ i. n (sym i)) in
    let o : six (b ∷ []) ≡ false = rw (no 101 e, no 112 p, no 115 s, no 103 g, no 116 k, no 99 c) in
    kind_none (λ x w i. let q : x ≡ b = cc in let z : true ≡ false = sym w ∙ ap (λ (y : ℕ). six (y ∷ [])) q ∙ o in cc)
