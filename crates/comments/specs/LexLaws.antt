-- The pass, token by token.
use Rattle.std.specs.Prelude.{ℕ, zero, suc, ◌+◌, ◌-◌, ◌<◌, ◌≡◌, refl, Bool, true, false, length, drop, eqb}
use Rattle.std.proofs.Common.{arith, add-zero, sym, ◌∙◌, eqb-true}
use Rattle.std.proofs.Math.Path.{ap}
use mathlib.Core.List.{List, [], ◌∷◌, ◌++◌}
use Rattle.meaning.specs.declared.Match.{Match}
use Rattle.meaning.specs.declared.Match.TheVariants.{Missed, Took}
use Rattle.meaning.specs.Choice.{pick}
use Rattle.meaning.specs.Peg.{run, bytewise, hit, taken}
use Rattle.meaning.specs.Pdl.{COMMENT, string}
use Rattle.meaning.specs.Tables.{Item}
use Rattle.meaning.specs.Walk.{comment_row}
use Rattle.grammar.specs.Matching.{eats}
use Rattle.grammar.specs.Hits.{no_hit}
use Rattle.grammar.specs.Stars.{hit_pos}
use Rattle.text.specs.ChoiceLaws.{never}
use Rattle.lexis.specs.Classes.{suc_if, span}
use Rattle.lexis.specs.Skips.{no_comment, none_commented, eats_comment}
use Rattle.comments.specs.Lex.{token, lex}

-- ---- over the bytes of a token
lex_skip : (src : List ℕ) (k o : ℕ) (t : List ℕ) → lex src k o t ≡ lex src 0 (o + k) (drop k t)
unfolding lex
lex_skip src zero o t = rw add-zero
lex_skip src (suc k) o [] = refl
lex_skip src (suc k) o (x ∷ t) = let e : o + 1 + k ≡ o + suc k = omega arith in lex_skip src k (o + 1) t ∙ rw e

pub lex_none : (src : List ℕ) (k o : ℕ) (t : List ℕ) → length t ≡ 0 → lex src k o t ≡ []
unfolding lex
lex_none src k o [] h = refl
lex_none src k o (x ∷ t) h = absurd (omega arith)

-- ---- a comment starts with a slash, and a string with a quote
pub no_string : (x : ℕ) (t : List ℕ) → eqb 34 x ≡ false → hit (run (bytewise string) (x ∷ t)) ≡ false
unfolding string run
no_string x t e = simp e

-- a string is no comment
string_only : (x : ℕ) (t : List ℕ) → hit (run (bytewise string) (x ∷ t)) ≡ true → hit (run (bytewise COMMENT) (x ∷ t)) ≡ false
string_only x t h = go (eqb 47 x) refl
  where
    go : (b : Bool) → eqb 47 x ≡ b → hit (run (bytewise COMMENT) (x ∷ t)) ≡ false
    go true e = let q : 47 ≡ x = eqb-true 47 x e in let z : true ≡ false = sym h ∙ no_string x t (rw (← q)) in cc
    go false e = no_comment x t e

-- each takes a byte, and so none of an empty text
pub string_eats : eats (bytewise string) ≡ true
unfolding string
string_eats = refl

nothing : hit (run (bytewise COMMENT) []) ≡ true → ⊥
nothing h = never (sym none_commented ∙ h)

nothing_quoted : hit (run (bytewise string) []) ≡ true → ⊥
unfolding string run
nothing_quoted h = never h

-- ---- each kind of token
token_miss : (src : List ℕ) (o : ℕ) (m s : Match) (rest : ℕ → List Item) → hit m ≡ false → hit s ≡ false → token src o m s rest ≡ rest 0
token_miss src o (Missed f) (Missed g) rest e h = refl
token_miss src o (Missed f) (Took n g) rest e h = cc
token_miss src o (Took n f) s rest e h = cc

token_string : (src : List ℕ) (o : ℕ) (m s : Match) (rest : ℕ → List Item) → hit m ≡ false → hit s ≡ true → token src o m s rest ≡ rest (taken s - 1)
token_string src o (Missed f) (Missed g) rest e h = no_hit g h
token_string src o (Missed f) (Took n g) rest e h = refl
token_string src o (Took n f) s rest e h = cc

token_comment : (src : List ℕ) (o : ℕ) (m s : Match) (rest : ℕ → List Item) → hit m ≡ true
    → token src o m s rest ≡ comment_row src o (taken m) ++ rest (taken m - 1)
token_comment src o (Missed f) s rest e = no_hit f e
token_comment src o (Took n f) s rest e = refl

module _ (src : List ℕ) (o : ℕ) where
  -- from the next byte on, over the rest of n bytes
  onward : (x : ℕ) (t : List ℕ) (n : ℕ) → 0 < n → lex src (n - 1) (o + 1) t ≡ lex src 0 (o + n) (drop n (x ∷ t))
  onward x t zero h = absurd (omega arith)
  onward x t (suc n) h =
      let e : o + 1 + n ≡ o + suc n = omega arith in
      let d : suc n - 1 ≡ n = omega arith in
      rw d (lex_skip src n (o + 1) t ∙ rw e)

  pub lex_on : (x : ℕ) (t : List ℕ) → hit (run (bytewise COMMENT) (x ∷ t)) ≡ false → hit (run (bytewise string) (x ∷ t)) ≡ false
      → lex src 0 o (x ∷ t) ≡ lex src 0 (o + 1) t
  unfolding lex
  lex_on x t h k = token_miss src o (run (bytewise COMMENT) (x ∷ t)) (run (bytewise string) (x ∷ t)) (λ j. lex src j (o + 1) t) h k

  pub lex_plain : (x : ℕ) (t : List ℕ) → eqb 47 x ≡ false → eqb 34 x ≡ false → lex src 0 o (x ∷ t) ≡ lex src 0 (o + 1) t
  lex_plain x t h k = lex_on x t (no_comment x t h) (no_string x t k)

  pub lex_comment : (t : List ℕ) → hit (run (bytewise COMMENT) t) ≡ true
      → lex src 0 o t
      ≡ comment_row src o (taken (run (bytewise COMMENT) t))
      ++ lex src 0 (o + taken (run (bytewise COMMENT) t)) (drop (taken (run (bytewise COMMENT) t)) t)
  unfolding lex
  lex_comment [] h = absurd (nothing h)
  lex_comment (x ∷ t) h =
      token_comment src o (run (bytewise COMMENT) (x ∷ t)) (run (bytewise string) (x ∷ t)) (λ j. lex src j (o + 1) t) h
      ∙ ap (λ (ys : List Item). comment_row src o (taken (run (bytewise COMMENT) (x ∷ t))) ++ ys)
      (onward x t (taken (run (bytewise COMMENT) (x ∷ t))) (hit_pos (bytewise COMMENT) (x ∷ t) eats_comment h))

  pub lex_string : (t : List ℕ) → hit (run (bytewise string) t) ≡ true
      → lex src 0 o t ≡ lex src 0 (o + taken (run (bytewise string) t)) (drop (taken (run (bytewise string) t)) t)
  unfolding lex
  lex_string [] h = absurd (nothing_quoted h)
  lex_string (x ∷ t) h =
      token_string src o (run (bytewise COMMENT) (x ∷ t)) (run (bytewise string) (x ∷ t)) (λ j. lex src j (o + 1) t) (string_only x t h) h
      ∙ onward x t (taken (run (bytewise string) (x ∷ t))) (hit_pos (bytewise string) (x ∷ t) string_eats h)

-- over bytes that neither a comment nor a string starts with
abbrev pub plain_byte : ℕ → Bool
plain_byte x = pick (eqb 47 x) false (pick (eqb 34 x) false true)

pub not_first : (a b : Bool) → pick a false (pick b false true) ≡ true → a ≡ false
not_first true b e = cc
not_first false b e = refl

pub not_second : (a b : Bool) → pick a false (pick b false true) ≡ true → b ≡ false
not_second true b e = cc
not_second false true e = cc
not_second false false e = refl

pub lex_run : (src : List ℕ) (o : ℕ) (t : List ℕ) → lex src 0 o t ≡ lex src 0 (o + span plain_byte t) (drop (span plain_byte t) t)
unfolding span
lex_run src o [] = rw add-zero
lex_run src o (x ∷ t) = go (plain_byte x) refl (lex_run src (o + 1) t)
  where
    n : ℕ
    n = span plain_byte t

    go : (b : Bool) → plain_byte x ≡ b → lex src 0 (o + 1) t ≡ lex src 0 (o + 1 + n) (drop n t)
        → lex src 0 o (x ∷ t) ≡ lex src 0 (o + suc_if b n) (drop (suc_if b n) (x ∷ t))
    go true e h =
        let q : o + 1 + n ≡ o + suc n = omega arith in
        lex_plain src o x t (not_first (eqb 47 x) (eqb 34 x) e) (not_second (eqb 47 x) (eqb 34 x) e) ∙ h ∙ rw q
    go false e h = rw add-zero
