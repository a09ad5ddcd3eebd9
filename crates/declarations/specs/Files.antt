-- The file, and the place of 3 (01) by bytes.
use Rattle.std.specs.Prelude.{ℕ, ◌≡◌, refl, List, [], ◌∷◌, true, length}
use Rattle.std.proofs.Common.{arith, ap, ap₂, sym, ◌∙◌}
use Rattle.meaning.specs.declared.Match.{Match}
use Rattle.meaning.specs.declared.Match.TheVariants.{Missed, Took}
use Rattle.meaning.specs.Choice.{pick}
use Rattle.meaning.specs.Utf8.{valid}
use Rattle.meaning.specs.Peg.{Peg, seq, run, bytewise, hit, taken}
use Rattle.meaning.specs.Forest.{outcome, eval}
use Rattle.meaning.specs.Pdl.{SOI, EOI, skip, declaration, file, file_start, file_line, file_head, rules}
use Rattle.meaning.specs.Reading.{unmatched}
use Rattle.grammar.specs.Matching.{Reads, eats}
use Rattle.grammar.specs.Settled.{reads_settled}
use Rattle.grammar.specs.Agree.{same}
use Rattle.grammar.specs.Steps.{reads}
use Rattle.grammar.specs.Bytewise.{file_start_joined, file_line_joined, file_head_joined}
use Rattle.declarations.specs.declared.files.FileMatch.{FileMatch}

-- after leading blanks; or after blanks behind the last whole declaration
abbrev pub placed : List ℕ → ℕ
placed t = pick (hit (run (bytewise file_line) t)) (taken (run (bytewise file_head) t)) (taken (run (bytewise file_start) t))

pub record Files (t : List ℕ) (r : FileMatch) : Type 0 where
  pub reads : Reads file t r.at
  pub place : r.place ≡ placed t

-- no two answers satisfy it
pub files_settled : {t : List ℕ} {r s : FileMatch} → Files t r → Files t s → r ≡ s
files_settled x y = ap₂ (λ (m : Match) (p : ℕ). record { at = m; place = p }) (reads_settled x.reads y.reads) (x.place ∙ sym y.place)

-- the start of input takes nothing
pub begun : {t : List ℕ} → Reads SOI t (Took 0 0)
unfolding run SOI
begun {t} = reads SOI t (Took 0 0) refl

-- the end of input
pub ended : (t : List ℕ) → length t ≡ 0 → Reads EOI t (Took 0 0)
unfolding run EOI
ended [] h = reads EOI [] (Took 0 0) refl
ended (x ∷ t) h = absurd (omega arith)

pub unended : (t : List ℕ) → (length t ≡ 0 → ⊥) → Reads EOI t (Missed 1)
unfolding run EOI
unended [] h = absurd (h refl)
unended (x ∷ t) h = reads EOI (x ∷ t) (Missed 1) refl

-- a declaration takes a byte
pub declaration_eats : eats (bytewise (seq skip declaration)) ≡ true
unfolding rules
declaration_eats = refl

-- the place from the three matches
pub place_is : {t : List ℕ} {a b d : Match} {p : ℕ} → Reads file_start t a → Reads file_line t b → Reads file_head t d → p ≡ pick (hit b) (taken d) (taken a)
    → p ≡ placed t
place_is f l h e = e ∙ rw (f.is, l.is, h.is)

-- ---- the same place by characters, as the meaning has it
by_characters : (g : Peg) (t : List ℕ) → eval (bytewise g) 0 t ≡ eval g 0 t → run (bytewise g) t ≡ run g t
by_characters g t e = sym (same (bytewise g) 0 t) ∙ ap outcome e ∙ same g 0 t

pub placed_unmatched : (t : List ℕ) → valid t ≡ length t → placed t ≡ unmatched t
unfolding unmatched
placed_unmatched t v =
    rw (
      by_characters file_line t (file_line_joined 0 t v),
      by_characters file_head t (file_head_joined 0 t v),
      by_characters file_start t (file_start_joined 0 t v),
    )
