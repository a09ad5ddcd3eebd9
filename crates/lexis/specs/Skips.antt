-- A blank run: it always takes, its mark is 0, and behind it stands no other. A comment starts with a slash.
use Rattle.std.specs.Prelude.{ℕ, ◌≤◌, ◌≡◌, refl, List, [], ◌∷◌, true, false, length, drop, eqb}
use Rattle.std.proofs.Common.{arith, ap, sym, ◌∙◌}
use Rattle.meaning.specs.declared.Match.{Match}
use Rattle.meaning.specs.declared.Match.TheVariants.{Missed, Took}
use Rattle.meaning.specs.Peg.{Peg, seq, star, hushed, run, bytewise, hit, taken}
use Rattle.meaning.specs.Pdl.{WHITESPACE, block_comment, line_comment, COMMENT, skip}
use Rattle.grammar.specs.Matching.{Reads, eats}
use Rattle.grammar.specs.Hits.{hit_seq, hit_star}
use Rattle.grammar.specs.Fits.{within_run}
use Rattle.grammar.specs.Steps.{took_le}
use Rattle.grammar.specs.Blanks.{blanks_twice}

pub record Skips (t : List ℕ) (r : ℕ) : Type 0 where
  pub is : run (bytewise skip) t ≡ Took r 0
  pub fits : r ≤ length t

-- ---- skip always takes
hush_hit : (m : Match) → hit m ≡ true → hushed m ≡ Took (taken (hushed m)) 0
hush_hit (Missed f) e = cc
hush_hit (Took n f) e = refl

pub skip_takes : (t : List ℕ) → run (bytewise skip) t ≡ Took (taken (run (bytewise skip) t)) 0
unfolding run skip
skip_takes t =
    let a : Peg = star (bytewise WHITESPACE) in
    let b : Peg = star (seq (bytewise COMMENT) a) in
    hush_hit (run (seq a b) t)
    (hit_seq a b t (hit_star (seq (bytewise COMMENT) a) (drop (taken (run a t)) t)) ∙ hit_star (bytewise WHITESPACE) t)

pub hit_skip : (t : List ℕ) → hit (run (bytewise skip) t) ≡ true
hit_skip t = ap hit (skip_takes t)

skip_fits : (t : List ℕ) (r : ℕ) → run (bytewise skip) t ≡ Took r 0 → r ≤ length t
skip_fits t r e = took_le (run (bytewise skip) t) t r 0 (within_run (bytewise skip) t) e

pub skips : (t : List ℕ) → Skips t (taken (run (bytewise skip) t))
skips t = record { is = skip_takes t; fits = skip_fits t (taken (run (bytewise skip) t)) (skip_takes t) }

-- as a match
pub skip_reads : {t : List ℕ} {r : ℕ} → Skips t r → Reads skip t (Took r 0)
skip_reads h = record { is = sym h.is; fits = (h.fits, omega arith) }

-- ---- blanks behind blanks are none
eats_space : eats (bytewise WHITESPACE) ≡ true
unfolding WHITESPACE
eats_space = refl

pub eats_comment : eats (bytewise COMMENT) ≡ true
unfolding COMMENT block_comment line_comment
eats_comment = refl

pub skip_twice : (t : List ℕ) → taken (run (bytewise skip) (drop (taken (run (bytewise skip) t)) t)) ≡ 0
unfolding skip COMMENT block_comment line_comment
skip_twice t = blanks_twice (bytewise WHITESPACE) (bytewise COMMENT) eats_space refl t

-- ---- a comment starts with a slash
pub no_comment : (x : ℕ) (t : List ℕ) → eqb 47 x ≡ false → hit (run (bytewise COMMENT) (x ∷ t)) ≡ false
unfolding COMMENT block_comment line_comment run
no_comment x t e = simp e

pub none_commented : hit (run (bytewise COMMENT) []) ≡ false
unfolding COMMENT block_comment line_comment run
none_commented = refl
