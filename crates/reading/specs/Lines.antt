-- The endianness line: where it starts and where it ends.
use Prim.Native.Nat.{ℕ, ◌+◌, ◌-◌, ◌≤◌}
use Rattle.std.proofs.Common.{arith, ◌∙◌}
use Rattle.std.specs.Prelude.{◌≡◌, List, length, take, drop}
use Rattle.std.proofs.Math.Path.{ap, ap₂, sym}
use Rattle.meaning.specs.declared.Match.{Match}
use Rattle.meaning.specs.Peg.{run, bytewise, taken}
use Rattle.meaning.specs.Pdl.{skip, endianness_declaration}
use Rattle.grammar.specs.Matching.{Reads}
use Rattle.grammar.specs.Steps.{at}
use Rattle.grammar.specs.Limits.{took_inside}
use Rattle.lexis.specs.Skips.{Skips}
use Rattle.reading.specs.declared.files.Line.{Line}

unfoldable pub line_start : List ℕ → ℕ
line_start src = taken (run (bytewise skip) src)

unfoldable pub line_length : List ℕ → ℕ
line_length src = taken (run (bytewise endianness_declaration) (drop (line_start src) src))

abbrev pub line_end : List ℕ → ℕ
line_end src = line_start src + line_length src

pub record Lined (src : List ℕ) (r : Line) : Type 0 where
  pub starts : r.start ≡ line_start src
  pub ends : r.end ≡ line_end src
  pub within : line_end src ≤ length src

-- the blanks and what follows them, as they were matched
module _ {src : List ℕ} {a : ℕ} {m : Match} (h : Skips src a) (r : Reads endianness_declaration (take (length src - a) (drop a src)) m) where
  pub line_fits : a + taken m ≤ length src
  line_fits = omega (arith, h.fits, took_inside src a h.fits (at a src r))

  line_starts : a ≡ line_start src
  unfolding line_start
  line_starts = sym (ap taken h.is)

  line_ends : a + taken m ≡ line_end src
  unfolding line_length
  line_ends =
      ap₂ ◌+◌ line_starts
      (ap taken (at a src r).is ∙ ap (λ (i : ℕ). taken (run (bytewise endianness_declaration) (drop i src))) line_starts)

  pub lined : (n : ℕ) → n ≡ taken m → Lined src (record { start = a; end = a + n })
  lined n e =
      let q : a + n ≡ a + taken m = ap (λ (k : ℕ). a + k) e in
      record { starts = line_starts; ends = q ∙ line_ends; within = omega (arith, line_ends, line_fits) }
