-- The walk over the declarations of a file that matches: it reaches the end of the source, and goes over the file's declarations.
use Rattle.std.specs.Prelude.{ℕ, ◌+◌, ◌≡◌, List, [], true, drop}
use Rattle.std.proofs.Common.{arith, ap, subst, sym, ◌∙◌, drop-drop}
use Rattle.meaning.specs.Peg.{seq, star, run, bytewise, hit, taken}
use Rattle.meaning.specs.Pdl.{repeat, skip, declaration, file}
use Rattle.meaning.specs.Tables.{rows_of, Lent}
use Rattle.meaning.specs.Walk.{parse_toplevel}
use Rattle.grammar.specs.Lists.{repeat_end}
use Rattle.lexis.specs.Skips.{hit_skip, skip_twice}
use Rattle.declarations.specs.Files.{declaration_eats}
use Rattle.walk.specs.declared.Door.{Door}
use Rattle.walk.specs.declared.Walk.{Walk}
use Rattle.walk.specs.State.{fresh}
use Rattle.walk.specs.Steps.{wrote_as}
use Rattle.walk.specs.Totals.{no_count, fresh_at, Tabled, tabled}
use Rattle.declaration_rows.specs.Lists.{last, rest, Reaches, Begun, GoesAll}
use Rattle.reading.specs.declared.files.Line.{Line}
use Rattle.reading.specs.Lines.{line_end, Lined}
use Rattle.reading.specs.FileNodes.{ends_there}
use Rattle.reading.specs.Sources.{Matched, declared, behind_line}

-- n bytes and the blanks behind them
abbrev blanked : List ℕ → ℕ → ℕ
blanked u n = n + taken (run (bytewise skip) (drop n u))

-- whether the blanks behind the declarations are taken with them or not, they end at the same place
same_end : (u : List ℕ)
    → blanked u (taken (run (star (bytewise (seq skip declaration))) u)) ≡ blanked u (taken (run (bytewise (seq skip (repeat declaration))) u))
same_end u =
    sym (repeat_end (bytewise skip) (bytewise declaration) hit_skip declaration_eats u (blanked u)
    (let z : blanked u (taken (run (bytewise skip) u)) ≡ blanked u 0 = omega (arith, skip_twice u) in z))

reaches : (t : List ℕ) → hit (run (bytewise file) t) ≡ true → Reaches t (line_end t)
unfolding last
reaches t h =
    omega (
      arith,
      ends_there t h,
      same_end (drop (line_end t) t),
      ap (λ (v : List ℕ). taken (run (bytewise skip) v))
          (drop-drop (taken (run (star (bytewise (seq skip declaration))) (drop (line_end t) t))) (line_end t) t),
    )

pub walk_ready : {src : List ℕ} {x : Line} {d : Door} {n : Walk} → Matched src → Lined src x → n ≡ fresh d → Begun src x.end n
unfolding rows_of
walk_ready {src} {x} {d} {n} m h e =
    subst (λ (w : Walk). Begun src x.end w) (sym e)
    (record {
      came = fresh_at d src x.end (omega (arith, h.ends, h.within));
      reaches = subst (λ (i : ℕ). Reaches src i) (sym h.ends) (reaches src m.hits);
      nothing = record { counts = λ t. sym (no_count d t) };
    })

pub walked_file : {src : List ℕ} {x : Line} {d : Door} {n r : Walk} {a b : Lent → Lent} → Matched src → Lined src x → n ≡ fresh d → GoesAll src x.end n r a b
    → Tabled (declared src) d r a b
walked_file {src} {x} {d} {n} {r} {a} {b} m h e w =
    let q : parse_toplevel src [] (rest src x.end) ≡ declared src = ap (λ (i : ℕ). parse_toplevel src [] (rest src i)) h.ends ∙ sym (behind_line m) in
    tabled (wrote_as q (rw (← e) w.wrote))
