-- The nodes of a file that the grammar matches: the endianness line, all declarations, the end.
use Rattle.std.specs.Prelude.{ℕ, ◌+◌, ◌-◌, ◌≤◌, ◌≡◌, List, [], ◌∷◌, true, length, drop}
use native.Mathlib.Omega.{arith}
use Rattle.std.proofs.Math.Nat.{zero-add}
use Rattle.std.proofs.Math.Path.{refl, ap}
use Rattle.std.proofs.Common.{sym, ◌∙◌, append-nil, length-drop, drop-drop}
use Rattle.meaning.specs.declared.Match.{Match}
use Rattle.meaning.specs.declared.Match.TheVariants.{Missed, Took}
use Rattle.meaning.specs.Rules.{Rule}
use Rattle.meaning.specs.Peg.{seq, star, after, run, bytewise, hit, taken}
use Rattle.meaning.specs.Forest.{Forest, nil, tree, ◌⊕◌, nodes}
use Rattle.meaning.specs.Pdl.{repeat, skip, endianness_declaration, declaration, SOI, EOI, file}
use Rattle.meaning.specs.Walk.{part, parse_toplevel}
use Rattle.grammar.specs.Matching.{Within, Steps}
use Rattle.grammar.specs.Hits.{hit_before, hit_behind, taken_after}
use Rattle.grammar.specs.Steps.{reads, steps}
use Rattle.grammar.specs.Silence.{leaf_of}
use Rattle.grammar.specs.Lists.{repeat_nodes}
use Rattle.grammar.specs.Drawing.{Draws, Follows, from_start, whole, drawn, leaf, then, draws_rule, retold}
use Rattle.lexis.specs.Skips.{skip_takes}
use Rattle.lexis.specs.Leaves.{skip_none, endianness_declaration_leaf}
use Rattle.spans.specs.Parts.{gap, sign}
use Rattle.declarations.specs.Files.{begun, declaration_eats}
use Rattle.declaration_rows.specs.Lists.{rest}
use Rattle.declaration_rows.specs.ListLaws.{toplevel-⊕}
use Rattle.reading.specs.Lines.{line_start, line_length, line_end}

EOI_leaf : (o : ℕ) (t : List ℕ) → hit (run (bytewise EOI) t) ≡ true → nodes (bytewise EOI) o t ≡ tree Rule.EOI o (taken (run (bytewise EOI) t)) nil nil
unfolding EOI
EOI_leaf o t h = leaf_of Rule.EOI _ refl refl o t h

start_follows : (t : List ℕ) → Follows (Took 0 0) SOI t (Took 0 0) (λ o. nil)
unfolding SOI
start_follows t = sign (from_start begun)

-- blanks and all declarations: the turns of one star
all_nodes : (o : ℕ) (t : List ℕ) → nodes (bytewise (seq skip (repeat declaration))) o t ≡ nodes (star (bytewise (seq skip declaration))) o t
all_nodes o t = repeat_nodes (bytewise skip) (bytewise declaration) (λ u. ap hit (skip_takes u)) skip_none declaration_eats o t

-- the end of input has nothing behind it
at_end_lem : (u : List ℕ) → hit (run (bytewise EOI) u) ≡ true → length u ≡ 0
unfolding run EOI
at_end_lem [] h = refl
at_end_lem (x ∷ u) h = absurd (let z : ◌≡◌ {A = ℕ} 0 1 = cc in omega arith)

module _ (t : List ℕ) where
  fitting : (m : Match) → Within m t → taken m ≤ length t
  fitting (Missed f) w = omega arith
  fitting (Took n f) w = w.0

  -- the match of each part
  abbrev start : Match
  start = run (bytewise skip) t

  abbrev line : Match
  line = after start (λ u. run (bytewise endianness_declaration) u) t

  abbrev more : Match
  more = after line (λ u. run (bytewise (seq skip (repeat declaration))) u) t

  abbrev last : Match
  last = after more (λ u. run (bytewise skip) u) t

  abbrev end : Match
  end = after last (λ u. run (bytewise EOI) u) t

  s_start : Steps (Took 0 0) skip t start
  s_start = from_start (reads skip t start refl)

  s_line : Steps start endianness_declaration t line
  s_line = steps start endianness_declaration t line s_start.fits refl

  s_more : Steps line (seq skip (repeat declaration)) t more
  s_more = steps line (seq skip (repeat declaration)) t more s_line.fits refl

  s_last : Steps more skip t last
  s_last = steps more skip t last s_more.fits refl

  s_end : Steps last EOI t end
  s_end = steps last EOI t end s_last.fits refl

  -- where the nodes start, if the text stands at o
  abbrev drawing : ℕ → Forest
  drawing o =
      tree Rule.endianness_declaration (o + taken start) (taken line - taken start) nil
      (nodes (star (bytewise (seq skip declaration))) (o + taken line) (drop (taken line) t)
      ⊕ tree Rule.EOI (o + taken last) (taken end - taken last) nil nil)

  file_drawn : Draws file t end (λ o. tree Rule.file o (taken end) (drawing o) nil)
  unfolding file
  file_drawn =
      draws_rule Rule.file refl
      (whole
      (then
      (then (then (start_follows t) (then (gap s_start) (leaf endianness_declaration_leaf s_line)))
      (retold (drawn s_more) (λ h o. all_nodes (o + taken line) (drop (taken line) t))))
      (then (gap s_last) (leaf EOI_leaf s_end))))

  module _ (h : hit (run (bytewise file) t) ≡ true) where
    hit_end : hit end ≡ true
    hit_end = ap hit file_drawn.reads.is ∙ h

    hit_line : hit line ≡ true
    hit_line =
        hit_before line (λ u. run (bytewise (seq skip (repeat declaration))) u) t
        (hit_before more (λ u. run (bytewise skip) u) t (hit_before last (λ u. run (bytewise EOI) u) t hit_end))

    -- where the file matches, its line does
    pub line_hit : hit (run (bytewise endianness_declaration) (drop (line_start t) t)) ≡ true
    unfolding line_start
    line_hit = hit_behind start (λ u. run (bytewise endianness_declaration) u) t hit_line

    line_taken : taken line ≡ line_end t
    unfolding line_start line_length
    line_taken = taken_after start (λ u. run (bytewise endianness_declaration) u) t hit_line

    file_kids : (part Rule.file (nodes (bytewise file) 0 t)).kids
        ≡ tree Rule.endianness_declaration (line_start t) (line_length t) nil
        (rest t (line_end t) ⊕ tree Rule.EOI (0 + taken last) (taken end - taken last) nil nil)
    unfolding rest line_start
    file_kids =
        let e : taken start + line_length t - taken start ≡ line_length t = omega arith in
        ap (λ (w : Forest). (part Rule.file w).kids) (file_drawn.draws hit_end 0) ∙ rw (zero-add (taken start), zero-add (taken line), line_taken, e)

    -- where the declarations and the blanks behind them end, the source does
    pub ends_there : line_end t + (taken (run (bytewise (seq skip (repeat declaration))) (drop (line_end t) t))
        + taken (run (bytewise skip) (drop (taken (run (bytewise (seq skip (repeat declaration))) (drop (line_end t) t))) (drop (line_end t) t)))) ≡ length t
    ends_there =
        let h_last : hit last ≡ true = hit_before last (λ u. run (bytewise EOI) u) t hit_end in
        let h_more : hit more ≡ true = hit_before more (λ u. run (bytewise skip) u) t h_last in
        let m : taken more ≡ line_end t + taken (run (bytewise (seq skip (repeat declaration))) (drop (line_end t) t))
        = taken_after line (λ u. run (bytewise (seq skip (repeat declaration))) u) t h_more
        ∙ ap (λ (i : ℕ). i + taken (run (bytewise (seq skip (repeat declaration))) (drop i t))) line_taken in
        let d : drop (taken more) t ≡ drop (taken (run (bytewise (seq skip (repeat declaration))) (drop (line_end t) t))) (drop (line_end t) t)
        = ap (λ (i : ℕ). drop i t) m ∙ sym (drop-drop (taken (run (bytewise (seq skip (repeat declaration))) (drop (line_end t) t))) (line_end t) t) in
        omega (
          arith,
          m,
          taken_after more (λ u. run (bytewise skip) u) t h_last,
          ap (λ (u : List ℕ). taken (run (bytewise skip) u)) d,
          at_end_lem (drop (taken last) t) (hit_behind last (λ u. run (bytewise EOI) u) t hit_end),
          length-drop (taken last) t,
          fitting last s_last.fits,
        )

    -- the line's node
    pub line_node : (part Rule.endianness_declaration (part Rule.file (nodes (bytewise file) 0 t)).kids).start ≡ line_start t
    line_node = ap (λ (w : Forest). (part Rule.endianness_declaration w).start) file_kids

    pub line_node_length : (part Rule.endianness_declaration (part Rule.file (nodes (bytewise file) 0 t)).kids).len ≡ line_length t
    line_node_length = ap (λ (w : Forest). (part Rule.endianness_declaration w).len) file_kids

-- ---- the walk over them
-- the end adds nothing behind the declarations
end_adds : (src : List ℕ) (w : Forest) (s l : ℕ) → parse_toplevel src [] (w ⊕ tree Rule.EOI s l nil nil) ≡ parse_toplevel src [] w
unfolding parse_toplevel
end_adds src w s l = toplevel-⊕ src [] w (tree Rule.EOI s l nil nil) ∙ append-nil (parse_toplevel src [] w)

-- nor does the line before them
pub file_walk : (t : List ℕ) → hit (run (bytewise file) t) ≡ true
    → parse_toplevel t [] (part Rule.file (nodes (bytewise file) 0 t)).kids ≡ parse_toplevel t [] (rest t (line_end t))
unfolding parse_toplevel
file_walk t h =
    ap (λ (w : Forest). parse_toplevel t [] w) (file_kids t h) ∙ end_adds t (rest t (line_end t)) (0 + taken (last t)) (taken (end t) - taken (last t))
