-- What follows a declaration: blanks and the next one, or no more of them.
use Rattle.std.specs.Prelude.{ℕ, ◌+◌, ◌≤◌, ◌≡◌, refl, Bool, true, false, length, drop}
use Rattle.std.proofs.Common.{arith, ap₂, ◌∙◌, drop-drop}
use Rattle.std.proofs.Math.Path.{ap}
use mathlib.Core.List.{List}
use Rattle.meaning.specs.declared.Match.{Match}
use Rattle.meaning.specs.Peg.{seq, join, after, run, bytewise, hit, taken}
use Rattle.meaning.specs.Forest.{Forest, nil, ◌⊕◌, nodes}
use Rattle.meaning.specs.Pdl.{skip, declaration}
use Rattle.grammar.specs.Hits.{hit_join, taken_join}
use Rattle.grammar.specs.Steps.{reads}
use Rattle.grammar.specs.Stars.{star_none}
use Rattle.grammar.specs.Nodes.{nodes_seq}
use Rattle.grammar.specs.Lists.{no_turn, next_turn, next_end}
use Rattle.grammar.specs.Limits.{took_inside}
use Rattle.lexis.specs.Skips.{Skips}
use Rattle.lexis.specs.Leaves.{skip_none}
use Rattle.declarations.specs.Files.{declaration_eats}
use Rattle.declaration_rows.specs.Declarations.{takes_byte}
use Rattle.declaration_rows.specs.Lists.{rest, last, Reaches}

module _ (src : List ℕ) (j k : ℕ) (sk : Skips (drop j src) k) where
  abbrev pub next : Match
  next = run (bytewise declaration) (drop (j + k) src)

  -- a turn is a blank run of k bytes and a declaration
  turn_run : run (bytewise (seq skip declaration)) (drop j src) ≡ join k 0 next
  unfolding run
  turn_run =
      ap (λ (m : Match). after m (λ u. run (bytewise declaration) u) (drop j src)) sk.is
      ∙ ap (λ (u : List ℕ). join k 0 (run (bytewise declaration) u)) (drop-drop k j src)

  turn_hit : hit (run (bytewise (seq skip declaration)) (drop j src)) ≡ hit next
  turn_hit = ap hit turn_run ∙ hit_join k 0 next

  turn_taken : hit next ≡ true → taken (run (bytewise (seq skip declaration)) (drop j src)) ≡ k + taken next
  turn_taken h = ap taken turn_run ∙ taken_join k 0 next h

  turn_nodes : hit next ≡ true → nodes (bytewise (seq skip declaration)) j (drop j src) ≡ nodes (bytewise declaration) (j + k) (drop (j + k) src)
  turn_nodes h =
      let e : taken (run (bytewise skip) (drop j src)) ≡ k = ap taken sk.is in
      let q : drop (taken (run (bytewise skip) (drop j src))) (drop j src) ≡ drop (j + k) src = ap (λ (i : ℕ). drop i (drop j src)) e ∙ drop-drop k j src in
      nodes_seq (bytewise skip) (bytewise declaration) j (drop j src) (ap hit sk.is) (ap (λ (u : List ℕ). hit (run (bytewise declaration) u)) q ∙ h)
      ∙ ap (λ (w : Forest). w ⊕ nodes (bytewise declaration) (j + taken (run (bytewise skip) (drop j src)))
      (drop (taken (run (bytewise skip) (drop j src))) (drop j src))) (skip_none j (drop j src))
      ∙ ap₂ (λ (i : ℕ) (u : List ℕ). nodes (bytewise declaration) (j + i) u) e q

  turn_end : hit next ≡ true → j + k + taken next ≡ j + taken (run (bytewise (seq skip declaration)) (drop j src))
  turn_end h = omega (arith, turn_taken h)

  pub no_more : hit next ≡ false → rest src j ≡ nil
  unfolding rest
  no_more h = no_turn (bytewise (seq skip declaration)) declaration_eats src j (turn_hit ∙ h)

  pub one_more : hit next ≡ true → rest src j ≡ nodes (bytewise declaration) (j + k) (drop (j + k) src) ⊕ rest src (j + k + taken next)
  unfolding rest
  one_more h =
      next_turn (bytewise (seq skip declaration)) declaration_eats src j (turn_hit ∙ h) (j + k + taken next) (turn_end h)
      ∙ ap (λ (w : Forest). w ⊕ rest src (j + k + taken next)) (turn_nodes h)

  -- where the last of them ends
  last_none : hit next ≡ false → last src j ≡ j
  unfolding last
  last_none h = omega (arith, star_none (bytewise (seq skip declaration)) declaration_eats (drop j src) (turn_hit ∙ h))

  pub last_more : hit next ≡ true → last src j ≡ last src (j + k + taken next)
  unfolding last
  last_more h = next_end (bytewise (seq skip declaration)) declaration_eats src j (turn_hit ∙ h) (j + k + taken next) (turn_end h)

  -- at the end of the source no declaration follows; before it, one does
  pub at_end_lem : j ≤ length src → j + k ≡ length src → hit next ≡ false
  at_end_lem w e = go (hit next) refl
    where
      go : (b : Bool) → hit next ≡ b → hit next ≡ false
      go false q = q
      go true q =
          absurd
          (omega (arith, takes_byte (drop (j + k) src) q, took_inside src (j + k) (omega arith) (reads declaration (drop (j + k) src) _ refl)))

  pub before_end : Reaches src j → (j + k ≡ length src → ⊥) → hit next ≡ true
  before_end r e = go (hit next) refl
    where
      go : (b : Bool) → hit next ≡ b → hit next ≡ true
      go true q = q
      go false q =
          let z : last src j ≡ j = last_none q in
          absurd (e (omega (arith, r, z, ap (λ (i : ℕ). taken (run (bytewise skip) (drop i src))) z, ap taken sk.is)))
