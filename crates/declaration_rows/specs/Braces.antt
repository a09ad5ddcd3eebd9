-- A rule that is a head, a list and a closing brace: its nodes are the head's and then the list's.
use Rattle.std.specs.Prelude.{ℕ, ◌+◌, ◌≤◌, ◌≡◌, refl, List, true, false, length, drop}
use Rattle.std.proofs.Common.{arith, ap, ap₂, sym, ◌∙◌, length-drop, drop-drop}
use Rattle.meaning.specs.declared.Match.{Match}
use Rattle.meaning.specs.Rules.{Rule, is}
use Rattle.meaning.specs.Peg.{Peg, seq, rule, after, run, bytewise, hit, taken}
use Rattle.meaning.specs.Forest.{Forest, nil, tree, ◌⊕◌, nodes}
use Rattle.meaning.specs.Pdl.{text, skip}
use Rattle.grammar.specs.Matching.{Steps}
use Rattle.grammar.specs.Hits.{hit_before, hit_behind, taken_after}
use Rattle.grammar.specs.Steps.{steps}
use Rattle.grammar.specs.Nodes.{nil_right}
use Rattle.grammar.specs.Drawing.{Draws, whole, opened, drawn, then, draws_rule}
use Rattle.lexis.specs.Skips.{skips}
use Rattle.spans.specs.Parts.{gap, mark}

-- behind the blanks that stand at e
abbrev pub past_blanks : List ℕ → ℕ → ℕ
past_blanks src e = e + taken (run (bytewise skip) (drop e src))

pub past_within : (src : List ℕ) (e : ℕ) → e ≤ length src → past_blanks src e ≤ length src
past_within src e h = omega (arith, (skips (drop e src)).fits, length-drop e src)

module _ (r : Rule) (c : is Rule.COMMENT r ≡ false) (h l : Peg) (src : List ℕ) (at : ℕ) {m : Match} {w : ℕ → Forest} (d : Draws h (drop at src) m w) where
  abbrev t : List ℕ
  t = drop at src

  abbrev braced : Peg
  braced = rule r (seq (seq h (seq skip l)) (seq skip (text "}")))

  abbrev b1 : Match
  b1 = after m (λ u. run (bytewise skip) u) t

  abbrev b2 : Match
  b2 = after b1 (λ u. run (bytewise l) u) t

  abbrev b3 : Match
  b3 = after b2 (λ u. run (bytewise (seq skip (text "}"))) u) t

  s1 : Steps m skip t b1
  s1 = steps m skip t b1 d.reads.fits refl

  s2 : Steps b1 l t b2
  s2 = steps b1 l t b2 s1.fits refl

  s3 : Steps b2 (seq skip (text "}")) t b3
  s3 = steps b2 (seq skip (text "}")) t b3 s2.fits refl

  all : Draws braced t b3 (λ o. tree r o (taken b3) ((w o ⊕ nil ⊕ nodes (bytewise l) (o + taken b1) (drop (taken b1) t)) ⊕ nil) nil)
  all = draws_rule r c (whole (then (then (opened d) (then (gap s1) (drawn s2))) (mark s3)))

  module _ (hits : hit (run (bytewise (rule r (seq (seq h (seq skip l)) (seq skip (text "}"))))) (drop at src)) ≡ true) where
    h3 : hit b3 ≡ true
    h3 = ap hit all.reads.is ∙ hits

    h2 : hit b2 ≡ true
    h2 = hit_before b2 (λ u. run (bytewise (seq skip (text "}"))) u) t h3

    h1 : hit b1 ≡ true
    h1 = hit_before b1 (λ u. run (bytewise l) u) t h2

    pub head_hits : hit m ≡ true
    head_hits = hit_before m (λ u. run (bytewise skip) u) t h1

    -- where the list stands
    place_is : at + taken b1 ≡ past_blanks src (at + taken m)
    place_is = omega (arith, taken_after m (λ u. run (bytewise skip) u) t h1, ap (λ (u : List ℕ). taken (run (bytewise skip) u)) (drop-drop (taken m) at src))

    rest_at : drop (taken b1) (drop at src) ≡ drop (past_blanks src (at + taken m)) src
    rest_at = drop-drop (taken b1) at src ∙ ap (λ (i : ℕ). drop i src) place_is

    pub list_hits : hit (run (bytewise l) (drop (past_blanks src (at + taken m)) src)) ≡ true
    list_hits = ap (λ (u : List ℕ). hit (run (bytewise l) u)) (sym rest_at) ∙ hit_behind b1 (λ u. run (bytewise l) u) t h2

    pub braced_nodes : nodes (bytewise (rule r (seq (seq h (seq skip l)) (seq skip (text "}"))))) at (drop at src)
        ≡ tree r at (taken (run (bytewise (rule r (seq (seq h (seq skip l)) (seq skip (text "}"))))) (drop at src)))
        (w at ⊕ nodes (bytewise l) (past_blanks src (at + taken m)) (drop (past_blanks src (at + taken m)) src)) nil
    braced_nodes =
        all.draws h3 at
        ∙ ap₂ (λ (n : ℕ) (v : Forest). tree r at n v nil) (ap taken all.reads.is)
        (nil_right _ ∙ ap (λ (v : Forest). w at ⊕ v) (ap₂ (λ (i : ℕ) (u : List ℕ). nodes (bytewise l) i u) place_is rest_at))

    -- where the whole ends: j is where the list does
    pub braced_ends : (j : ℕ) → j ≡ past_blanks src (at + taken m) + taken (run (bytewise l) (drop (past_blanks src (at + taken m)) src))
        → at + taken (run (bytewise (rule r (seq (seq h (seq skip l)) (seq skip (text "}"))))) (drop at src)) ≡ j + taken
        (run (bytewise (seq skip (text "}"))) (drop j src))
    braced_ends j e =
        let a : at + taken b2 ≡ j = omega (
          arith,
          e,
          taken_after b1 (λ u. run (bytewise l) u) t h2,
          place_is,
          ap
              (λ (u : List ℕ). taken (run (bytewise l) u)) rest_at,
        ) in
        let b : drop (taken b2) (drop at src) ≡ drop j src = drop-drop (taken b2) at src ∙ ap (λ (i : ℕ). drop i src) a in
        omega (
          arith,
          ap taken all.reads.is,
          taken_after b2 (λ u. run (bytewise (seq skip (text "}"))) u) t h3,
          ap (λ (u : List ℕ). taken (run (bytewise (seq skip (text "}"))) u)) b,
          a,
        )
