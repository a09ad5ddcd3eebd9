-- A list, item by item: what is left of its nodes where the walk has come to.
use Rattle.std.specs.Prelude.{ℕ, ◌+◌, ◌≤◌, ◌≡◌, refl, List, Bool, true, false, drop}
use Rattle.std.proofs.Common.{arith, ap₂, sym, ◌∙◌, drop-drop}
use Rattle.std.proofs.Math.Path.{ap}
use Rattle.meaning.specs.declared.Match.{Match}
use Rattle.meaning.specs.declared.Match.TheVariants.{Took}
use Rattle.meaning.specs.Peg.{Peg, seq, star, opt, after, run, bytewise, hit, taken}
use Rattle.meaning.specs.Forest.{Forest, nil, ◌⊕◌, nodes}
use Rattle.meaning.specs.Pdl.{text, ◌~◌, repeat, skip}
use Rattle.grammar.specs.Matching.{Reads, Steps, eats}
use Rattle.grammar.specs.Hits.{hit_after, missed_after, taken_after, hit_seq, taken_seq, hit_opt}
use Rattle.grammar.specs.Steps.{reads, steps, after_seq}
use Rattle.grammar.specs.Drawing.{Draws, from_start, whole, drawn, then}
use Rattle.grammar.specs.Nodes.{nodes_seq}
use Rattle.grammar.specs.Stars.{star_none}
use Rattle.grammar.specs.Lists.{no_turn, next_turn, next_end, repeat_some, repeat_nodes}
use Rattle.lexis.specs.Skips.{hit_skip}
use Rattle.lexis.specs.Leaves.{skip_none}
use Rattle.spans.specs.Parts.{gap, sign}

-- a comma with the blanks around it
abbrev pub comma : Peg
comma = seq skip (seq (text ",") skip)

-- one turn of a list of x
abbrev pub turn : Peg → Peg
turn x = seq skip (text "," ~ x)

-- the nodes of all turns from j on
unfoldable pub rest : Peg → List ℕ → ℕ → Forest
rest x src j = nodes (star (bytewise (turn x))) j (drop j src)

-- and where they end
unfoldable pub past : Peg → List ℕ → ℕ → ℕ
past x src j = j + taken (run (star (bytewise (turn x))) (drop j src))

-- no turn follows j
pub record Over (x : Peg) (src : List ℕ) (j : ℕ) : Type 0 where
  pub nodes_are : rest x src j ≡ nil
  pub ends : past x src j ≡ j

module _ (x : Peg) (t : List ℕ) where
  -- a turn is a comma and then x
  abbrev b1 : Match
  b1 = run (bytewise skip) t

  abbrev b2 : Match
  b2 = after b1 (λ u. run (bytewise (text ",")) u) t

  abbrev b3 : Match
  b3 = after b2 (λ u. run (bytewise skip) u) t

  abbrev b4 : Match
  b4 = after b3 (λ u. run (bytewise x) u) t

  s1 : Steps (Took 0 0) skip t b1
  s1 = from_start (reads skip t b1 refl)

  s2 : Steps b1 (text ",") t b2
  s2 = steps b1 (text ",") t b2 s1.fits refl

  s3 : Steps b2 skip t b3
  s3 = steps b2 skip t b3 s2.fits refl

  s4 : Steps b3 x t b4
  s4 = steps b3 x t b4 s3.fits refl

  turn_drawn : Draws (turn x) t b4 (λ o. nodes (bytewise x) (o + taken b3) (drop (taken b3) t))
  turn_drawn = whole (then (gap s1) (then (sign s2) (then (gap s3) (drawn s4))))

  comma_is : run (bytewise comma) t ≡ b3
  unfolding run
  comma_is = after_seq b1 (λ u. run (bytewise (text ",")) u) (λ u. run (bytewise skip) u) t

  module _ (k d : Match) (hk : Reads comma t k) (hd : Reads x (drop (taken k) t) d) where
    k_is : k ≡ b3
    k_is = hk.is ∙ comma_is

    d_is : d ≡ run (bytewise x) (drop (taken b3) t)
    d_is = hd.is ∙ ap (λ (m : Match). run (bytewise x) (drop (taken m) t)) k_is

    b4_hit : hit k ≡ true → hit (run (bytewise (turn x)) t) ≡ hit d
    b4_hit h = ap hit (sym turn_drawn.reads.is) ∙ hit_after b3 (λ u. run (bytewise x) u) t (ap hit (sym k_is) ∙ h) ∙ ap hit (sym d_is)

    turn_missed : hit k ≡ false → hit (run (bytewise (turn x)) t) ≡ false
    turn_missed h = ap hit (sym turn_drawn.reads.is) ∙ missed_after b3 (λ u. run (bytewise x) u) t (ap hit (sym k_is) ∙ h)

    turn_taken : hit k ≡ true → hit d ≡ true → taken (run (bytewise (turn x)) t) ≡ taken k + taken d
    turn_taken h i =
        let e : hit b4 ≡ true = ap hit turn_drawn.reads.is ∙ b4_hit h ∙ i in
        ap taken (sym turn_drawn.reads.is) ∙ taken_after b3 (λ u. run (bytewise x) u) t e
        ∙ ap₂ ◌+◌ (ap taken (sym k_is)) (ap taken (sym d_is))

    turn_nodes : hit k ≡ true → hit d ≡ true → (o : ℕ) → nodes (bytewise (turn x)) o t ≡ nodes (bytewise x) (o + taken k) (drop (taken k) t)
    turn_nodes h i o =
        let e : hit b4 ≡ true = ap hit turn_drawn.reads.is ∙ b4_hit h ∙ i in
        turn_drawn.draws e o ∙ ap (λ (m : Match). nodes (bytewise x) (o + taken m) (drop (taken m) t)) (sym k_is)

-- ---- where the walk has come to j: a comma matches there as k, and x behind it as d
pub eats_turn : (x : Peg) → eats (bytewise (turn x)) ≡ true
unfolding skip
eats_turn x = refl

module _ (x : Peg) (src : List ℕ) (j : ℕ) (k d : Match) (hk : Reads comma (drop j src) k) (hd : Reads x (drop (taken k) (drop j src)) d) where
  turn_hits : hit k ≡ true → hit d ≡ true → hit (run (bytewise (turn x)) (drop j src)) ≡ true
  turn_hits h i = b4_hit x (drop j src) k d hk hd h ∙ i

  turn_end : hit k ≡ true → hit d ≡ true → j + taken k + taken d ≡ j + taken (run (bytewise (turn x)) (drop j src))
  turn_end h i = omega (arith, turn_taken x (drop j src) k d hk hd h i)

  pub next_item : hit k ≡ true → hit d ≡ true → rest x src j ≡ nodes (bytewise x) (j + taken k) (drop (j + taken k) src) ⊕ rest x src (j + taken k + taken d)
  unfolding rest
  next_item h i =
      next_turn (bytewise (turn x)) (eats_turn x) src j (turn_hits h i) (j + taken k + taken d) (turn_end h i)
      ∙ ap (λ (w : Forest). w ⊕ rest x src (j + taken k + taken d))
      (turn_nodes x (drop j src) k d hk hd h i j ∙ ap (nodes (bytewise x) (j + taken k)) (drop-drop (taken k) j src))

  pub next_past : hit k ≡ true → hit d ≡ true → past x src j ≡ past x src (j + taken k + taken d)
  unfolding past
  next_past h i = next_end (bytewise (turn x)) (eats_turn x) src j (turn_hits h i) (j + taken k + taken d) (turn_end h i)

  over : hit (run (bytewise (turn x)) (drop j src)) ≡ false → Over x src j
  unfolding rest past
  over h =
      record {
        nodes_are = no_turn (bytewise (turn x)) (eats_turn x) src j h;
        ends = omega (arith, star_none (bytewise (turn x)) (eats_turn x) (drop j src) h);
      }

  pub no_comma : hit k ≡ false → Over x src j
  no_comma h = over (turn_missed x (drop j src) k d hk hd h)

  pub no_item : hit k ≡ true → hit d ≡ false → Over x src j
  no_item h i = over (b4_hit x (drop j src) k d hk hd h ∙ i)

-- ---- from the list's start
-- blanks and a part that may be missing always match
pub hit_blank_opt : (y : Peg) (u : List ℕ) → hit (run (bytewise (seq skip (opt y))) u) ≡ true
hit_blank_opt y u = hit_seq (bytewise skip) (bytewise (opt y)) u (hit_opt (bytewise y) _) ∙ hit_skip u

pub hit_turns : (x : Peg) (u : List ℕ) → hit (run (bytewise (seq skip (repeat (text "," ~ x)))) u) ≡ true
hit_turns x u = hit_blank_opt (seq (text "," ~ x) (star (turn x))) u

pub first_item : (x : Peg) (src : List ℕ) (at : ℕ) → hit (run (bytewise x) (drop at src)) ≡ true
    → nodes (bytewise (x ~ repeat (text "," ~ x))) at (drop at src) ≡ nodes (bytewise x) at (drop at src)
    ⊕ rest x src (at + taken (run (bytewise x) (drop at src)))
unfolding rest
first_item x src at h =
    nodes_seq (bytewise x) (bytewise (seq skip (repeat (text "," ~ x)))) at (drop at src) h (hit_turns x _)
    ∙ ap (λ (w : Forest). nodes (bytewise x) at (drop at src) ⊕ w)
    (repeat_nodes (bytewise skip) (bytewise (text "," ~ x)) hit_skip skip_none (eats_turn x) (at + taken (run (bytewise x) (drop at src)))
    (drop (taken (run (bytewise x) (drop at src))) (drop at src))
    ∙ ap (λ (u : List ℕ). nodes (star (bytewise (turn x))) (at + taken (run (bytewise x) (drop at src))) u)
    (drop-drop (taken (run (bytewise x) (drop at src))) at src))

-- ---- where all turns from j on end
-- the turns take no more than the rule that has them, which takes blanks even where no turn follows
turns_within : (x : Peg) (u : List ℕ) → taken (run (star (bytewise (turn x))) u) ≤ taken (run (bytewise (seq skip (repeat (text "," ~ x)))) u)
turns_within x u = go (hit (run (bytewise (turn x)) u)) refl
  where
    go : (b : Bool) → hit (run (bytewise (turn x)) u) ≡ b
        → taken (run (star (bytewise (turn x))) u) ≤ taken (run (bytewise (seq skip (repeat (text "," ~ x)))) u)
    go true h = omega (arith, repeat_some (bytewise skip) (bytewise (text "," ~ x)) hit_skip (eats_turn x) u h)
    go false h = omega (arith, star_none (bytewise (turn x)) (eats_turn x) u h)

-- the turns end inside the list
pub list_past : (x : Peg) (src : List ℕ) (at : ℕ) → hit (run (bytewise x) (drop at src)) ≡ true
    → past x src (at + taken (run (bytewise x) (drop at src))) ≤ at + taken (run (bytewise (x ~ repeat (text "," ~ x))) (drop at src))
unfolding past
list_past x src at h =
    let e : taken (run (bytewise (x ~ repeat (text "," ~ x))) (drop at src))
    ≡ taken (run (bytewise x) (drop at src))
    + taken (run (bytewise (seq skip (repeat (text "," ~ x)))) (drop (taken (run (bytewise x) (drop at src))) (drop at src)))
    = taken_seq (bytewise x) (bytewise (seq skip (repeat (text "," ~ x)))) (drop at src) h (hit_turns x _) in
    let d : taken (run (star (bytewise (turn x))) (drop (taken (run (bytewise x) (drop at src))) (drop at src)))
    ≡ taken (run (star (bytewise (turn x))) (drop (at + taken (run (bytewise x) (drop at src))) src))
    = ap (λ (u : List ℕ). taken (run (star (bytewise (turn x))) u)) (drop-drop (taken (run (bytewise x) (drop at src))) at src) in
    omega (arith, e, d, turns_within x (drop (taken (run (bytewise x) (drop at src))) (drop at src)))
