-- A list that a part of an answer says: where it is matched, an item of it stands there, and its nodes are its items'.
use Rattle.std.specs.Prelude.{ℕ, ◌+◌, ◌-◌, ◌≤◌, ◌<◌, ◌≡◌, List, true, length, take, drop, Some}
use Rattle.std.proofs.Common.{arith, ap, subst, sym, ◌∙◌, length-drop, drop-drop}
use Rattle.meaning.specs.Rules.{Rule}
use Rattle.meaning.specs.Peg.{Peg, run, bytewise, hit, taken}
use Rattle.meaning.specs.Forest.{Forest, nil, tree, nodes}
use Rattle.grammar.specs.Fits.{within_run, within_taken}
use Rattle.grammar.specs.Stars.{hit_pos}
use Rattle.grammar.specs.Steps.{at}
use Rattle.grammar.specs.Limits.{Limits}
use Rattle.spans.specs.declared.Matched.{Matched}
use Rattle.spans.specs.declared.Span.{Span}
use Rattle.spans.specs.Drawn.{list_at}
use Rattle.spans.specs.Answers.{MatchedList}
use Rattle.walk.specs.Turns.{list_past}
use Rattle.walk.specs.Listing.{ListRule}
use Rattle.walk.specs.Lists.{Form, Found, list_nodes, stop, found_at}

-- the list g of items of z, matched where the span s of the text at o says
module _ {A : Type 0} (z : Form A) {k : Rule} {g : Peg} (l : ListRule k g z.peg) (src : List ℕ) (o : ℕ) {s : Span} (m : MatchedList g (drop o src) s) where
  abbrev begin : ℕ
  begin = o + s.start

  behind : drop s.start (drop o src) ≡ drop begin src
  behind = drop-drop s.start o src

  long : taken (run (bytewise g) (drop begin src)) ≡ s.len
  long = ap (λ (u : List ℕ). taken (run (bytewise g) u)) (sym behind) ∙ m.ends

  item_hit : hit (run (bytewise z.peg) (drop begin src)) ≡ true
  item_hit = sym (l.begins (drop begin src)) ∙ ap (λ (u : List ℕ). hit (run (bytewise g) u)) (sym behind) ∙ m.there

  -- an item is not empty, so the list begins before the end
  pub list_in : begin < length src
  list_in =
      omega (
        arith,
        hit_pos (bytewise z.peg) (drop begin src) z.some item_hit,
        within_taken (run (bytewise z.peg) (drop begin src)) (drop begin src) (within_run (bytewise z.peg) (drop begin src)),
        length-drop begin src,
      )

  -- the code's answer there is the first item
  pub list_first : (c : Matched A) → z.Answered (take (length src - begin) (drop begin src)) c → Found z src begin c
  list_first c y = found_at c (omega (arith, list_in)) y (ap hit (at begin src (z.drawn _ c y).reads).is ∙ item_hit)

  -- its node, and where its items end
  pub list_node : list_at g o (drop o src) (Some s) ≡ tree k begin s.len (list_nodes z src begin) nil
  list_node =
      ap (nodes (bytewise g) begin) behind ∙ l.node begin (drop begin src) item_hit
      ∙ ap (λ (n : ℕ). tree k begin n (list_nodes z src begin) nil) long

  list_stop : stop z src begin ≤ begin + s.len
  list_stop = omega (arith, list_past z.peg src begin item_hit, l.room (drop begin src) item_hit, long)

  pub list_ends : (lo hi : ℕ) → Limits lo hi (list_at g o (drop o src) (Some s)) → stop z src begin ≤ hi
  list_ends lo hi h =
      let d = subst (λ (v : Forest). Limits lo hi v) list_node h in
      let e : begin + s.len ≤ hi = d.1.0 in
      omega (arith, e, list_stop)
