-- Where a list ends, from where its last item ends: blanks and then a comma or none.
use Prim.Native.Nat.{ℕ, ◌+◌}
use Rattle.std.proofs.Common.{arith, ◌∙◌, drop-drop}
use Rattle.std.specs.Prelude.{◌≡◌, true, false}
use Rattle.std.proofs.Math.Path.{ap, sym}
use mathlib.Core.List.{List}
use Rattle.std.proofs.Math.ListN.{drop}
use Rattle.meaning.specs.declared.Match.{Match}
use Rattle.meaning.specs.Rules.{Rule, is}
use Rattle.meaning.specs.Peg.{Peg, seq, star, opt, run, bytewise, hit, taken}
use Rattle.meaning.specs.Pdl.{text, ◌~◌, repeat, skip}
use Rattle.grammar.specs.Matching.{Reads}
use Rattle.grammar.specs.Hits.{taken_seq, hit_opt}
use Rattle.grammar.specs.Lists.{repeat_end}
use Rattle.lexis.specs.Skips.{hit_skip, skip_twice}
use Rattle.walk.specs.Turns.{turn, eats_turn, past, hit_blank_opt, hit_turns}
use Rattle.walk.specs.Listing.{inside, inside_hit, last, list_of}

-- ---- the last comma
abbrev comma_taken : List ℕ → ℕ
comma_taken u = taken (run (opt (bytewise (text ","))) u)

last_taken : (u : List ℕ) → taken (run (bytewise last) u) ≡ taken (run (bytewise skip) u) + comma_taken (drop (taken (run (bytewise skip) u)) u)
last_taken u = taken_seq (bytewise skip) (opt (bytewise (text ","))) u (hit_skip u) (hit_opt (bytewise (text ",")) _)

-- n bytes, and what the last comma takes behind them
abbrev ending : ℕ → List ℕ → ℕ
ending n u = n + taken (run (bytewise last) (drop n u))

-- blanks before it change nothing
last_behind : (u : List ℕ) → ending (taken (run (bytewise skip) u)) u ≡ taken (run (bytewise last) u)
last_behind u =
    let v : List ℕ = drop (taken (run (bytewise skip) u)) u in
    let e : comma_taken (drop (taken (run (bytewise skip) v)) v) ≡ comma_taken v = ap (λ (n : ℕ). comma_taken (drop n v)) (skip_twice u) in
    omega (arith, last_taken u, last_taken v, skip_twice u, e)

-- the rule takes blanks even where no turn follows them; counted from the end of the turns it ends at the same place
same_last : (x : Peg) (u : List ℕ) → ending (taken (run (bytewise (seq skip (repeat (text "," ~ x)))) u)) u
    ≡ ending (taken (run (star (bytewise (turn x))) u)) u
same_last x u =
    repeat_end (bytewise skip) (bytewise (text "," ~ x)) hit_skip (eats_turn x) u (λ n. ending n u)
    (last_behind u ∙ (let z : taken (run (bytewise last) u) ≡ ending 0 u = omega arith in z))

-- ---- the list at i, whose last item ends at j: z is the last comma there
module _ (k : Rule) (x : Peg) (plain : is Rule.COMMENT k ≡ false) where
  pub list_ends : (src : List ℕ) (i : ℕ) → hit (run (bytewise x) (drop i src)) ≡ true → (j : ℕ) (z : Match)
      → j ≡ past x src (i + taken (run (bytewise x) (drop i src)))
      → Reads last (drop j src) z → i + taken (run (bytewise (list_of k x)) (drop i src)) ≡ j + taken z
  unfolding run past
  list_ends src i h j z ej hz =
      let u : List ℕ = drop i src in
      let n : ℕ = taken (run (bytewise x) u) in
      let v : List ℕ = drop n u in
      let m : ℕ = taken (run (bytewise (seq skip (repeat (text "," ~ x)))) v) in
      let s : ℕ = taken (run (star (bytewise (turn x))) v) in
      let all : taken (run (bytewise (list_of k x)) u) ≡ taken (run (bytewise (inside x)) u)
      + taken (run (bytewise last) (drop (taken (run (bytewise (inside x)) u)) u))
      = taken_seq (bytewise (inside x)) (bytewise last) u (inside_hit x u h) (hit_blank_opt (text ",") _) in
      let items : taken (run (bytewise (inside x)) u) ≡ n + m = taken_seq (bytewise x) (bytewise (seq skip (repeat (text "," ~ x)))) u h (hit_turns x _) in
      let behind : taken (run (bytewise last) (drop (taken (run (bytewise (inside x)) u)) u)) ≡ taken (run (bytewise last) (drop m v))
      = ap (λ (w : List ℕ). taken (run (bytewise last) w)) (ap (λ (l : ℕ). drop l u) items ∙ sym (drop-drop m n u)) in
      let turns : s ≡ taken (run (star (bytewise (turn x))) (drop (i + n) src)) = ap (λ (w : List ℕ). taken (run (star (bytewise (turn x))) w))
      (drop-drop n i src) in
      let here : drop j src ≡ drop s v
      = ap (λ (l : ℕ). drop l src) (let e : j ≡ i + (n + s) = omega (arith, ej, turns) in e) ∙ sym (drop-drop (n + s) i src) ∙ sym (drop-drop s n u) in
      let ends : taken z ≡ taken (run (bytewise last) (drop s v)) = ap taken hz.is ∙ ap (λ (w : List ℕ). taken (run (bytewise last) w)) here in
      omega (arith, all, items, behind, same_last x v, turns, ej, ends)
