-- Lists, `x ~ ("," ~ x)*`: their nodes are the first element's and then those of each turn of a star, and where the turns end.
use Rattle.std.specs.Prelude.{ℕ, ◌+◌, ◌≡◌, refl, List, Bool, true, false, drop}
use Rattle.std.proofs.Common.{arith, ap, ap₂, sym, ◌∙◌, drop-drop}
use Rattle.meaning.specs.Peg.{Peg, seq, star, opt, run, hit, taken}
use Rattle.meaning.specs.Forest.{Forest, nil, ◌⊕◌, nodes}
use Rattle.grammar.specs.Matching.{eats}
use Rattle.grammar.specs.Picks.{pick_true, pick_false, pick_same}
use Rattle.grammar.specs.Hits.{taken_missed, hit_after, hit_seq, taken_seq, hit_opt, taken_opt, hit_star}
use Rattle.grammar.specs.Stars.{star_none, star_some}
use Rattle.grammar.specs.Nodes.{nodes_seq, nodes_opt, nodes_star}

-- ---- a star at j in a source: no turn is there, or one that ends at i
module _ (p : Peg) (some : eats p ≡ true) (src : List ℕ) (j : ℕ) where
  pub no_turn : hit (run p (drop j src)) ≡ false → nodes (star p) j (drop j src) ≡ nil
  no_turn h = nodes_star p j (drop j src) some ∙ pick_false _ _ _ h

  module _ (h : hit (run p (drop j src)) ≡ true) (i : ℕ) (e : i ≡ j + taken (run p (drop j src))) where
    rest_at : drop (taken (run p (drop j src))) (drop j src) ≡ drop i src
    rest_at = drop-drop (taken (run p (drop j src))) j src ∙ ap (λ (k : ℕ). drop k src) (sym e)

    pub next_turn : nodes (star p) j (drop j src) ≡ nodes p j (drop j src) ⊕ nodes (star p) i (drop i src)
    next_turn =
        nodes_star p j (drop j src) some ∙ pick_true _ _ _ h
        ∙ ap (λ (w : Forest). nodes p j (drop j src) ⊕ w) (ap₂ (λ (o : ℕ) (u : List ℕ). nodes (star p) o u) (sym e) rest_at)

    -- where all turns end
    pub next_end : j + taken (run (star p) (drop j src)) ≡ i + taken (run (star p) (drop i src))
    next_end = omega (arith, e, star_some p some (drop j src) h, ap (λ (u : List ℕ). taken (run (star p) u)) rest_at)

-- ---- blanks k, then `e*` with blanks between
module _ (k e : Peg) (always : (u : List ℕ) → hit (run k u) ≡ true) (some : eats (seq k e) ≡ true) (t : List ℕ) where
  abbrev behind : List ℕ
  behind = drop (taken (run k t)) t

  turn_hit : hit (run (seq k e) t) ≡ hit (run e (drop (taken (run k t)) t))
  unfolding run
  turn_hit = hit_after (run k t) (λ u. run e u) t (always t)

  turns_hit : hit (run (seq e (star (seq k e))) (drop (taken (run k t)) t)) ≡ hit (run (seq k e) t)
  turns_hit = hit_seq e (star (seq k e)) behind (hit_star (seq k e) _) ∙ sym turn_hit

  all_taken : taken (run (seq k (opt (seq e (star (seq k e))))) t) ≡ taken (run k t) + taken (run (seq e (star (seq k e))) (drop (taken (run k t)) t))
  all_taken =
      taken_seq k (opt (seq e (star (seq k e)))) t (always t) (hit_opt (seq e (star (seq k e))) behind)
      ∙ ap (λ (n : ℕ). taken (run k t) + n) (taken_opt (seq e (star (seq k e))) behind)

  -- a turn, from where the blanks end
  module _ (h : hit (run (seq k e) t) ≡ true) where
    here : hit (run e (drop (taken (run k t)) t)) ≡ true
    here = sym turn_hit ∙ h

    turn_taken : taken (run (seq k e) t) ≡ taken (run k t) + taken (run e (drop (taken (run k t)) t))
    turn_taken = taken_seq k e t (always t) here

    rest_behind : drop (taken (run (seq k e) t)) t ≡ drop (taken (run e (drop (taken (run k t)) t))) (drop (taken (run k t)) t)
    rest_behind = ap (λ (n : ℕ). drop n t) turn_taken ∙ sym (drop-drop (taken (run e behind)) (taken (run k t)) t)

    -- where a turn follows they take what the turns take
    pub repeat_some : taken (run (seq k (opt (seq e (star (seq k e))))) t) ≡ taken (run (star (seq k e)) t)
    repeat_some =
        omega (
          arith,
          all_taken,
          taken_seq e (star (seq k e)) behind here (hit_star (seq k e) _),
          star_some (seq k e) some t h,
          turn_taken,
          ap (λ (u : List ℕ). taken (run (star (seq k e)) u)) rest_behind,
        )

  -- and else the blanks
  pub repeat_none : hit (run (seq k e) t) ≡ false → taken (run (seq k (opt (seq e (star (seq k e))))) t) ≡ taken (run k t)
  repeat_none h = omega (arith, all_taken, taken_missed (run (seq e (star (seq k e))) behind) (turns_hit ∙ h))

  -- so what is the same behind the blanks as before them is the same at both ends
  pub repeat_end : (f : ℕ → ℕ) → f (taken (run k t)) ≡ f 0 → f (taken (run (seq k (opt (seq e (star (seq k e))))) t)) ≡ f (taken (run (star (seq k e)) t))
  repeat_end f z = go (hit (run (seq k e) t)) refl
    where
      go : (b : Bool) → hit (run (seq k e) t) ≡ b → f (taken (run (seq k (opt (seq e (star (seq k e))))) t)) ≡ f (taken (run (star (seq k e)) t))
      go true h = ap f (repeat_some h)
      go false h = ap f (repeat_none h) ∙ z ∙ ap f (sym (star_none (seq k e) some t h))

-- their nodes are the turns', if blanks leave none
module _ (k e : Peg) (always : (u : List ℕ) → hit (run k u) ≡ true) (none : (o : ℕ) (u : List ℕ) → nodes k o u ≡ nil)
    (some : eats (seq k e) ≡ true) (o : ℕ) (t : List ℕ) where
  turn_nodes : hit (run (seq k e) t) ≡ true
      → nodes (seq k e) o t ⊕ nodes (star (seq k e)) (o + taken (run (seq k e) t)) (drop (taken (run (seq k e) t)) t)
      ≡ nodes (seq e (star (seq k e))) (o + taken (run k t)) (drop (taken (run k t)) t)
  turn_nodes h =
      let i = here k e always some t h in
      ap₂ ◌⊕◌
      (nodes_seq k e o t (always t) i ∙ ap (λ (w : Forest). w ⊕ nodes e (o + taken (run k t)) (drop (taken (run k t)) t)) (none o t))
      (ap₂ (λ (j : ℕ) (v : List ℕ). nodes (star (seq k e)) j v) (omega (arith, turn_taken k e always some t h)) (rest_behind k e always some t h))
      ∙ sym (nodes_seq e (star (seq k e)) (o + taken (run k t)) (drop (taken (run k t)) t) i (hit_star (seq k e) _))

  pub repeat_nodes : nodes (seq k (opt (seq e (star (seq k e))))) o t ≡ nodes (star (seq k e)) o t
  repeat_nodes =
      nodes_seq k (opt (seq e (star (seq k e)))) o t (always t) (hit_opt (seq e (star (seq k e))) _)
      ∙ ap (λ (w : Forest). w ⊕ nodes (opt (seq e (star (seq k e)))) (o + taken (run k t)) (drop (taken (run k t)) t)) (none o t)
      ∙ nodes_opt (seq e (star (seq k e))) (o + taken (run k t)) (drop (taken (run k t)) t)
      ∙ pick_same _ _ _ _ nil (turns_hit k e always some t) (λ h. sym (turn_nodes h))
      ∙ sym (nodes_star (seq k e) o t some)
