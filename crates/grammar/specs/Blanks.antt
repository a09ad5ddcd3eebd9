-- Blanks, `w* ~ (n ~ w*)*` of which no try counts: behind them none follow.
use Rattle.std.specs.Prelude.{ℕ, ◌+◌, ◌≡◌, true, false}
use Rattle.std.proofs.Common.{arith, sym, ◌∙◌, drop-drop}
use Rattle.std.proofs.Math.Path.{ap, subst}
use mathlib.Core.List.{List}
use Rattle.std.proofs.Math.ListN.{drop}
use Rattle.meaning.specs.Peg.{Peg, seq, star, quiet, run, hit, taken}
use Rattle.grammar.specs.Matching.{eats}
use Rattle.grammar.specs.Hits.{taken_hushed, taken_after, taken_seq, hit_star}
use Rattle.grammar.specs.Stars.{star_none, star_ends}

abbrev pub blanks : Peg → Peg → Peg
blanks w n = quiet (seq (star w) (star (seq n (star w))))

module _ (w n : Peg) (one : eats w ≡ true) (more : eats (seq n (star w)) ≡ true) where
  abbrev remark : Peg
  remark = seq n (star w)

  -- neither w nor n stands here
  abbrev Bare : List ℕ → Type 0
  Bare u = (hit (run w u) ≡ false) × (hit (run remark u) ≡ false)

  blanks_taken : (t : List ℕ) → taken (run (blanks w n) t) ≡ taken (run (star w) t) + taken (run (star remark) (drop (taken (run (star w) t)) t))
  unfolding run
  blanks_taken t =
      taken_hushed (run (seq (star w) (star remark)) t)
      ∙ taken_seq (star w) (star remark) t (hit_star w t) (hit_star remark (drop (taken (run (star w) t)) t))

  -- a star of w ends where no w follows, and so does an n with the w behind it
  star_bare : (t : List ℕ) → hit (run w (drop (taken (run (star w) t)) t)) ≡ false
  star_bare t = (star_ends w one (λ u. Unit {0}) (λ u h q. tt) t tt).1

  remark_bare : (t : List ℕ) → hit (run remark t) ≡ true → hit (run w (drop (taken (run remark t)) t)) ≡ false
  unfolding run
  remark_bare t h =
      subst (λ (u : List ℕ). hit (run w u) ≡ false)
      (drop-drop (taken (run (star w) (drop (taken (run n t)) t))) (taken (run n t)) t
      ∙ ap (λ (k : ℕ). drop k t) (sym (taken_after (run n t) (λ u. run (star w) u) t h)))
      (star_bare (drop (taken (run n t)) t))

  blanks_bare : (t : List ℕ) → Bare (drop (taken (run (blanks w n) t)) t)
  blanks_bare t =
      subst Bare
      (drop-drop (taken (run (star remark) (drop (taken (run (star w) t)) t))) (taken (run (star w) t)) t ∙ ap (λ (k : ℕ). drop k t) (sym (blanks_taken t)))
      (star_ends remark more (λ u. hit (run w u) ≡ false) (λ u h q. remark_bare u h) (drop (taken (run (star w) t)) t) (star_bare t))

  bare_none : (u : List ℕ) → Bare u → taken (run (blanks w n) u) ≡ 0
  bare_none u h =
      let a : taken (run (star w) u) ≡ 0 = star_none w one u h.0 in
      let b : taken (run (star remark) (drop (taken (run (star w) u)) u)) ≡ 0
      = ap (λ (k : ℕ). taken (run (star remark) (drop k u))) a ∙ star_none remark more u h.1 in
      omega (arith, blanks_taken u, a, b)

  pub blanks_twice : (t : List ℕ) → taken (run (blanks w n) (drop (taken (run (blanks w n) t)) t)) ≡ 0
  blanks_twice t = bare_none (drop (taken (run (blanks w n) t)) t) (blanks_bare t)
