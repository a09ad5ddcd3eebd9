-- Laws of layouts: the lines of one declaration from its layout, and a loop's next declaration.
use Rattle.std.specs.Prelude.{ℕ, suc, ◌+◌, ◌-◌, ◌*◌, ◌≤◌, ◌<◌, ◌≡◌, refl, List, [], ◌++◌, true, false, eqb, replicate, Result, Ok, Err}
use Rattle.std.proofs.Common.{sym, ap, ◌∙◌, arith}
use Rattle.meaning.specs.Rows.{placed_size, chunk_size}
use Rattle.layout.specs.declared.Layout as answer
use Rattle.layout.specs.declared.Refused.{Refused}
use Rattle.layout.specs.Judging.{answered}
use Rattle.meaning.specs.Feeding.{layout}
use Rattle.printing.specs.declared.pages.Page as lent
use Rattle.printing.specs.Pages.{Wrote}
use Rattle.printing.specs.PageLaws.{none_wrote}
use Rattle.printing.specs.Layouts.{answer_words, laid, layout_of, layouts}

-- ---- one declaration, from what the layout answered
module _ (ds fs : List ℕ) (k : ℕ) (r : Result answer.Layout Refused) (ps cs : List ℕ)
    (e : answered r ps cs ≡ layout ds fs k (replicate (100 * placed_size) 0) (replicate (100 * chunk_size) 0)) where
  same_number : (r : Result answer.Layout Refused) → (answered r [] []).number ≡ (answered r ps cs).number
  same_number (Ok l) = refl
  same_number (Err x) = refl

  same_words : (r : Result answer.Layout Refused) → laid (answer_words k (answered r [] [])) ps cs
      ≡ laid (answer_words k (answered r ps cs)) (answered r ps cs).ps (answered r ps cs).cs
  same_words (Ok l) = refl
  same_words (Err x) = refl

  pub not_laid : {p : lent.Page} → true ≡ eqb (answered r [] []).number 15 → Wrote (layout_of ds fs k) p p
  unfolding layout_of
  not_laid {p} h = rw (← e, ← same_number r, ← h) (none_wrote p)

  pub is_laid : {p q : lent.Page} → false ≡ eqb (answered r [] []).number 15
      → Wrote (laid (answer_words k (answered r [] [])) ps cs) p q → Wrote (layout_of ds fs k) p q
  unfolding layout_of
  is_laid h w =
      let g : eqb (answered r ps cs).number 15 ≡ false = sym (h ∙ ap (λ (n : ℕ). eqb n 15) (same_number r)) in
      rw (← e, g) (rw (same_words r) at w)

-- ---- a loop over declarations
pub next_layout : (ds fs : List ℕ) (count k : ℕ) → k < count → layouts ds fs (count - k) k ≡ layout_of ds fs k ++ layouts ds fs (count - (k + 1)) (k + 1)
unfolding layouts
next_layout ds fs count k h = let e : count - k ≡ suc (count - (k + 1)) = omega arith in rw e refl

pub no_layout : (ds fs : List ℕ) (count k : ℕ) → count ≤ k → layouts ds fs (count - k) k ≡ []
unfolding layouts
no_layout ds fs count k h = let e : count - k ≡ 0 = omega arith in rw e refl
