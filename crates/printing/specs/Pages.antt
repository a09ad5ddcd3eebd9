-- A page of bytes, of which the first stand there already, and what texts written behind them leave.
use Rattle.std.specs.Prelude.{ℕ, ◌+◌, ◌≤◌, ◌≡◌, List, [], ◌∷◌, ltb, length, set}
use Rattle.std.proofs.Common.{ap, sym, ◌∙◌}
use Rattle.meaning.specs.Choice.{pick}
use Rattle.printing.specs.declared.pages.Page as lent

-- bytes, of which so many stand there
pub record Page : Type 0 where
  pub used : ℕ
  pub bytes : List ℕ

abbrev pub page : ℕ → List ℕ → Page
page n bs = record { used = n; bytes = bs }

-- one byte more; a full page takes none
unfoldable pub put : ℕ → Page → Page
put b p = pick (ltb p.used (length p.bytes)) (page (p.used + 1) (set p.bytes p.used b)) p

-- a text
unfoldable pub wrote : List ℕ → Page → Page
wrote [] p = p
wrote (b ∷ bs) p = wrote bs (put b p)

-- what stands on a lent page
abbrev pub sheet : lent.Page → Page
sheet p = page p.at p.bytes.now

-- ---- what a method that writes a text promises: what stands on the page then, and that its bytes are those that were lent
pub record Wrote (text : List ℕ) (before after : lent.Page) : Type 0 where
  pub is : sheet after ≡ wrote text (sheet before)
  pub same_bytes : after.bytes.ghost_name ≡ before.bytes.ghost_name

-- no two pages satisfy it
pub wrote_settled : {text : List ℕ} {before p q : lent.Page} → Wrote text before p → Wrote text before q → (p.at ≡ q.at) × (p.bytes.now ≡ q.bytes.now)
wrote_settled x y = (ap (λ (p : Page). p.used) (x.is ∙ sym y.is), ap (λ (p : Page). p.bytes) (x.is ∙ sym y.is))

-- ---- the same of a slice and any place: where that is past the end of the slice, both stay
pub record WroteAt (text : List ℕ) (at : ℕ) (before : List ℕ) (r : ℕ) (after : List ℕ) : Type 0 where
  pub is : page r after ≡ wrote text (page at before)
  pub fits : at ≤ length before → r ≤ length after

pub wrote_at_settled : {text : List ℕ} {at : ℕ} {before : List ℕ} {r s : ℕ} {b c : List ℕ} → WroteAt text at before r b
    → WroteAt text at before s c → (r ≡ s) × (b ≡ c)
wrote_at_settled x y = (ap (λ (p : Page). p.used) (x.is ∙ sym y.is), ap (λ (p : Page). p.bytes) (x.is ∙ sym y.is))

-- ---- what holds on the way, in a loop that writes a whole: what is left to write gives the whole
pub record Left (rest whole : List ℕ) (before after : lent.Page) : Type 0 where
  pub gives : wrote rest (sheet after) ≡ wrote whole (sheet before)
  pub same_bytes : after.bytes.ghost_name ≡ before.bytes.ghost_name
