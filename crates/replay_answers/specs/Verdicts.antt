-- What the program writes of a list: how many answers are the same and how many are not, or where the list is damaged.
use Rattle.std.specs.Prelude.{ℕ, ◌+◌, ◌≤◌, ◌≡◌, refl, List, [], ◌∷◌, ◌++◌, Bool, true, false, length, drop}
use Rattle.std.specs.Bool.{Decides}
use Rattle.std.proofs.Common.{arith, length-append}
use Rattle.meaning.specs.Quoted.{bytes}
use Rattle.printing.specs.Lines.{decimal, line}
use Rattle.printing.specs.declared.pages.Page.{Page}
use Rattle.printing.specs.Pages.{Wrote, wrote_settled}
use Rattle.printing.specs.Room.{digits_room}
use Rattle.replay_answers.specs.declared.Tally.{Tally}
use Rattle.replay_answers.specs.Tallies.{Replayed, start}

-- the last line of a list: Z and the number of its entries
abbrev pub ending : ℕ → List ℕ
ending entries = line 90 (entries ∷ [])

unfoldable pub tallied : ℕ → ℕ → List ℕ
tallied passed failed = decimal passed ++ bytes " passed, " ++ decimal failed ++ bytes " failed\n"

unfoldable pub damaged : ℕ → List ℕ
damaged at = bytes "the list is damaged at byte " ++ decimal at ++ bytes "\n"

-- either line has room on the program's page
pub tallied_room : (passed failed : ℕ) → length (tallied passed failed) ≤ 64
unfolding tallied
tallied_room passed failed = simp length-append (omega (arith, digits_room 20 passed, digits_room 20 failed))

pub damaged_room : (at : ℕ) → length (damaged at) ≤ 64
unfolding damaged
damaged_room at = simp length-append (omega (arith, digits_room 20 at))

-- what is written of a tally: itself where the list ends there with its last line, else the damage
pub record TallyLine (list : List ℕ) (t : Tally) (before after : Page) : Type 0 where
  pub ended : drop t.at list ≡ ending (t.passed + t.failed) → Wrote (tallied t.passed t.failed) before after
  pub broken : (drop t.at list ≡ ending (t.passed + t.failed) → ⊥) → Wrote (damaged t.at) before after

-- no two pages satisfy it, whether the list ends there or not
pub tally_line_settled : {list : List ℕ} {t : Tally} {before p q : Page} (b : Bool)
    → Decides b (drop t.at list ≡ ending (t.passed + t.failed)) → TallyLine list t before p → TallyLine list t before q
    → (p.at ≡ q.at) × (p.bytes.now ≡ q.bytes.now)
tally_line_settled true e x y = wrote_settled (x.ended (e.0 refl)) (y.ended (e.0 refl))
tally_line_settled false e x y = wrote_settled (x.broken (λ f. not-true (e.1 f))) (y.broken (λ f. not-true (e.1 f)))
  where
    not-true : false ≡ true → ⊥
    not-true h = let z : ◌≡◌ {A = ℕ} 0 1 = cc in omega arith

-- and of a list
pub record Verdict (list : List ℕ) (before after : Page) : Type 0 where
  pub tally : Tally
  pub replayed : Replayed list (start list) tally
  pub line : TallyLine list tally before after
