-- One token and two, as the parts of a field answer them, and parts that may be left out.
use Rattle.std.specs.Prelude.{ℕ, ◌≡◌, refl, List, Bool, true, false, Option, None, Some}
use Rattle.std.proofs.Common.{sym, subst}
use Rattle.meaning.specs.declared.Match.{Match}
use Rattle.meaning.specs.Choice.{pick}
use Rattle.meaning.specs.Rules.{Rule}
use Rattle.meaning.specs.Peg.{Peg, opt, hit}
use Rattle.meaning.specs.Forest.{Forest, nil, ◌⊕◌}
use Rattle.grammar.specs.Matching.{Within, stay}
use Rattle.grammar.specs.Drawing.{Follows}
use Rattle.spans.specs.declared.Matched.{Matched}
use Rattle.spans.specs.declared.Span.{Span}
use Rattle.spans.specs.Drawn.{leaf_at}
use Rattle.spans.specs.Parts.{optional}
use Rattle.spans.specs.Answers.{Continues, Free, MatchedList, MatchedPart, nowhere, matched_part}
use Rattle.fields.specs.declared.parts.Pair.{Pair}

-- r goes on from m over g, and has its one token, of the kind k
abbrev pub Leafed : Rule → Match → Peg → List ℕ → Matched Span → Type 0
Leafed k m g t r = Continues m g t r.at (λ s o. leaf_at k o s) Free nowhere r.value

-- no tokens
abbrev pub no_pair : Pair
no_pair = record { first = nowhere; second = nowhere }

-- r goes on from m over g, and has its two tokens, of the kinds k and l
abbrev pub Paired : Rule → Rule → Match → Peg → List ℕ → Matched Pair → Type 0
Paired k l m g t r = Continues m g t r.at (λ p o. leaf_at k o p.first ⊕ leaf_at l o p.second) Free no_pair r.value

-- a part that may be left out, which is absent where its match missed
pub omissible : {A : Type 0} {m : Match} {g : Peg} {t : List ℕ} {y r : Match} {draw : A → ℕ → Forest} {Sound : A → Type 0} {absent x : A}
    → ((o : ℕ) → draw absent o ≡ nil) → Within m t → Continues m g t y draw Sound absent x → r ≡ stay m y → Follows m (opt g) t r (λ o. draw x o)
omissible {A} {y = y} {draw = draw} {absent = absent} {x = x} none w c e = optional draw absent x none w c.drawn e (go (hit y) c.missed)
  where
    go : (b : Bool) → (b ≡ false → x ≡ absent) → x ≡ pick b x absent
    go true h = refl
    go false h = h refl

-- a list inside a part that may be left out itself
pub matched_inner : {g : Peg} {t : List ℕ} {s : Span} {p q : Option Span} (y z : Match) → (hit y ≡ true → MatchedList g t s) → p ≡ pick (hit y) (Some s) None
    → q ≡ pick (hit z) p None → MatchedPart g t q
matched_inner {g} {t} {p = p} y z k e i = subst (λ (w : Option Span). MatchedPart g t w) (sym i) (go (hit z))
  where
    go : (b : Bool) → MatchedPart g t (pick b p None)
    go true = matched_part y k e
    go false = tt
