-- What is kept of a part that may be absent: a token, or a list between two marks.
use Rattle.std.specs.Prelude.{ℕ, ◌≡◌, refl, List, Bool, true, false, Option, None, Some}
use Rattle.std.proofs.Common.{ap, sym, ◌∙◌}
use Rattle.meaning.specs.declared.Match.{Match}
use Rattle.meaning.specs.declared.Match.TheVariants.{Missed, Took}
use Rattle.meaning.specs.Choice.{pick}
use Rattle.meaning.specs.Rules.{Rule}
use Rattle.meaning.specs.Peg.{Peg, seq, opt, run, bytewise, hit}
use Rattle.meaning.specs.Forest.{nil}
use Rattle.grammar.specs.Matching.{Within, Steps, stay}
use Rattle.grammar.specs.Hits.{hit_before, missed_after}
use Rattle.grammar.specs.Nodes.{nil_right}
use Rattle.grammar.specs.Drawing.{Follows, drawn, then, retold}
use Rattle.spans.specs.declared.Span.{Span}
use Rattle.spans.specs.Spans.{span_of}
use Rattle.spans.specs.Drawn.{leaf_at, draw_part, list_at}
use Rattle.spans.specs.Parts.{optional}
use Rattle.spans.specs.Answers.{Continues, MatchedPart, matched, matched_part}

-- p is what is kept of a part whose match is y
part_is : (y : Match) {s i : Span} {p : Option Span} → p ≡ pick (hit y) (Some s) None → s ≡ i → p ≡ pick (hit y) (Some i) None
part_is y h e = h ∙ ap (λ (z : Span). pick (hit y) (Some z) None) e

pub optional_token : {m : Match} {g : Peg} {t : List ℕ} {y r : Match} {s i : Span} {p : Option Span} (k : Rule) → Within m t
    → Follows m g t y (λ o. leaf_at k o i) → r ≡ stay m y → p ≡ pick (hit y) (Some s) None → s ≡ i
    → Follows m (opt g) t r (λ o. draw_part k o p)
optional_token {y = y} {i = i} k w f e h j = optional (λ x o. draw_part k o x) None (Some i) (λ o. refl) w f e (part_is y h j)

-- a match that took goes on from one that took
pub before_hit : {m : Match} {g : Peg} {t : List ℕ} {r : Match} → Steps m g t r → hit r ≡ true → hit m ≡ true
before_hit {m} {g} {t} s h = hit_before m (λ u. run (bytewise g) u) t (ap hit (sym s.is) ∙ h)

-- an optional part misses only where the match before it had missed
pub missed_before : {m : Match} {g : Peg} {t : List ℕ} {y r : Match} → Steps m g t y → r ≡ stay m y → hit r ≡ false → hit y ≡ false
missed_before {m} {g} {t} {y} {r} s e h =
    ap hit s.is ∙ missed_after m (λ u. run (bytewise g) u) t (sym (go m y) ∙ ap hit (sym e) ∙ h)
  where
    go : (n x : Match) → hit (stay n x) ≡ hit n
    go (Missed f) x = refl
    go (Took k f) (Missed g) = refl
    go (Took k f) (Took j g) = refl

pub optional_list : {m : Match} {a b g z : Peg} {t : List ℕ} {c e l y r : Match} {s : Span} {p : Option Span} → Within m t
    → Follows m a t c (λ o. nil) → Follows c b t e (λ o. nil) → Steps e g t l → Follows l z t y (λ o. nil) → r ≡ stay m y
    → p ≡ pick (hit y) (Some s) None → s ≡ span_of e l
    → Continues m (opt (seq (seq a (seq b g)) z)) t r (λ x o. list_at g o t x) (λ x. MatchedPart g t x) None p
optional_list {g = g} {t = t} {e = e} {l = l} {y = y} w f i s j k h q =
    let all = then (then f (then i (drawn s))) j in
    record {
      drawn = optional (λ x o. list_at g o t x) None (Some (span_of e l)) (λ o. refl) w (retold all (λ n o. nil_right _)) k (part_is y h q);
      sound = λ n. matched_part y (λ u. matched s (before_hit j.steps u)) (part_is y h q);
      missed = λ n. part_is y h q ∙ ap (λ (b : Bool). pick b (Some (span_of e l)) None) (missed_before all.steps k n);
    }
