-- What a head's keyword draws, and a head's answer from its parts.
use Rattle.std.specs.Prelude.{ℕ, ◌≡◌, List, true}
use Rattle.std.proofs.Common.{ap, sym, subst, ◌∙◌}
use Rattle.meaning.specs.declared.Match.{Match}
use Rattle.meaning.specs.declared.Match.TheVariants.{Took}
use Rattle.meaning.specs.Choice.{pick}
use Rattle.meaning.specs.Rules.{Rule}
use Rattle.meaning.specs.Peg.{Peg, run, bytewise, hit, taken}
use Rattle.meaning.specs.Forest.{nil, tree, nodes}
use Rattle.meaning.specs.Pdl.{constraint_list}
use Rattle.grammar.specs.Matching.{Reads}
use Rattle.grammar.specs.Drawing.{Draws, Follows, from_start, leaf}
use Rattle.spans.specs.declared.Matched.{Matched}
use Rattle.spans.specs.declared.Header.{Header}
use Rattle.spans.specs.Spans.{span_of}
use Rattle.spans.specs.Drawn.{leaf_at, draw_header}
use Rattle.spans.specs.Answers.{Headed, MatchedPart, no_header, answer}
use Rattle.declarations.specs.Headers.{Kept}

-- a keyword at the front
pub word : {g : Peg} {t : List ℕ} {r : Match} {k : Rule}
    → ((o : ℕ) (u : List ℕ) → hit (run (bytewise g) u) ≡ true → nodes (bytewise g) o u ≡ tree k o (taken (run (bytewise g) u)) nil nil)
    → Reads g t r → Follows (Took 0 0) g t r (λ o. leaf_at k o (span_of (Took 0 0) r))
word e h = leaf e (from_start h)

-- r answers the head h, where its match m took
pub headed : {k : Rule} {g : Peg} {t : List ℕ} {m : Match} {h : Header} {r : Matched Header} → Draws g t m (λ o. draw_header k o t h)
    → (hit m ≡ true → MatchedPart constraint_list t h.constraints) → Kept m h r → Headed k g t r
headed {k} {g} {t} {m} {h} {r} d s e =
    answer h (subst (λ (x : Match). Draws g t x (λ o. draw_header k o t h)) (sym e.same) d) (λ q. s (ap hit (sym e.same) ∙ q))
    (e.kept ∙ ap (λ (x : Match). pick (hit x) h no_header) (sym e.same))
