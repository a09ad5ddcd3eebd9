-- No two answers satisfy what the parts of a field promise.
use Rattle.std.specs.Prelude.{ℕ, ◌≡◌, List}
use Rattle.std.proofs.Common.{ap₂}
use Rattle.meaning.specs.declared.Match.{Match}
use Rattle.meaning.specs.Rules.{Rule}
use Rattle.meaning.specs.Peg.{Peg}
use Rattle.meaning.specs.Forest.{◌⊕◌}
use Rattle.meaning.specs.Walk.{following}
use Rattle.spans.specs.declared.Matched.{Matched}
use Rattle.spans.specs.declared.Span.{Span}
use Rattle.spans.specs.declared.ArraySize.{ArraySize}
use Rattle.spans.specs.declared.ArraySize.TheVariants.{Unknown}
use Rattle.spans.specs.declared.Target.{Target}
use Rattle.spans.specs.declared.Target.TheVariants.{OfField}
use Rattle.spans.specs.Drawn.{leaf_at, draw_array_size, draw_target}
use Rattle.spans.specs.Answers.{Continues, Free, nowhere}
use Rattle.spans.specs.Undrawn.{front, span_back, array_size_of, array_size_back, target_of, target_back}
use Rattle.spans.specs.Settled.{settled_on, same_answer}
use Rattle.fields.specs.declared.parts.Pair.{Pair}
use Rattle.fields.specs.Tokens.{Leafed, no_pair, Paired}

module _ {m : Match} {g : Peg} {t : List ℕ} where
  pub leafed_settled : {k : Rule} {r s : Matched Span} → Leafed k m g t r → Leafed k m g t s → r ≡ s
  leafed_settled {k} a b =
      same_answer
      (settled_on (λ m x o. leaf_at k o x) (λ m x. Free x) (λ m. nowhere) (λ m w. front w) (λ m x h. span_back x) a b)

  pub paired_settled : {k l : Rule} {r s : Matched Pair} → Paired k l m g t r → Paired k l m g t s → r ≡ s
  paired_settled {k} {l} a b =
      same_answer
      (settled_on (λ m p o. leaf_at k o p.first ⊕ leaf_at l o p.second) (λ m p. Free p) (λ m. no_pair)
      (λ m w. record { first = front w; second = front (following w) })
      (λ m p h. ap₂ (λ (i j : Span). record { first = i; second = j }) (span_back p.first) (span_back p.second)) a b)

  pub target_settled : {r s : Matched Target} → Continues m g t r.at (λ x o. draw_target o x) Free (OfField nowhere) r.value
      → Continues m g t s.at (λ x o. draw_target o x) Free (OfField nowhere) s.value → r ≡ s
  target_settled a b =
      same_answer
      (settled_on (λ m x o. draw_target o x) (λ m x. Free x) (λ m. OfField nowhere) (λ m w. target_of w) (λ m x h. target_back x) a b)

  pub size_settled : {r s : Matched ArraySize} → Continues m g t r.at (λ x o. draw_array_size o x) Free Unknown r.value
      → Continues m g t s.at (λ x o. draw_array_size o x) Free Unknown s.value → r ≡ s
  size_settled a b =
      same_answer
      (settled_on (λ m x o. draw_array_size o x) (λ m x. Free x) (λ m. Unknown) (λ m w. array_size_of w) (λ m x h. array_size_back x) a b)
