-- The single parts of a rule, as steps with their nodes: punctuation and blanks leave none, a token leaves one, and a part that
-- may be absent leaves those of what is kept of it.
use Rattle.std.specs.Prelude.{ℕ, ◌≡◌, refl, List, Bool, true, false}
use Rattle.std.proofs.Common.{ap, sym, ◌∙◌}
use Rattle.meaning.specs.declared.Match.{Match}
use Rattle.meaning.specs.Choice.{pick}
use Rattle.meaning.specs.Rules.{Rule}
use Rattle.meaning.specs.Peg.{Peg, lit, seq, opt, bytewise, hit}
use Rattle.meaning.specs.Forest.{Forest, nil, nodes}
use Rattle.meaning.specs.Pdl.{WHITESPACE, block_comment, line_comment, COMMENT, skip, identifier, payload_identifier, body_identifier, integer, string, size_modifier}
use Rattle.grammar.specs.Matching.{Within, Steps, stay}
use Rattle.grammar.specs.Silence.{none_of}
use Rattle.grammar.specs.Drawing.{Follows, blank, leaf, maybe, retold}
use Rattle.lexis.specs.Leaves.{skip_none, lit_none, identifier_leaf, payload_identifier_leaf, body_identifier_leaf, integer_leaf, string_leaf, size_modifier_leaf}
use Rattle.spans.specs.Spans.{span_of}
use Rattle.spans.specs.Drawn.{leaf_at}

skip_lit_none : (l : List ℕ) (o : ℕ) (u : List ℕ) → nodes (bytewise (seq skip (lit l))) o u ≡ nil
unfolding skip COMMENT block_comment line_comment WHITESPACE
skip_lit_none l o u = none_of (bytewise (seq skip (lit l))) refl o u

module _ {m : Match} {t : List ℕ} {r : Match} where
  -- a blank run
  pub gap : Steps m skip t r → Follows m skip t r (λ o. nil)
  gap s = blank skip_none s

  -- a quoted text, at once or after blanks
  pub sign : {l : List ℕ} → Steps m (lit l) t r → Follows m (lit l) t r (λ o. nil)
  sign {l} s = blank (lit_none l) s

  pub mark : {l : List ℕ} → Steps m (seq skip (lit l)) t r → Follows m (seq skip (lit l)) t r (λ o. nil)
  mark {l} s = blank (skip_lit_none l) s

  -- tokens
  pub name : Steps m identifier t r → Follows m identifier t r (λ o. leaf_at Rule.identifier o (span_of m r))
  name s = leaf identifier_leaf s

  pub payload_name : Steps m payload_identifier t r → Follows m payload_identifier t r (λ o. leaf_at Rule.payload_identifier o (span_of m r))
  payload_name s = leaf payload_identifier_leaf s

  pub body_name : Steps m body_identifier t r → Follows m body_identifier t r (λ o. leaf_at Rule.body_identifier o (span_of m r))
  body_name s = leaf body_identifier_leaf s

  pub number : Steps m integer t r → Follows m integer t r (λ o. leaf_at Rule.integer o (span_of m r))
  number s = leaf integer_leaf s

  pub quoted : Steps m string t r → Follows m string t r (λ o. leaf_at Rule.string o (span_of m r))
  quoted s = leaf string_leaf s

  pub modifier : Steps m size_modifier t r → Follows m size_modifier t r (λ o. leaf_at Rule.size_modifier o (span_of m r))
  modifier s = leaf size_modifier_leaf s

-- an optional part whose match is y; k is what is kept of x
pub optional : {A : Type 0} {m : Match} {g : Peg} {t : List ℕ} {y r : Match} (draw : A → ℕ → Forest) (absent x : A) {k : A} → ((o : ℕ) → draw absent o ≡ nil)
    → Within m t → Follows m g t y (λ o. draw x o) → r ≡ stay m y → k ≡ pick (hit y) x absent → Follows m (opt g) t r (λ o. draw k o)
optional {A} {m} {g} {t} {y} {r} draw absent x {k} none w f e q = retold (maybe w f e) (λ h o. go (hit y) o ∙ ap (λ (z : A). draw z o) (sym q))
  where
    go : (b : Bool) (o : ℕ) → pick b (draw x o) nil ≡ draw (pick b x absent) o
    go true o = refl
    go false o = sym (none o)
