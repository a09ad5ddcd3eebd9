-- The list in a range's braces: its nodes, and that it stands behind the range's first byte and inside its bytes.
use Rattle.std.specs.Prelude.{ℕ, ◌+◌, ◌≤◌, ◌<◌, ◌≡◌, refl, List, true, drop, Option, Some}
use Rattle.std.proofs.Common.{arith, ap, subst, sym, ◌∙◌}
use Rattle.meaning.specs.Rules.{Rule}
use Rattle.meaning.specs.Peg.{alt, run, bytewise, hit}
use Rattle.meaning.specs.Forest.{Forest, nodes}
use Rattle.meaning.specs.Pdl.{identifier, alpha, enum_value, enum_value_list, enum_range, enum_other, enum_tag}
use Rattle.meaning.specs.Walk.{part, following}
use Rattle.grammar.specs.Nodes.{nodes_rule}
use Rattle.grammar.specs.Limits.{Limits}
use Rattle.grammar.specs.Order.{From, Led, led_rule, led_seq, kids_of, Rooted, rooted_rule, rooted_alt}
use Rattle.spans.specs.declared.Span.{Span}
use Rattle.spans.specs.Drawn.{list_at}
use Rattle.spans.specs.Answers.{MatchedList, MatchedPart}
use Rattle.walk.specs.Listing.{ListRule, comma_list}
use Rattle.walk.specs.Lists.{list_nodes, stop}
use Rattle.walk.specs.PartLists.{list_node, list_ends}
use Rattle.tag_rows.specs.Tags.{value_form, values_items, inner_items, Braced}

-- ---- the parts of a tag stand behind the start of its name
named : Led (bytewise identifier)
unfolding identifier alpha
named = led_rule Rule.identifier _ refl refl

rooted_range : Rooted (bytewise enum_range)
unfolding enum_range
rooted_range = rooted_rule Rule.enum_range refl (led_seq (led_seq (led_seq (led_seq (led_seq named)))))

rooted_value : Rooted (bytewise enum_value)
unfolding enum_value
rooted_value = rooted_rule Rule.enum_value refl (led_seq (led_seq named))

rooted_other : Rooted (bytewise enum_other)
unfolding enum_other
rooted_other = rooted_rule Rule.enum_other refl (led_seq (led_seq named))

pub tag_behind : (o : ℕ) (t : List ℕ) → hit (run (bytewise enum_tag) t) ≡ true → From (o + 1) (following (kids_of (kids_of (nodes (bytewise enum_tag) o t))))
unfolding enum_tag run
tag_behind o t h =
    subst (λ (w : Forest). From (o + 1) (following (kids_of (kids_of w))))
    (sym (nodes_rule Rule.enum_tag (alt (alt (bytewise enum_range) (bytewise enum_value)) (bytewise enum_other)) o t refl h))
    (rooted_alt (alt (bytewise enum_range) (bytewise enum_value)) (bytewise enum_other)
    (rooted_alt (bytewise enum_range) (bytewise enum_value) rooted_range rooted_value) rooted_other o t)

-- ---- the list that a part of the text at o says
pub value_rule : ListRule Rule.enum_value_list enum_value_list enum_value
unfolding enum_value_list
value_rule = comma_list Rule.enum_value_list enum_value refl

module _ (src : List ℕ) (o : ℕ) where
  pub inner_items_lem : {g : Span} → MatchedList enum_value_list (drop o src) g
      → inner_items src o (Some g) ≡ values_items src (list_nodes value_form src (o + g.start))
  inner_items_lem m = ap (λ (v : Forest). values_items src (part Rule.enum_value_list v).kids) (list_node value_form value_rule src o m)

  -- its node starts behind the first byte and ends inside the bytes
  pub braced : (list : Option Span) (n : ℕ) → MatchedPart enum_value_list (drop o src) list → Limits o (o + n) (list_at enum_value_list o (drop o src) list)
      → From (o + 1) (list_at enum_value_list o (drop o src) list) → Braced src o n list
  braced list n m h b = record { stands = m; inside = there }
    where
      there : (g : Span) → list ≡ Some g → (0 < g.start) × (stop value_form src (o + g.start) ≤ o + n)
      there g e =
          let m' = subst (λ (p : Option Span). MatchedPart enum_value_list (drop o src) p) e m in
          let h' = subst (λ (p : Option Span). Limits o (o + n) (list_at enum_value_list o (drop o src) p)) e h in
          let b' = subst (λ (f : Forest). From (o + 1) f) (ap (list_at enum_value_list o (drop o src)) e ∙ list_node value_form value_rule src o m') b in
          let x : o + 1 ≤ o + g.start = b'.0 in
          (omega (arith, x), list_ends value_form value_rule src o m' o (o + n) h')
