-- A whole declaration, by its kind: the nodes of its head, and then those of its members.
use Rattle.std.specs.Prelude.{ℕ, ◌+◌, ◌≡◌, List, Bool, true, false, drop}
use Rattle.std.proofs.Common.{arith, ◌∙◌}
use Rattle.std.proofs.Math.Path.{refl, ap, sym}
use Rattle.meaning.specs.declared.Match.{Match}
use Rattle.meaning.specs.declared.Match.TheVariants.{Missed, Took}
use Rattle.meaning.specs.Choice.{pick}
use Rattle.meaning.specs.Rules.{Rule, is}
use Rattle.meaning.specs.Peg.{Peg, opt, rule, maybe, run, bytewise, hit, taken}
use Rattle.meaning.specs.Forest.{Forest, nil, tree, ◌⊕◌, nodes}
use Rattle.meaning.specs.Pdl.{enum_tag, enum_tag_list, field, field_list, enum_declaration, packet_declaration, struct_declaration, group_declaration, checksum_declaration, custom_field_declaration}
use Rattle.grammar.specs.Nodes.{nil_right, nodes_opt, nodes_rule}
use Rattle.grammar.specs.Drawing.{Draws}
use Rattle.spans.specs.declared.Matched.{Matched}
use Rattle.spans.specs.declared.Header.{Header}
use Rattle.spans.specs.Drawn.{draw_header}
use Rattle.walk.specs.Listing.{list_hit}
use Rattle.declarations.specs.Headers.{enum_head, packet_head, struct_head, group_head, checksum_head, custom_head}
use Rattle.declaration_rows.specs.declared.kinds.Kind.{Kind}
use Rattle.declaration_rows.specs.declared.kinds.Kind.TheVariants.{Enum, Packet, Struct, Group, Checksum, CustomField}
use Rattle.declaration_rows.specs.Kinds.{number, declared, shape_of}
use Rattle.declaration_rows.specs.Braces.{past_blanks, head_hits, list_hits, braced_nodes, braced_ends}
use Rattle.declaration_rows.specs.Members.{member_nodes, whole_end}

-- a declaration of the kind k at `at`, whose head is h
pub record Whole (src : List ℕ) (at : ℕ) (k : Kind) (h : Matched Header) : Type 0 where
  pub headed : hit h.at ≡ true
  pub tagged : k ≡ Enum → hit (run (bytewise enum_tag) (drop (past_blanks src (at + taken h.at)) src)) ≡ true
  pub nodes_are : nodes (bytewise (declared k)) at (drop at src)
      ≡ tree (shape_of k).root at (taken (run (bytewise (declared k)) (drop at src)))
      (draw_header (shape_of k).keyword at (drop at src) h.value ⊕ member_nodes src k (past_blanks src (at + taken h.at))) nil
  pub ends : at + taken (run (bytewise (declared k)) (drop at src)) ≡ whole_end src k (at + taken h.at)

-- ---- the lists
tags_hit : (u : List ℕ) → hit (run (bytewise enum_tag_list) u) ≡ hit (run (bytewise enum_tag) u)
unfolding enum_tag_list
tags_hit u = list_hit Rule.enum_tag_list enum_tag refl u

fields_hit : (u : List ℕ) → hit (run (bytewise field_list) u) ≡ hit (run (bytewise field) u)
unfolding field_list
fields_hit u = list_hit Rule.field_list field refl u

some_fields : (i : ℕ) (u : List ℕ) → nodes (bytewise (opt field_list)) i u ≡ pick (hit (run (bytewise field) u)) (nodes (bytewise field_list) i u) nil
some_fields i u = nodes_opt (bytewise field_list) i u ∙ ap (λ (b : Bool). pick b (nodes (bytewise field_list) i u) nil) (fields_hit u)

some_end : (i : ℕ) (u : List ℕ) → pick (hit (run (bytewise field) u)) (i + taken (run (bytewise field_list) u)) i ≡ i + taken
    (run (bytewise (opt field_list)) u)
unfolding run
some_end i u = ap (λ (b : Bool). pick b (i + taken (run (bytewise field_list) u)) i) (sym (fields_hit u)) ∙ go (run (bytewise field_list) u)
  where
    go : (m : Match) → pick (hit m) (i + taken m) i ≡ i + taken (maybe m)
    go (Missed f) = omega arith
    go (Took n f) = refl

all_end : (i : ℕ) (u : List ℕ) → hit (run (bytewise field_list) u) ≡ true → pick (hit (run (bytewise field) u)) (i + taken (run (bytewise field_list) u)) i
    ≡ i + taken (run (bytewise field_list) u)
all_end i u h = ap (λ (b : Bool). pick b (i + taken (run (bytewise field_list) u)) i) (sym (fields_hit u) ∙ h)

all_fields : (i : ℕ) (u : List ℕ) → hit (run (bytewise field_list) u) ≡ true → nodes (bytewise field_list) i u ≡ pick (hit (run (bytewise field) u))
    (nodes (bytewise field_list) i u) nil
all_fields i u h = ap (λ (b : Bool). pick b (nodes (bytewise field_list) i u) nil) (sym h ∙ fields_hit u)

-- ---- the kinds
module _ (src : List ℕ) (at : ℕ) (h : Matched Header) where
  abbrev t : List ℕ
  t = drop at src

  abbrev i : ℕ
  i = past_blanks src (at + taken h.at)

  -- a kind that ends with its head
  bare : (r : Rule) (g : Peg) (kw : Rule) → is Rule.COMMENT r ≡ false → Draws g t h.at (λ o. draw_header kw o t h.value) → hit (run (bytewise g) t) ≡ true
      → nodes (rule r (bytewise g)) at t ≡ tree r at (taken (run (bytewise g) t)) (draw_header kw at t h.value ⊕ nil) nil
  bare r g kw c d e =
      nodes_rule r (bytewise g) at t c e
      ∙ ap (λ (v : Forest). tree r at (taken (run (bytewise g) t)) v nil) (d.draws (ap hit d.reads.is ∙ e) at ∙ sym (nil_right _))

  -- the same members in other words
  refill : (r kw : Rule) {n : ℕ} {v w : Forest} → v ≡ w → tree r at n (draw_header kw at t h.value ⊕ v) nil ≡ tree r at n (draw_header kw at t h.value ⊕ w) nil
  refill r kw {n} e = ap (λ (v : Forest). tree r at n (draw_header kw at t h.value ⊕ v) nil) e

  pub whole : (k : Kind) → Draws (shape_of k).head t h.at (λ o. draw_header (shape_of k).keyword o t h.value)
      → hit (run (bytewise (declared k)) t) ≡ true → Whole src at k h
  unfolding declared enum_declaration packet_declaration struct_declaration group_declaration checksum_declaration custom_field_declaration enum_head
      packet_head struct_head group_head checksum_head custom_head run
  whole Enum d e =
      record {
        headed = head_hits Rule.enum_declaration refl enum_head enum_tag_list src at d e;
        tagged = λ z. sym (tags_hit (drop i src)) ∙ list_hits Rule.enum_declaration refl enum_head enum_tag_list src at d e;
        nodes_are = braced_nodes Rule.enum_declaration refl enum_head enum_tag_list src at d e;
        ends = braced_ends Rule.enum_declaration refl enum_head enum_tag_list src at d e _ refl;
      }
  whole Packet d e =
      record {
        headed = head_hits Rule.packet_declaration refl packet_head (opt field_list) src at d e;
        tagged = λ z. absurd (omega (arith, ap number z));
        nodes_are =
            braced_nodes Rule.packet_declaration refl packet_head (opt field_list) src at d e
            ∙ refill Rule.packet_declaration Rule.PACKET (some_fields i (drop i src));
        ends = braced_ends Rule.packet_declaration refl packet_head (opt field_list) src at d e _ (some_end i (drop i src));
      }
  whole Struct d e =
      record {
        headed = head_hits Rule.struct_declaration refl struct_head (opt field_list) src at d e;
        tagged = λ z. absurd (omega (arith, ap number z));
        nodes_are =
            braced_nodes Rule.struct_declaration refl struct_head (opt field_list) src at d e
            ∙ refill Rule.struct_declaration Rule.STRUCT (some_fields i (drop i src));
        ends = braced_ends Rule.struct_declaration refl struct_head (opt field_list) src at d e _ (some_end i (drop i src));
      }
  whole Group d e =
      record {
        headed = head_hits Rule.group_declaration refl group_head field_list src at d e;
        tagged = λ z. absurd (omega (arith, ap number z));
        nodes_are =
            braced_nodes Rule.group_declaration refl group_head field_list src at d e
            ∙ refill Rule.group_declaration Rule.GROUP (all_fields i (drop i src) (list_hits Rule.group_declaration refl group_head field_list src at d e));
        ends =
            braced_ends Rule.group_declaration refl group_head field_list src at d e _
            (all_end i (drop i src) (list_hits Rule.group_declaration refl group_head field_list src at d e));
      }
  whole Checksum d e =
      record {
        headed = ap hit d.reads.is ∙ e;
        tagged = λ z. absurd (omega (arith, ap number z));
        nodes_are = bare Rule.checksum_declaration checksum_head Rule.CHECKSUM refl d e;
        ends = ap (λ (m : Match). at + taken m)
            (sym d.reads.is);
      }
  whole CustomField d e =
      record {
        headed = ap hit d.reads.is ∙ e;
        tagged = λ z. absurd (omega (arith, ap number z));
        nodes_are = bare Rule.custom_field_declaration custom_head Rule.CUSTOM_FIELD refl d e;
        ends = ap (λ (m : Match). at + taken m)
            (sym d.reads.is);
      }
