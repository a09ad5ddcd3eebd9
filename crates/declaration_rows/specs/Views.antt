-- A declaration's nodes as the walk sees them: one list of constraints or none, and one list of members or none.
use Rattle.std.specs.Prelude.{ℕ, ◌≡◌, refl, List, [], Bool, true, false, drop, Option, None, Some}
use Rattle.std.proofs.Common.{subst, sym}
use Rattle.meaning.specs.Rules.{Rule}
use Rattle.meaning.specs.Peg.{run, bytewise, hit, taken}
use Rattle.meaning.specs.Forest.{Forest, nil, tree, nodes}
use Rattle.meaning.specs.Pdl.{enum_tag, enum_tag_list, field, field_list, constraint_list}
use Rattle.meaning.specs.Tables.{Table, Item}
use Rattle.spans.specs.declared.Span.{Span}
use Rattle.spans.specs.Drawn.{list_at}
use Rattle.spans.specs.Answers.{MatchedPart}
use Rattle.walk.specs.Listing as L
use Rattle.walk.specs.Listing.{list_of}
use Rattle.walk.specs.Lists.{list_nodes}
use Rattle.walk.specs.PartLists.{list_node}
use Rattle.constraint_rows.specs.Constraints.{constraint_form}
use Rattle.constraint_rows.specs.OptionalLists.{constraint_rule}
use Rattle.tag_rows.specs.Tags.{tag_form}
use Rattle.field_rows.specs.Fields.{field_form}
use Rattle.declaration_rows.specs.declared.kinds.Kind.{Kind}
use Rattle.declaration_rows.specs.declared.kinds.Kind.TheVariants.{Enum, Packet, Struct, Group, Checksum, CustomField}
use Rattle.declaration_rows.specs.Members.{tag_items, field_nodes, field_items, member_nodes, member_items, own}
use Rattle.declaration_rows.specs.Items.{One, Members, items_in, table_of}

-- ---- the constraints
pub one_at : (src : List ℕ) (o : ℕ) (g : Option Span) → MatchedPart constraint_list (drop o src) g
    → One Rule.constraint_list (list_at constraint_list o (drop o src) g)
one_at src o None m = One.none
one_at src o (Some s) m = subst (λ (v : Forest). One Rule.constraint_list v) (sym (list_node constraint_form constraint_rule src o m)) (One.one _ _ _)

-- ---- the node of a list of members
tags_node : (src : List ℕ) (i : ℕ) → hit (run (bytewise enum_tag) (drop i src)) ≡ true
    → nodes (bytewise enum_tag_list) i (drop i src) ≡ tree Rule.enum_tag_list i (taken (run (bytewise (list_of Rule.enum_tag_list enum_tag)) (drop i src)))
    (list_nodes tag_form src i) nil
unfolding enum_tag_list
tags_node src i h = L.list_node Rule.enum_tag_list enum_tag refl i (drop i src) h

fields_node : (src : List ℕ) (i : ℕ) → hit (run (bytewise field) (drop i src)) ≡ true
    → nodes (bytewise field_list) i (drop i src) ≡ tree Rule.field_list i (taken (run (bytewise (list_of Rule.field_list field)) (drop i src)))
    (list_nodes field_form src i) nil
unfolding field_list
fields_node src i h = L.list_node Rule.field_list field refl i (drop i src) h

-- ---- the members of a declaration of the kind k, at i: their nodes, their items behind some, and the table that they are of
pub record View (src : List ℕ) (nodes : Forest) (items : List Item → List Item) (own : Table) : Type 0 where
  pub forest : Forest
  pub is : nodes ≡ forest
  pub members : Members forest
  pub seen : (xs : List Item) → items_in src xs members ≡ items xs
  pub table : table_of members ≡ own

none : (src : List ℕ) → View src nil (λ xs. []) Table.fields
none src = record { forest = nil; is = refl; members = Members.nothing; seen = λ xs. refl; table = refl }

tags : (src : List ℕ) (i : ℕ) → hit (run (bytewise enum_tag) (drop i src)) ≡ true
    → View src (nodes (bytewise enum_tag_list) i (drop i src)) (tag_items src i) Table.tags
tags src i h =
    record {
      forest = tree Rule.enum_tag_list i (taken (run (bytewise (list_of Rule.enum_tag_list enum_tag)) (drop i src))) (list_nodes tag_form src i) nil;
      is = tags_node src i h;
      members = Members.tags i _ (list_nodes tag_form src i);
      seen = λ xs. refl;
      table = refl;
    }

fields : (src : List ℕ) (i : ℕ) → View src (field_nodes src i) (field_items src i) Table.fields
fields src i = go (hit (run (bytewise field) (drop i src))) refl
  where
    go : (b : Bool) → hit (run (bytewise field) (drop i src)) ≡ b → View src (field_nodes src i) (field_items src i) Table.fields
    go true p =
        record {
          forest = tree Rule.field_list i (taken (run (bytewise (list_of Rule.field_list field)) (drop i src))) (list_nodes field_form src i) nil;
          is = rw p (fields_node src i p);
          members = Members.fields i _ (list_nodes field_form src i);
          seen = λ xs. rw p refl;
          table = refl;
        }
    go false p = record { forest = nil; is = rw p refl; members = Members.nothing; seen = λ xs. rw p refl; table = refl }

pub view : (src : List ℕ) (k : Kind) (i : ℕ) → (k ≡ Enum → hit (run (bytewise enum_tag) (drop i src)) ≡ true)
    → View src (member_nodes src k i) (member_items src k i) (own k)
view src Enum i h = tags src i (h refl)
view src Packet i h = fields src i
view src Struct i h = fields src i
view src Group i h = fields src i
view src Checksum i h = none src
view src CustomField i h = none src
