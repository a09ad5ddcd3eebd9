-- The items of a reading, sort by sort: comments stand apart from all else, and every row has its table's size.
use Prim.Native.Nat.{ℕ, zero, suc, ◌+◌, ◌-◌}
use Rattle.std.specs.Prelude.{◌≡◌, List, [], ◌∷◌, ◌++◌, Bool, true, false, length}
use Rattle.std.proofs.Math.Path.{refl}
use Rattle.std.proofs.Common.{ap}
use Rattle.meaning.specs.Choice.{pick}
use Rattle.meaning.specs.Rules.{Rule, is}
use Rattle.meaning.specs.Forest.{Forest, nil, tree}
use Rattle.meaning.specs.Tables.{Table, size, Item, row, count, first_of}
use Rattle.meaning.specs.Walk.{Part, node, part, following, each, optional, parse_constraint_list, parse_enum_tag, parse_field_list, kinds, kind_in, parse_declaration, parse_kind, parse_toplevel, comments}
use Rattle.declaration_rows.specs.Sorts.{Sorted, Told, no_item, an_item, sorted, told-++, told_each, told_number, told_constraints, told_enum_tag, told_fields}

-- every table but the comments'
abbrev pub others : Table → Bool
others Table.declarations = true
others Table.fields = true
others Table.tags = true
others Table.constraints = true
others Table.comments = false

-- rows of comments alone
pub data Commented : List Item → Type 0 where
  no_comment : Commented []
  a_comment : {ws : List ℕ} {xs : List Item} → length ws ≡ size Table.comments → Commented xs → Commented (row Table.comments ws ∷ xs)

-- ---- what the walk over declarations meets
module _ (src : List ℕ) where
  -- a function text or a parent: two words
  two : (b : Bool) (a c d e : ℕ) (ws vs : List ℕ) → length (pick b (a ∷ c ∷ []) (d ∷ e ∷ []) ++ ws ++ vs) ≡ suc (suc (length (ws ++ vs)))
  two true a c d e ws vs = refl
  two false a c d e ws vs = refl

  told_declaration : (xs : List Item) (kind : ℕ) (p : Part) → Told others (parse_declaration src xs kind p)
  unfolding parse_declaration
  told_declaration xs kind p =
      let id = part Rule.identifier (following p.kids) in
      let parent = part Rule.identifier id.next in
      let width = part Rule.integer parent.next in
      let function = part Rule.string width.next in
      let header = part Rule.constraint_list function.next in
      let tags = part Rule.enum_tag_list header.next in
      let cs = parse_constraint_list src header.kids in
      let ts = each Rule.enum_tag (λ q. parse_enum_tag src q) tags.kids in
      let fs = parse_field_list src (xs ++ cs) (part Rule.field_list tags.next).kids in
      let own = pick tags.found Table.tags Table.fields in
      let n = count own (ts ++ fs) in
      let m = count Table.constraints cs in
      told-++
      (told-++
      (told-++ (told-++ (told_number others refl refl refl src width) (told_constraints others refl refl refl src header.kids))
      (told_each Rule.enum_tag (λ q. parse_enum_tag src q) (told_enum_tag others refl refl refl src) tags.kids))
      (told_fields others refl refl refl src (part Rule.field_list tags.next).kids (xs ++ cs)))
      (an_item Table.declarations refl
      (ap (λ (k : ℕ). suc (suc (suc (suc (suc (suc (suc (suc (suc k)))))))))
      (two function.found (function.start + 1) (function.len - 2) parent.start parent.len
      (optional src width) (first_of (count own xs) n ∷ n ∷ first_of (count Table.constraints xs) m ∷ m ∷ [])))
      no_item)

  told_kind : (xs : List Item) (k : ℕ) (p : Part) → Told others (parse_kind src xs k p)
  told_kind xs zero p = no_item
  told_kind xs (suc k) p = told_declaration xs (suc k) p

  pub told_toplevel : (w : Forest) (xs : List Item) → Told others (parse_toplevel src xs w)
  unfolding parse_toplevel
  told_toplevel nil xs = no_item
  told_toplevel (tree r s l k more) xs =
      told-++ (told_kind xs (kind_in kinds r 1) (node s l k more)) (told_toplevel more (xs ++ parse_kind src xs (kind_in kinds r 1) (node s l k more)))

  pub of_toplevel : (w : Forest) (xs : List Item) → Sorted others (parse_toplevel src xs w)
  of_toplevel w xs = sorted (told_toplevel w xs)

-- ---- the comments of a forest
commented-++ : {xs ys : List Item} → Commented xs → Commented ys → Commented (xs ++ ys)
commented-++ no_comment b = b
commented-++ (a_comment e a) b = a_comment e (commented-++ a b)

commented_pick : (b : Bool) {xs : List Item} → Commented xs → Commented (pick b xs [])
commented_pick true a = a
commented_pick false a = no_comment

pub of_comments : (src : List ℕ) (w : Forest) → Commented (comments src w)
unfolding comments
of_comments src nil = no_comment
of_comments src (tree r s l k more) =
    commented-++ (commented-++ (commented_pick (is Rule.COMMENT r) (a_comment refl no_comment)) (of_comments src k)) (of_comments src more)
