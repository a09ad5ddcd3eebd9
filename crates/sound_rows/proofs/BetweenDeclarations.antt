-- Declarations and comments in the order of their starts: a declaration's header constraints stand before its fields, and a test
-- declaration and the endianness line add nothing.
use Rattle.std.specs.Prelude.{◌≡◌, Bool, ℕ, zero, suc, ◌+◌, ◌-◌, ◌≤◌, ◌<◌, get_or}
use Rattle.std.proofs.Math.Path.{refl}
use Rattle.std.proofs.Math.Bool.{true, false}
use mathlib.Core.List.{List, [], ◌∷◌, ◌++◌}
use native.Mathlib.Omega.{arith}
use Rattle.std.proofs.Math.ListN.{length}
use Rattle.meaning.specs.Choice.{pick}
use Rattle.meaning.specs.Rules.{Rule, is}
use Rattle.meaning.specs.Forest.{Forest, nil}
use Rattle.meaning.specs.Tables.{Table, Item, count, first_of}
use Rattle.meaning.specs.Walk.{node, part, following, each, optional, parse_constraint_list, parse_enum_tag, parse_field_list, kinds, kind_in, parse_declaration, parse_kind, parse_toplevel, comment_row, comments}
use Rattle.text.specs.PlaceLaws.{offset_is}
use Rattle.declaration_rows.specs.Sorts.{sorted-++, sorted_each, of_number, of_constraints, of_enum_tag, of_fields, parts, no_declarations}
use Rattle.sound_rows.specs.Placement.{Known, Fit, Ranged, bare, grown, upward}
use Rattle.sound_rows.specs.Slots.{Nodes, Made, quoted, some_fit, slot, slot_then, found_node, nodes_following}
use Rattle.sound_rows.specs.Between.{Between, between_none, between-++, between_in, between_row, between_last, between_number, between_each}
use Rattle.sound_rows.proofs.BetweenTags.{constraints_between, enum_tag_between}
use Rattle.sound_rows.proofs.BetweenFields.{fields_between}
use Rattle.standing.specs.Names.{names}
use Rattle.standing.specs.Kinds.{rules}

-- one of two names, and further words
either : (N : ℕ → ℕ → Type 0) (b : Bool) (x y x' y' : ℕ) (vs ws : List ℕ) → (b ≡ true → N x y) → N x' y'
    → N (get_or (pick b (x ∷ y ∷ []) (x' ∷ y' ∷ []) ++ vs ++ ws) 0 0) (get_or (pick b (x ∷ y ∷ []) (x' ∷ y' ∷ []) ++ vs ++ ws) 1 0)
either N true x y x' y' vs ws h k = h refl
either N false x y x' y' vs ws h k = k

no_comments : (src : List ℕ) {w : Forest} → w ≡ nil → comments src w ≡ []
unfolding comments
no_comments src e = rw e

module _ (src : List ℕ) {P : Known} {t : Table} where
  declaration_between : (xs : List Item) (kind : ℕ) {r : Rule} {s l : ℕ} {kids : Forest} (more : Forest)
      → Fit rules P r s l kids → Nodes P s (s + l) kids → s + l ≤ length src
      → Between P t s (s + l) (parse_declaration src xs kind (node s l kids more))
  unfolding parse_declaration
  declaration_between xs kind {r} {s} {l} {kids} more f g e =
      let id = slot Rule.identifier (nodes_following g) in
      let parent = slot_then Rule.identifier id in
      let width = slot_then Rule.integer parent in
      let function = slot_then Rule.string width in
      let header = slot_then Rule.constraint_list function in
      let tags = slot_then Rule.enum_tag_list header in
      let list = slot_then Rule.field_list tags in
      let ip = part Rule.identifier (following kids) in
      let pp = part Rule.identifier ip.next in
      let wp = part Rule.integer pp.next in
      let fp = part Rule.string wp.next in
      let hp = part Rule.constraint_list fp.next in
      let tp = part Rule.enum_tag_list hp.next in
      let lp = part Rule.field_list tp.next in
      let cs = parse_constraint_list src hp.kids in
      let ts = each Rule.enum_tag (λ q. parse_enum_tag src q) tp.kids in
      let own = pick tp.found Table.tags Table.fields in
      let n = count own (ts ++ parse_field_list src (xs ++ cs) lp.kids) in
      let m = count Table.constraints cs in
      let o = offset_is src s (omega (arith, e)) in
      let a : s ≤ function.edge = omega (arith, id.low, parent.low, width.low, function.low) in
      let z : list.edge ≤ s + l = upward list.next in
      let y : tags.edge ≤ s + l = omega (arith, list.low) in
      let x : header.edge ≤ s + l = omega (arith, tags.low) in
      let other =
      either (Made P) fp.found (fp.start + 1) (fp.len - 2) pp.start pp.len (optional src wp)
      (first_of (count own xs) n ∷ n ∷ first_of (count Table.constraints xs) m ∷ m ∷ [])
      (λ d. quoted (found_node Rule.string width.next d).known) parent.made in
      between_last Table.declarations _
      (between_in (let w : s ≤ s = omega arith in w) z
      (between-++ (between-++ (between-++ (between_number src wp a)
      (constraints_between src header.kids (omega (arith, x, e))))
      (between_each Rule.enum_tag (λ q. parse_enum_tag src q) (enum_tag_between src) tags.kids (omega (arith, y, e))))
      (fields_between src (xs ++ cs) list.kids (omega (arith, z, e)))))
      (no_declarations
      (sorted-++ (sorted-++ (sorted-++ (of_number parts refl refl refl src wp) (of_constraints parts refl refl refl src hp.kids))
      (sorted_each Rule.enum_tag (λ q. parse_enum_tag src q) (of_enum_tag parts refl refl refl src) tp.kids))
      (of_fields parts refl refl refl src lp.kids (xs ++ cs))))
      (omega (arith, o)) (omega (arith, o, some_fit f)) (id.made, (other, tt))

  kind_between : (xs : List Item) (k : ℕ) {r : Rule} {s l : ℕ} {kids : Forest} (more : Forest)
      → Fit rules P r s l kids → Nodes P s (s + l) kids → s + l ≤ length src
      → Between P t s (s + l) (parse_kind src xs k (node s l kids more))
  kind_between xs zero {s = s} {l} more f g e = between_none (let z : s ≤ s + l = omega arith in z)
  kind_between xs (suc k) more f g e = declaration_between xs (suc k) more f g e

  -- THE WALK over declarations
  pub toplevel_between : (xs : List Item) {lo hi : ℕ} {w : Forest} → Nodes P lo hi w → hi ≤ length src → Between P t lo hi (parse_toplevel src xs w)
  unfolding parse_toplevel
  toplevel_between xs (bare h) e = between_none h
  toplevel_between xs (grown {r = r} {s} {l} {kids} {more} f h i j) e =
      let z : s + l ≤ s + l = omega arith in
      between-++ (between_in h z (kind_between xs (kind_in kinds r 1) more f i (omega (arith, upward j, e))))
      (toplevel_between (xs ++ parse_kind src xs (kind_in kinds r 1) (node s l kids more)) j e)

  -- ---- comments, wherever they stand
  comment_between : (s l : ℕ) → s < s + l → s + l ≤ length src → Between P t s (s + l) (comment_row src s l)
  comment_between s l h e = let o = offset_is src s (omega (arith, e)) in between_row Table.comments _ (omega (arith, o)) (omega (arith, o, h)) tt

  pub comments_between : {lo hi : ℕ} {w : Forest} → Ranged names P lo hi w → hi ≤ length src → Between P t lo hi (comments src w)
  unfolding comments
  comments_between (bare h) e = between_none h
  comments_between {lo} (grown {r = r} {s} {l} {kids} f h i j) e =
      let u : s + l ≤ length src = omega (arith, upward j) in
      between-++ (go (is Rule.COMMENT r) refl u (comments_between i u)) (comments_between j e)
    where
      go : (b : Bool) → is Rule.COMMENT r ≡ b → s + l ≤ length src → Between P t s (s + l) (comments src kids)
          → Between P t lo (s + l) (pick b (comment_row src s l) [] ++ comments src kids)
      go true d u k =
          let a : s < s + l = omega (arith, some_fit f) in
          let z : s + l ≤ s + l = omega arith in
          rw (no_comments src (f.alone d)) (between-++ (between_in h z (comment_between s l a u)) (between_none z))
      go false d u k = between-++ (between_none h) k
