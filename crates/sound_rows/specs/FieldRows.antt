-- No field row of an accepted source is damaged: the walk over nodes with their notes, rule by rule.
use Rattle.std.specs.Prelude.{ℕ, zero, suc, ◌≡◌, refl, Bool, true, false, List, [], ◌++◌}
use Rattle.std.proofs.Common.{sym, subst}
use Rattle.meaning.specs.Choice.{pick}
use Rattle.meaning.specs.Rules.{Rule, is}
use Rattle.meaning.specs.Forest.{Forest, nil, tree, clean}
use Rattle.meaning.specs.Tables.{Table, Item}
use Rattle.meaning.specs.Walk.{Part, absent, node, part, following, parse_enum_tag, described, parse_constraint_list, parse_field, parse_field_list, kinds, kind_in, parse_declaration, parse_kind, parse_toplevel, items}
use Rattle.meaning.specs.Feeding.{damaged}
use Rattle.reading.specs.Sources.{whole}
use Rattle.reading.specs.Acceptance.{Accepts}
use Rattle.text.specs.ChoiceLaws.{both_is}
use Rattle.sound_rows.specs.EveryRow.{Every, none, a_row, Free, every-++, every_pick, every_each, of_comments, of_number, of_numbers, of_constraint_number, of_constraint_row, of_constraints, of_enum_tag}
use Rattle.sound_rows.specs.Notes.{all, AllNotes, notes_next, notes_following, notes_kids}
use Rattle.sound_rows.specs.FieldNodes.{some, notes, whole_notes, fine}
use Rattle.standing.specs.WholeSources.{declared_are}
use Rattle.standing.specs.Accepting.{whole_from}
use Rattle.standing.specs.Kinds.{rules}
use Rattle.reading.specs.Sorts as sorts

-- a field row by itself is not damaged
abbrev pub Sound : Table → List ℕ → Type 0
Sound Table.declarations ws = Unit {0}
Sound Table.fields ws = damaged ws 0 ≡ false
Sound Table.tags ws = Unit {0}
Sound Table.constraints ws = Unit {0}
Sound Table.comments ws = Unit {0}

free : Free Sound
free = record { tags = λ ws. tt; constraints = λ ws. tt; comments = λ ws. tt }

-- the children of a list of fields are fields
listed : (w : Forest) → AllNotes rules notes w → all (is Rule.field) (rules (part Rule.field_list w).kids) ≡ true
listed nil h = refl
listed (tree q s l k more) h = go (is Rule.field_list q) h.0.0
  where
    go : (b : Bool) → (b ≡ true → all (is Rule.field) (rules k) ≡ true)
        → all (is Rule.field) (rules (pick b (node s l k more) (absent (tree q s l k more))).kids) ≡ true
    go true e = e refl
    go false e = refl

module _ (src : List ℕ) where
  of_field : (xs : List Item) (p : Part) → some (rules p.kids) ≡ true → AllNotes rules notes p.kids → Every Sound (parse_field src xs p)
  unfolding parse_field
  of_field xs p e h =
      let d = described p.kids in
      let if = part Rule.constraint (following p.kids) in
      every-++
      (every-++
      (every-++ (every_pick if.found (of_constraint_number free src if))
      (every-++ (of_numbers free src d.ints) (of_constraints free src d.group)))
      (every_pick if.found (of_constraint_row free src if)))
      (a_row (fine p.kids e h).is none)

  of_fields : (w : Forest) (xs : List Item) → all (is Rule.field) (rules w) ≡ true → AllNotes rules notes w → Every Sound (parse_field_list src xs w)
  unfolding parse_field_list
  of_fields nil xs e h = none
  of_fields (tree r s l k more) xs e h =
      let i = both_is (is Rule.field r) (all (is Rule.field) (rules more)) e in
      every-++ (of_field xs (node s l k more) (h.0.1.0 i.0) h.1.0)
      (of_fields more (xs ++ parse_field src xs (node s l k more)) i.1 h.1.1)

  of_declaration : (xs : List Item) (kind : ℕ) (p : Part) → AllNotes rules notes p.kids → Every Sound (parse_declaration src xs kind p)
  unfolding parse_declaration
  of_declaration xs kind p h =
      let id = part Rule.identifier (following p.kids) in
      let parent = part Rule.identifier id.next in
      let width = part Rule.integer parent.next in
      let function = part Rule.string width.next in
      let header = part Rule.constraint_list function.next in
      let tags = part Rule.enum_tag_list header.next in
      let cs = parse_constraint_list src header.kids in
      let left : AllNotes rules notes tags.next =
      notes_next notes Rule.enum_tag_list header.next (notes_next notes Rule.constraint_list function.next
      (notes_next notes Rule.string width.next (notes_next notes Rule.integer parent.next
      (notes_next notes Rule.identifier id.next (notes_next notes Rule.identifier (following p.kids) (notes_following notes p.kids h)))))) in
      every-++
      (every-++
      (every-++ (every-++ (of_number free src width) (of_constraints free src header.kids))
      (every_each Rule.enum_tag (λ q. parse_enum_tag src q) (of_enum_tag free src) tags.kids))
      (of_fields (part Rule.field_list tags.next).kids (xs ++ cs) (listed tags.next left) (notes_kids notes Rule.field_list tags.next left)))
      (a_row tt none)

  of_kind : (xs : List Item) (k : ℕ) (p : Part) → AllNotes rules notes p.kids → Every Sound (parse_kind src xs k p)
  of_kind xs zero p h = none
  of_kind xs (suc k) p h = of_declaration xs (suc k) p h

  of_toplevel : (w : Forest) (xs : List Item) → AllNotes rules notes w → Every Sound (parse_toplevel src xs w)
  unfolding parse_toplevel
  of_toplevel nil xs h = none
  of_toplevel (tree r s l k more) xs h =
      every-++ (of_kind xs (kind_in kinds r 1) (node s l k more) h.1.0)
      (of_toplevel more (xs ++ parse_kind src xs (kind_in kinds r 1) (node s l k more)) h.1.1)

pub sound_fields : {src : List ℕ} → Accepts src → Every Sound (items src (whole src))
sound_fields {src} a =
    let x = whole_from a in
    every-++ (of_comments free (sorts.of_comments src (whole src)))
    (subst (Every Sound) (sym (declared_are x.1)) (of_toplevel src (clean x.0) [] (whole_notes x.1)))
