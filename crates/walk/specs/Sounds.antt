-- Rows have their table's size.
use Rattle.std.specs.Prelude.{ℕ, ◌≡◌, length, Option}
use Rattle.std.proofs.Math.Path.{refl}
use Rattle.meaning.specs.declared.SourceLocation.{SourceLocation}
use Rattle.meaning.specs.Rows.{place_words, tag_words, constraint_words, field_words, declaration_words}
use Rattle.meaning.specs.Tables.{Table, size}
use Rattle.walk.specs.declared.Name.{Name}
use Rattle.walk.specs.declared.Number.{Number}
use Rattle.walk.specs.declared.rows.NumberWords.{NumberWords}
use Rattle.walk.specs.declared.kinds.FieldKind.{FieldKind}
use Rattle.walk.specs.declared.kinds.TagKind.{TagKind}
use Rattle.walk.specs.declared.kinds.ConstraintKind.{ConstraintKind}
use Rattle.walk.specs.Kinds.{field_number, tag_number, constraint_number}
use Rattle.walk.specs.Terms.{name_words, said_by, words_of_number, pair_words, words_of_tag, words_of_constraint, words_of_field, words_of_declaration}

-- ---- words in a row, whatever they are
module _ (kind : ℕ) (p q : SourceLocation) where
  pub tag_sized : (id : Name) (v e inner : ℕ) → length (tag_words kind (place_words p q) (name_words id) v e inner) ≡ size Table.tags
  tag_sized id v e inner = refl

  pub constraint_sized : (id tag : Name) (v : ℕ) → length (constraint_words kind (place_words p q) (name_words id) (name_words tag) v) ≡ size Table.constraints
  constraint_sized id tag v = refl

  pub field_sized : (a b c : Name) (na nb : NumberWords) (first count cond : ℕ)
      → length (field_words kind (place_words p q) (name_words a) (name_words b) (name_words c) (pair_words na) (pair_words nb) first count cond)
      ≡ size Table.fields
  field_sized a b c na nb first count cond = refl

  pub declaration_sized : (id other : Name) (width : NumberWords) (first count list listed : ℕ)
      → length (declaration_words kind (place_words p q) (name_words id) (name_words other) (pair_words width) first count list listed)
      ≡ size Table.declarations
  declaration_sized id other width first count list listed = refl

-- ---- and of kinds and integers
module _ (p q : SourceLocation) where
  pub words_of_tag_sized : (kind : TagKind) (id : Name) (v e : Option Number) (inner : ℕ) → length (words_of_tag kind p q id v e inner) ≡ size Table.tags
  unfolding words_of_tag
  words_of_tag_sized kind id v e inner = tag_sized (tag_number kind) p q id (said_by v) (said_by e) inner

  pub words_of_constraint_sized : (kind : ConstraintKind) (id tag : Name) (v : Option Number)
      → length (words_of_constraint kind p q id tag v) ≡ size Table.constraints
  unfolding words_of_constraint
  words_of_constraint_sized kind id tag v = constraint_sized (constraint_number kind) p q id tag (said_by v)

  pub words_of_field_sized : (kind : FieldKind) (a b c : Name) (na nb : Option Number) (first count cond : ℕ)
      → length (words_of_field kind p q a b c na nb first count cond) ≡ size Table.fields
  unfolding words_of_field
  words_of_field_sized kind a b c na nb first count cond =
      field_sized (field_number kind) p q a b c (words_of_number na) (words_of_number nb) first count cond

  pub words_of_declaration_sized : (kind : ℕ) (id other : Name) (width : Option Number) (first count list listed : ℕ)
      → length (words_of_declaration kind p q id other width first count list listed) ≡ size Table.declarations
  unfolding words_of_declaration
  words_of_declaration_sized kind id other width first count list listed = declaration_sized kind p q id other (words_of_number width) first count list listed
