-- The kinds of rows by their numbers (01, 'Rows').
use Rattle.std.specs.Prelude.{ℕ, ◌+◌, ◌≡◌, refl}
use denote.Enum.Declared.{tag_of}
use Rattle.walk.specs.declared.kinds.FieldKind.{FieldKind}
use Rattle.walk.specs.declared.kinds.FieldKind.TheVariants.{Checksum, Padding, Size, Count, ElementSize, Body, Payload, FixedScalar, FixedEnum, Reserved, Array, Scalar, Typedef, Group}
use Rattle.walk.specs.declared.kinds.TagKind.{TagKind}
use Rattle.walk.specs.declared.kinds.TagKind.TheVariants.{Value, Range, Other, ValueInRange}
use Rattle.walk.specs.declared.kinds.ConstraintKind.{ConstraintKind}
use Rattle.walk.specs.declared.kinds.ConstraintKind.TheVariants.{Integer, Tag}
use Rattle.walk.specs.contracts.kinds.TagKind as tags
use Rattle.walk.specs.contracts.kinds.ConstraintKind as constraints

abbrev pub field_number : FieldKind → ℕ
field_number Checksum = 1
field_number Padding = 2
field_number Size = 3
field_number Count = 4
field_number ElementSize = 5
field_number Body = 6
field_number Payload = 7
field_number FixedScalar = 8
field_number FixedEnum = 9
field_number Reserved = 10
field_number Array = 11
field_number Scalar = 12
field_number Typedef = 13
field_number Group = 14

abbrev pub tag_number : TagKind → ℕ
tag_number Value = 1
tag_number Range = 2
tag_number Other = 3
tag_number ValueInRange = 4

abbrev pub constraint_number : ConstraintKind → ℕ
constraint_number Integer = 1
constraint_number Tag = 2

-- what `as` gives a kind
pub tag_number_is : (kind : TagKind) → tag_of tags.the_type kind + 1 ≡ tag_number kind
tag_number_is Value = refl
tag_number_is Range = refl
tag_number_is Other = refl
tag_number_is ValueInRange = refl

pub constraint_number_is : (kind : ConstraintKind) → tag_of constraints.the_type kind + 1 ≡ constraint_number kind
constraint_number_is Integer = refl
constraint_number_is Tag = refl
