-- The meaning's tables by the code's, and the code's by the meaning's.
use Rattle.meaning.specs.Tables as meaning
use Rattle.ast.specs.declared.tables.Table.{Table}
use Rattle.ast.specs.declared.tables.Table.TheVariants.{Declarations, Fields, Tags, Constraints, Comments}

abbrev pub meant : Table → meaning.Table
meant Declarations = meaning.Table.declarations
meant Fields = meaning.Table.fields
meant Tags = meaning.Table.tags
meant Constraints = meaning.Table.constraints
meant Comments = meaning.Table.comments

abbrev pub named : meaning.Table → Table
named meaning.Table.declarations = Declarations
named meaning.Table.fields = Fields
named meaning.Table.tags = Tags
named meaning.Table.constraints = Constraints
named meaning.Table.comments = Comments
