use Rattle.std.proofs.Common.{rules}
use Rattle.meaning.specs.Pdl.{skip, declaration}
use Rattle.grammar.specs.Steps.{link, option}
use Rattle.declarations.specs.Files.{declaration_eats}
use Rattle.declarations.proofs.files.then_declarations.Goals as goal

pub then_many-requires-clause-steps : goal.then_many-requires-clause-steps
unfolding skip
then_many-requires-clause-steps c = (declaration, declaration_eats, search rules)

pub optional-requires : goal.optional-requires
unfolding skip
optional-requires c = (c.requires, (c.then_many.ensures declaration declaration_eats (search rules)).fits)

pub returns : goal.returns
unfolding skip
returns c =
    option c.requires (link c.then_declaration.ensures (c.then_many.ensures declaration declaration_eats (search rules))) c.optional.ensures.is
