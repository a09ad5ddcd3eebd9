use Rattle.meaning.specs.Rules.{Rule}
use Rattle.meaning.specs.Pdl.{endianness_declaration}
use Rattle.grammar.specs.Steps.{chain, reads_rule}
use Rattle.declarations.proofs.files.endianness_declaration.Goals as goal

pub returns : goal.returns
unfolding endianness_declaration
returns c = reads_rule Rule.endianness_declaration (chain c.endianness.ensures c.then_whitespace.ensures)
