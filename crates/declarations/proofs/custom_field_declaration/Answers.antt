use Rattle.meaning.specs.Rules.{Rule}
use Rattle.meaning.specs.Pdl.{custom_field_declaration}
use Rattle.grammar.specs.Steps.{reads_rule}
use Rattle.declarations.specs.Headers.{custom_head}
use Rattle.declarations.proofs.custom_field_declaration.Goals as goal

pub returns : goal.returns
unfolding custom_field_declaration custom_head
returns c = reads_rule Rule.custom_field_declaration c.custom_field_head.ensures.drawn.reads
