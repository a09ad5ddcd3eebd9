use Rattle.meaning.specs.Rules.{Rule}
use Rattle.meaning.specs.Pdl.{enum_declaration}
use Rattle.grammar.specs.Steps.{chain, link, reads_rule}
use Rattle.declarations.specs.Headers.{enum_head}
use Rattle.declarations.proofs.enum_declaration.Goals as goal

pub returns : goal.returns
unfolding enum_declaration enum_head
returns c = reads_rule Rule.enum_declaration
    (chain (chain c.enum_head.ensures.drawn.reads (link c.then_blanks.ensures c.then_enum_tag_list.ensures))
    c.next_literal.ensures)
