use Rattle.meaning.specs.Rules.{Rule}
use Rattle.meaning.specs.Pdl.{group_declaration}
use Rattle.grammar.specs.Steps.{chain, link, reads_rule}
use Rattle.declarations.specs.Headers.{group_head}
use Rattle.declarations.proofs.group_declaration.Goals as goal

pub returns : goal.returns
unfolding group_declaration group_head
returns c = reads_rule Rule.group_declaration
    (chain (chain c.group_head.ensures.drawn.reads (link c.then_blanks.ensures c.then_field_list.ensures))
    c.next_literal.ensures)
