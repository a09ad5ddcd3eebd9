use Rattle.meaning.specs.Rules.{Rule}
use Rattle.meaning.specs.Pdl.{TEST, test_declaration}
use Rattle.grammar.specs.Steps.{chain, link, reads_rule}
use Rattle.declarations.proofs.tests.test_declaration.Goals as goal

pub returns : goal.returns
unfolding test_declaration TEST
returns c = reads_rule Rule.test_declaration
    (chain
    (chain (chain (chain (reads_rule Rule.TEST c.keyword.ensures) c.next_identifier-id.ensures) c.next_literal.ensures)
    (link c.then_blanks-b.ensures c.then_test_case_list.ensures))
    c.next_literal-2.ensures)
