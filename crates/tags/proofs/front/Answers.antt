use Rattle.grammar.specs.Drawing.{retold}
use Rattle.spans.specs.Parts.{gap, mark, name}
use Rattle.tags.proofs.front.Goals as goal

pub returns : goal.returns
returns c = record {
  name = _;
  equals = _;
  name_is = retold (name c.then_identifier-a.ensures) (λ h o. rw c.between.ensures);
  equals_is = mark c.next_literal.ensures;
  blanks_are = gap c.then_blanks.ensures;
}
