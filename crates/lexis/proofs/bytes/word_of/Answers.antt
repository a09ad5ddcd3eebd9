-- `word_of` meets its contract: a word, another byte, or nothing.
use Rattle.std.proofs.Common.{sym}
use Rattle.lexis.specs.Classes.{word_none, word_not, word_is}
use Rattle.lexis.proofs.bytes.word_of.Goals as goal

pub returns-in-Some : goal.returns-in-Some
returns-in-Some c = word_is c.args.head c.args.tail c.in-Some.ensures.cases.0 (sym c.if-in_class.ensures) c.run_of-n.ensures

pub returns-in_default : goal.returns-in_default
returns-in_default c = word_not c.args.head c.args.tail c.in-Some.ensures.cases.0 (sym c.if-in_class.ensures)

pub returns-in_default-2 : goal.returns-in_default-2
returns-in_default-2 c = word_none c.args.head c.args.tail _ (rw c.in_default.is at c.split_first.ensures.cases)
