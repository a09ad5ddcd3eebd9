-- `has_tails` meets its contract: every one of n bytes is a tail, or there are not so many.
use Rattle.std.proofs.Common.{rules, tests, take, ◌∙◌}
use Rattle.std.proofs.lemmas.Iterator.{YieldsList-from_slice}
use Rattle.std.proofs.lemmas.Iterator.Search.{all_from_yields_List}
use Rattle.meaning.specs.Utf8.{holds, tail}
use Rattle.text.proofs.Utf8Turns.{tails_all, tails_short}
use Rattle.text.proofs.has_tails.Goals as goal

pub returns-then-n-s : goal.returns-then-n-s
returns-then-n-s c =
    all_from_yields_List (holds tail) _ _ _ c.all.ensures.ran (YieldsList-from_slice (take c.args.n c.args.s.now) cc) (λ x b q k. search (rules, tests))
    ∙ tails_all c.args.n c.args.s.now c.if-n-s.true

pub returns-else-n-s : goal.returns-else-n-s
returns-else-n-s c = tails_short c.args.n c.args.s.now c.if-n-s.false
