-- `texts::pdl_name_text` meets its contract: the name's text over the front of the lent bytes, with its length and the number.
use Rattle.front.proofs.Laws.{named_on}
use Rattle.front.proofs.texts.pdl_name_text.Goals as goal

pub returns : goal.returns
returns c = let a = c.args in
    named_on a.s.now a.offset a.len _ _ _ _ c.name_text-part.ensures.result_value c.write_over.ensures c.name_number.ensures
