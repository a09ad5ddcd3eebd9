use Rattle.meaning.specs.Quoted.{bytes}
use Rattle.fields.specs.Words.{stands, sole_size, sole_reserved, sole_payload, sole_count, sole_body, sole_fixed}
use Rattle.fields.proofs.sole_kind.Goals as goal

pub returns-then-starts_with : goal.returns-then-starts_with
returns-then-starts_with c = stands (bytes "_s") sole_size c.if-starts_with.ensures.value

pub returns-then-starts_with-2 : goal.returns-then-starts_with-2
returns-then-starts_with-2 c = stands (bytes "_r") sole_reserved c.if-starts_with-2.ensures.value

pub returns-then-starts_with-3 : goal.returns-then-starts_with-3
returns-then-starts_with-3 c = stands (bytes "_pay") sole_payload c.if-starts_with-3.ensures.value

pub returns-then-starts_with-4 : goal.returns-then-starts_with-4
returns-then-starts_with-4 c = stands (bytes "_co") sole_count c.if-starts_with-4.ensures.value

pub returns-then-starts_with-5 : goal.returns-then-starts_with-5
returns-then-starts_with-5 c = stands (bytes "_b") sole_body c.if-starts_with-5.ensures.value

pub returns-then-starts_with-6 : goal.returns-then-starts_with-6
returns-then-starts_with-6 c = stands (bytes "_f") sole_fixed c.if-starts_with-6.ensures.value
