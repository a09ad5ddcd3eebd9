-- `whitespace` meets its contract: a space, another blank, another byte, or nothing.
use Rattle.std.proofs.Common.{sym, ne_eqb}
use Rattle.lexis.specs.Classes.{white_reads}
use Rattle.lexis.proofs.tokens.whitespace.Goals as goal

pub returns-in-Some-eq32 : goal.returns-in-Some-eq32
returns-in-Some-eq32 c = white_reads _ _ (rw (← c.in-Some-eq32.ensures.value, c.in-Some-eq32.field-0-test))

pub returns-in-Some : goal.returns-in-Some
returns-in-Some c = white_reads _ _ (rw (← c.in-Some.ensures.value, ← c.if-is_space.ensures, ne_eqb 32 c.in-Some.b.now (λ e. c.in-Some.b-test.1 (sym e))))

pub returns-in_default : goal.returns-in_default
returns-in_default c = white_reads _ _ (rw (← c.in-Some.ensures.value, ← c.if-is_space.ensures, ne_eqb 32 c.in-Some.b.now (λ e. c.in-Some.b-test.1 (sym e))))

pub returns-in_default-2 : goal.returns-in_default-2
returns-in_default-2 c = let none = rw c.in_default.is at c.first.ensures.value in white_reads _ _ (rw (← none))
