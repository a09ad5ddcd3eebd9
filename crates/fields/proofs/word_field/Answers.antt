use Rattle.std.proofs.Common.{refl, subst}
use Rattle.fields.specs.Words.{Sole, no_word}
use Rattle.fields.proofs.word_field.Goals as goal

pub returns-then-not-starts_with : goal.returns-then-not-starts_with
returns-then-not-starts_with c = record { drawn = no_word c.if-not-starts_with.ensures.value; sound = λ h. tt; missed = λ h. refl }

pub returns-in-Some : goal.returns-in-Some
returns-in-Some c = c.only_kind.ensures.answers (subst (Sole c.args.s.now) c.in-Some.is c.sole_kind.ensures)
