use Rattle.std.proofs.Common.{refl}
use Rattle.meaning.specs.Rules.{Rule}
use Rattle.meaning.specs.Pdl.{enum_tag}
use Rattle.grammar.specs.Drawing.{draws_rule, first}
use Rattle.spans.specs.declared.Tag.TheVariants.{Value, Other}
use Rattle.tags.specs.Fronts.{no_value, no_range}
use Rattle.tags.proofs.Laws.{enumerated_is}
use Rattle.tags.proofs.enum_tag.Goals as goal

pub returns-in-Missed : goal.returns-in-Missed
returns-in-Missed c = enumerated_is (Other _)
    (no_value c.front-label.ensures c.then_integer-low.ensures refl _ c.in-Missed.is c.optional.ensures.is
    c.then_literal-at.ensures)
    (λ h. tt) c.tagged.ensures

pub returns-in-Missed-at : goal.returns-in-Missed-at
returns-in-Missed-at c = let range = c.then_range-range.ensures in
    let s = c.then_integer-low.ensures in
    enumerated_is (Value _)
    (no_range c.front-label.ensures s c.between.ensures _ _ _ c.in_default.is (range.answers c.front-label.ensures s).drawn range.goes
    c.in-Missed-at.is c.optional-in-Missed-at.ensures.is)
    (λ h. tt) c.tagged-in-Missed-at.ensures

pub returns : goal.returns
unfolding enum_tag
returns c = let e = c.in_default-at.is in
    let k = c.then_range-range.ensures.answers c.front-label.ensures c.then_integer-low.ensures in
    record { drawn = draws_rule Rule.enum_tag refl (first _ _ (first _ _ k.drawn e) e); sound = k.sound; missed = k.missed }
