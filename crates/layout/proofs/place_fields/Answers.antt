-- `layout::place_fields` meets its contract: no field is refused, and each is fed in turn.
use Rattle.std.proofs.Common.{sym, ◌∙◌, refl}
use Rattle.layout.proofs.LoopLaws.{place_start, place_asks, place_goes, place_turn, place_end}
use Rattle.layout.proofs.place_fields.Goals as goal

pub loop-i-init : goal.loop-i-init
loop-i-init c = (refl, (refl, place_start _ _ _ _ _ _ c.new-a.ensures))

pub unwrap-asked-requires : goal.unwrap-asked-requires
unwrap-asked-requires c = place_asks _ _ _ _ _ c.loop-i.invariant.1.1 c.requires.number c.loop-i-test.true _ c.field_request.ensures

pub unwrap-a-requires : goal.unwrap-a-requires
unwrap-a-requires c = place_goes _ _ _ _ _ c.loop-i.invariant.1.1 c.requires.number c.loop-i-test.true
    _ (sym c.field_request.ensures ∙ c.unwrap-asked.ensures) _ _ _ c.place_field.ensures

pub loop-i-preserved : goal.loop-i-preserved
loop-i-preserved c = (
  c.place_field.auto.placed ∙ c.loop-i.invariant.0,
  (
    c.place_field.auto.chunks ∙ c.loop-i.invariant.1.0,
    place_turn _ _ _ _ _ c.loop-i.invariant.1.1 c.requires.number c.loop-i-test.true
        _ (sym c.field_request.ensures ∙ c.unwrap-asked.ensures) _ _ _ c.place_field.ensures _ c.unwrap-a.ensures,
  ),
)

pub returns : goal.returns
returns c = place_end _ _ _ _ _ c.loop-i.invariant.1.1 c.loop-i-test.false
