-- `layout::lay_out` meets its contract: refused by the declaration, refused as judged, or placed.
use Rattle.std.proofs.Common.{◌≡◌, rules, Ok, Err}
use Rattle.layout.specs.declared.Refusal.{Refusal}
use Rattle.layout.proofs.WholeLaws.{opened, refused, refused_fields, accepted, laid_out}
use Rattle.layout.proofs.lay_out.Goals as goal

pub returns-in_err-rows : goal.returns-in_err-rows
returns-in_err-rows c =
    let q : (e : Refusal) × (c.field_rows.result ≡ Err e) × (c.from_residual.result ≡ Err (record { refusal = e; place = c.args.index })) = search rules in
    rw q.2 (refused _ _ _ _ _ q.0 (rw q.1 at c.field_rows.ensures.number))

pub returns-in_err-judge_fields : goal.returns-in_err-judge_fields
returns-in_err-judge_fields c =
    let q : c.field_rows.result ≡ Ok c.in_ok-rows.rows = search rules in
    let r : c.from_residual-in_err-judge_fields.result ≡ Err c.in_err-judge_fields.field-0.0 = search rules in
    rw r (refused_fields _ _ _ _ _ _ _ (opened _ _ _ c.field_rows.ensures.number c.field_rows.ensures.rows q) _ c.in_err-judge_fields.ensures)

pub place_fields-a-requires : goal.place_fields-a-requires
place_fields-a-requires c =
    let q : c.field_rows.result ≡ Ok c.in_ok-rows.rows = search rules in
    accepted _ _ _ _ _ _ _ (opened _ _ _ c.field_rows.ensures.number c.field_rows.ensures.rows q) _ c.in_ok-judge_fields.ensures

pub returns : goal.returns
returns c =
    let q : c.field_rows.result ≡ Ok c.in_ok-rows.rows = search rules in
    laid_out _ _ _ _ _ _ _ (opened _ _ _ c.field_rows.ensures.number c.field_rows.ensures.rows q) _ c.in_ok-judge_fields.ensures _ _ _ c.place_fields-a.ensures
