-- `byte_aligner::on_records` meets its contract: what the core left of the one row is told of the records.
use Rattle.std.proofs.Common.{rules, ◌≡◌, refl, Err}
use Rattle.byte_aligner.proofs.Laws.{left_refused, left_stored, left_kept}
use Rattle.byte_aligner.proofs.on_records.Goals as goal

pub returns-in_err-next : goal.returns-in_err-next
returns-in_err-next g c = λ k f. let e : c.from_residual.result ≡ Err c.in_err-next.field-0.0 = search rules in
    rw e (left_refused k _ _ _ _ _ c.in_err-next.field-0.0 (f _ _ _ _ _ _ c.near.ensures refl refl c.in_err-next.ensures))

pub returns-then-next-gt0 : goal.returns-then-next-gt0
returns-then-next-gt0 g c = λ k f. rw c.from.ensures
    (left_stored k _ _ _ _ _ _ (f _ _ _ _ _ _ c.near.ensures refl refl c.in_ok-next.ensures) c.if-at-chunks.true c.if-next-gt0.true)

pub returns-else-at-chunks : goal.returns-else-at-chunks
returns-else-at-chunks g c = λ k f. left_kept k _ _ _ _ _ _ (f _ _ _ _ _ _ c.near.ensures refl refl c.in_ok-next.ensures) c.else-at-chunks.either
