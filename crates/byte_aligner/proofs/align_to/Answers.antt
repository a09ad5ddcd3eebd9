-- `byte_aligner::align_to` meets its contract: the end over one row tells the end over the records.
use Rattle.std.proofs.Common.{rules, ◌≡◌, ap, Err}
use Rattle.alignment.specs.Answers.{Ended}
use Rattle.byte_aligner.specs.Answers.{ending}
use Rattle.byte_aligner.proofs.Laws.{end_refused, end_accepted}
use Rattle.byte_aligner.proofs.align_to.Goals as goal

pub returns-in_err-align : goal.returns-in_err-align
returns-in_err-align c = let e : c.from_residual.result ≡ Err c.in_err-align.field-0.0 = search rules in
    ap (λ (x : Ended). ending x c.args.a.now) (rw e (end_refused _ _ _ _ c.near.ensures c.in_err-align.field-0.0 c.in_err-align.ensures))

pub returns : goal.returns
returns c = ap (λ (x : Ended). ending x c.args.a.now) (end_accepted _ _ _ _ c.near.ensures _ c.in_ok-align.ensures)
