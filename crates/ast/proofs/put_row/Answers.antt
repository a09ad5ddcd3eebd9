use Rattle.std.proofs.Common.{arith, rules, sym, refl, ◌∙◌, ◌≡◌, ◌*◌, length, add-one}
use lib.ListN.{length-set}
use lib.Seq.{paste-suc}
use Rattle.ast.specs.RowLaws.{short_iff, put_paste, put_short, put_empty}
use Rattle.ast.proofs.put_row.Goals.{else-size-gt0-via-then-size-gt0+else-k-t, else-size-gt0-via-else-size-gt0}
use Rattle.ast.proofs.put_row.Goals as goal

pub loop-i-preserved : goal.loop-i-preserved
loop-i-preserved c = let l = c.loop-i in
    let a = c.args in (
      search rules,
      (
        simp length-set l.invariant.1.0,
        rw (l.invariant.1.1, add-one l.i) (paste-suc a.t.now (a.k * length a.row.now) a.row.now l.i 0 (omega arith) (omega arith)),
      ),
    )

pub returns-after-loop-i : goal.returns-after-loop-i
returns-after-loop-i c = let l = c.loop-i in
    let a = c.args in
    let e : l.i ≡ length a.row.now = omega (arith, l.auto.i-end) in
    l.invariant.1.1 ∙ rw e (put_paste _ a.k a.row.now a.t.now refl l.invariant.0)

pub returns-else-size-gt0 : goal.returns-else-size-gt0
returns-else-size-gt0 c =
    let a = c.args in
    elim c.else-size-gt0.branch [
      | else-size-gt0-via-then-size-gt0+else-k-t w ↦ sym (put_short _ a.k _ _ (short_iff _ _ _ w.if-size-gt0.true w.if-k-t.false))
      | else-size-gt0-via-else-size-gt0 w ↦ sym (put_empty a.k a.row.now a.t.now (omega (arith, w.if-size-gt0.false)))
    ]
