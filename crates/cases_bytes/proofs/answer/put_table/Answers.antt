use Rattle.cases_bytes.proofs.AnswersLaws.{entries-run, length-entries}
use native.Mathlib.Omega.{arith}
use lib.Seq.{length-sets, take_all}
use Rattle.cases_bytes.proofs.answer.put_table.Goals as goal

pub loop-i-preserved : goal.loop-i-preserved
loop-i-preserved c =
    let wrote = c.put_number.ensures.bytes in
    let kept = c.loop-i.invariant in
    (rw (wrote, length-sets) kept.0, omega arith, rw (wrote, kept.2) (entries-run _ _ _ _ c.loop-i-test.true))

pub returns : goal.returns
returns c =
    let table = c.args.table.now in
    record {
      bytes = rw (take_all c.loop-i.i table c.loop-i-test.false) at c.loop-i.invariant.2;
      next = omega (arith, length-entries table);
    }
