use native.Mathlib.Omega.{arith}
use Rattle.cases_bytes.proofs.AnswersLaws.{length-entries}
use Rattle.cases_bytes.proofs.StoredLaws.{behind}
use Rattle.cases_bytes.proofs.answer.put_tables.Goals as goal

pub put_table-b-requires : goal.put_table-b-requires
put_table-b-requires c =
    let args = c.args.of in
    omega (arith, length-entries args.locations.now)

pub put_table-c-requires : goal.put_table-c-requires
put_table-c-requires c =
    let args = c.args.of in
    omega (arith, length-entries args.locations.now, length-entries args.fields.now)

pub put_table-d-requires : goal.put_table-d-requires
put_table-d-requires c =
    let args = c.args.of in
    omega (arith, length-entries args.locations.now, length-entries args.fields.now, length-entries args.targets.now)

pub put_table-requires : goal.put_table-requires
put_table-requires c =
    let args = c.args.of in
    omega (arith, length-entries args.locations.now, length-entries args.fields.now, length-entries args.targets.now, length-entries args.kinds.now)

pub returns : goal.returns
returns c =
    behind c.put_table-a.ensures
    (behind c.put_table-b.ensures
    (behind c.put_table-c.ensures
    (behind c.put_table-d.ensures c.put_table.ensures)))
