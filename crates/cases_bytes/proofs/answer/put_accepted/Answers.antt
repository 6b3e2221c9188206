use Rattle.cases_bytes.proofs.AnswersLaws.{length-head, length-tables, accepted-parts, fits}
use Rattle.cases_bytes.proofs.StoredLaws.{behind, stored, same-run}
use mathlib.Core.Path.{◌∙◌, sym}
use native.Mathlib.Omega.{arith}
use Rattle.cases_bytes.proofs.answer.put_accepted.Goals as goal

pub put_lengths-counted-requires : goal.put_lengths-counted-requires
put_lengths-counted-requires c =
    let room = fits _ _ _ _ _ _ _ (sym c.is_room.ensures ∙ c.if-not-is_room.false) in
    (omega (arith, room.out), (room.code, (room.locations, (room.fields, omega (arith, room.targets, room.kinds, room.makers)))))

pub put_code-at-requires : goal.put_code-at-requires
put_code-at-requires c =
    let room = fits _ _ _ _ _ _ _ (sym c.is_room.ensures ∙ c.if-not-is_room.false) in
    let args = c.args.of in
    let head = length-head args.code.now args.locations.now args.fields.now args.targets.now args.kinds.now args.makers.now in
    omega (arith, room.out, room.code, head)

pub put_tables-requires : goal.put_tables-requires
put_tables-requires c =
    let room = fits _ _ _ _ _ _ _ (sym c.is_room.ensures ∙ c.if-not-is_room.false) in
    let args = c.args.of in
    let head = length-head args.code.now args.locations.now args.fields.now args.targets.now args.kinds.now args.makers.now in
    omega (arith, room.out, room.code, room.locations, room.fields, room.targets, room.kinds, room.makers, head)

pub returns : goal.returns
returns c =
    let fine = sym c.is_room.ensures ∙ c.if-not-is_room.false in
    let room = fits _ _ _ _ _ _ _ fine in
    let args = c.args.of in
    let head = length-head args.code.now args.locations.now args.fields.now args.targets.now args.kinds.now args.makers.now in
    let all = length-tables args.locations.now args.fields.now args.targets.now args.kinds.now args.makers.now in
    stored fine (omega (arith, room.out, room.code, room.locations, room.fields, room.targets, room.kinds, room.makers, head, all))
    (same-run
    (behind c.put_lengths-counted.ensures (behind c.put_code-at.ensures c.put_tables.ensures))
    (accepted-parts _ _ _ _ _ _))
