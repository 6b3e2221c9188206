use Rattle.x86_forms.proofs.ByRex.{store16, rotate16, store_two}
use Rattle.base.proofs.Tests.{eqb-false}
use Rattle.x86.specs.Decode.{opcode16}
use Rattle.x86_reader.proofs.decode.opcode16_at.Goals as goal

pub returns-in-W64 : goal.returns-in-W64
unfolding opcode16
returns-in-W64 c = rw c.in-W64.is

pub returns-in-137 : goal.returns-in-137
returns-in-137 c =
    let args = c.args in
    rw c.in-137.is (store16 _ _ _ _ args.code.now args.at _ c.in-W32.is c.store_at.ensures)

pub returns-in-193 : goal.returns-in-193
returns-in-193 c =
    let args = c.args in
    rw c.in-193.is (rotate16 _ _ _ _ args.code.now args.at _ c.in-W32.is c.rotate_at.ensures)

pub returns-in-199 : goal.returns-in-199
returns-in-199 c =
    let args = c.args in
    rw c.in-199.is (store_two _ _ _ _ args.code.now args.at _ c.in-W32.is c.store_two_at.ensures)

pub returns-in_default : goal.returns-in_default
unfolding opcode16
returns-in_default c =
    rw (
      c.in-W32.is,
      eqb-false _ _ c.in_default.in_default-own.rest.0.0.1,
      eqb-false _ _ c.in_default.in_default-own.rest.0.1,
      eqb-false _ _ c.in_default.in_default-own.rest.1,
    )
