use Rattle.jit_lengths.proofs.LengthsLaws.{reg-size}
use Rattle.std.proofs.Common.{arith}
use Rattle.jit_lengths.proofs.slot.operation_length.Goals as goal

pub returns-in-Reg : goal.returns-in-Reg
returns-in-Reg c =
    let args = c.args in
    let guard-length = c.guard_length-guarded in
    let computed-length = c.computed_length-in-Reg in
    let map-register = c.map_register-dst.ensures in
    rw c.in-Reg.is (
      λ slot below. reg-size args.mode args.op args.width slot args.i guard-length.result computed-length.result
          (rw (map-register.0, c.map_register.ensures.0) at (guard-length.ensures.0 slot below))
          (rw map-register.0 at computed-length.ensures.0),
      omega (arith, guard-length.ensures.1, computed-length.ensures.1),
    )
