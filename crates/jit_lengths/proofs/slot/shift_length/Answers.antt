use Rattle.jit_lengths.proofs.LengthsLaws.{shift-reg}
use Rattle.std.proofs.Common.{arith}
use Rattle.jit_lengths.proofs.slot.shift_length.Goals as goal

pub returns-in-Reg : goal.returns-in-Reg
returns-in-Reg c =
    let args = c.args in
    rw c.in-Reg.is (
      λ o. shift-reg o args.width args.i (rw c.map_register-dst.ensures.0 at c.rexed_length-in-Reg.ensures.0),
      omega (arith, c.rexed_length-in-Reg.ensures.1),
    )
