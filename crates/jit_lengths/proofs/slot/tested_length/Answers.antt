use Rattle.jit_lengths.proofs.LengthsLaws.{tested_low, tested-as-ever}
use Rattle.std.proofs.Common.{arith}
use Rattle.jit_lengths.proofs.slot.tested_length.Goals as goal

pub returns-then-mode : goal.returns-then-mode
returns-then-mode c =
    let args = c.args in
    let test = c.rexed_length-test.ensures in
    (λ slot below. tested_low args.mode slot args.width args.src c.if-mode.true below test.0, omega (arith, test.1))

pub returns-else-mode : goal.returns-else-mode
returns-else-mode c =
    let args = c.args in
    let test = c.rexed_length-test.ensures in
    (λ slot below. tested-as-ever args.mode slot args.width args.src c.if-mode.false test.0, omega (arith, test.1))
