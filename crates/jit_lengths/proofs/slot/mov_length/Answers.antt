use Rattle.jit_lengths.proofs.LengthsLaws.{mov-whole}
use Rattle.std.proofs.Common.{sym, ◌∙◌, arith}
use Rattle.jit_lengths.proofs.slot.mov_length.Goals as goal

pub returns-in-W64-copy_width : goal.returns-in-W64-copy_width
returns-in-W64-copy_width c =
    let args = c.args in
    let whole = sym c.copy_width.ensures ∙ c.in-W64-copy_width.is in
    rw c.in-Reg.is (mov-whole args.mode args.width args.i whole, omega arith)
