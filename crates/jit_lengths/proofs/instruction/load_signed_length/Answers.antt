use Rattle.jit_lengths.proofs.LengthsLaws.{load-negative}
use Rattle.std.proofs.Common.{sym, ◌∙◌, arith}
use Rattle.jit_lengths.proofs.instruction.load_signed_length.Goals as goal

pub returns-else-is_low_imm : goal.returns-else-is_low_imm
returns-else-is_low_imm c =
    let args = c.args in
    let high = sym c.is_low_imm.ensures ∙ c.if-is_low_imm.false in
    (load-negative args.mode args.dst args.imm high, omega arith)
