use Rattle.std.proofs.Common.{ℕ, ◌+◌, ◌*◌, List, ◌∷◌, ap, arith, lit<, rules}
use Rattle.x86_emit.proofs.InstructionWords.{rexed-most, opcode-imm}
use Rattle.x86_emit.proofs.WroteLaws.{same, then}
use Rattle.x86_emit.proofs.memory.emit_store_imm32.Goals as goal

pub emit_bytes-requires : goal.emit_bytes-requires
emit_bytes-requires c =
    let operand = c.modrm_and_displacement-m in (
      omega (
        arith,
        c.emit_rexed-next.ensures.next,
        rexed-most 0 0 c.args.base (operand.result.size + 1)
            (0xc6 + 256 * operand.result.word),
        operand.ensures.short,
      ),
      search rules,
    )

pub emit_bytes-requires-in-S16 : goal.emit_bytes-requires-in-S16
emit_bytes-requires-in-S16 c =
    let operand = c.modrm_and_displacement-m in
    let emit-bytes2 = c.emit_bytes-rex in (
      omega (
        arith,
        emit-bytes2.ensures.next,
        c.emit_rexed-next-in-S16.ensures.next,
        rexed-most 0 0 c.args.base
            (operand.result.size + 1) (0xc7 + 256 * operand.result.word),
        operand.ensures.short,
      ),
      search rules,
    )

pub emit_bytes-requires-in-S32 : goal.emit_bytes-requires-in-S32
emit_bytes-requires-in-S32 c =
    let operand = c.modrm_and_displacement-m in (
      omega (
        arith,
        c.emit_rexed-next-in-S32.ensures.next,
        rexed-most 0 0 c.args.base (operand.result.size + 1)
            (0xc7 + 256 * operand.result.word),
        operand.ensures.short,
      ),
      search rules,
    )

pub emit_bytes-requires-in-S64 : goal.emit_bytes-requires-in-S64
emit_bytes-requires-in-S64 c =
    let operand = c.modrm_and_displacement-m in (
      omega (
        arith,
        c.emit_rexed-next-in-S64.ensures.next,
        rexed-most 1 0 c.args.base (operand.result.size + 1)
            (0xc7 + 256 * operand.result.word),
        operand.ensures.short,
      ),
      search rules,
    )

pub returns-in-S8 : goal.returns-in-S8
returns-in-S8 c =
    let operand = c.modrm_and_displacement-m in
    let emit-rexed = c.emit_rexed-next in
    rw c.in-S8.is
    (same (then emit-rexed.ensures c.emit_bytes.ensures) (opcode-imm 0 0xc6 _ (lit< tt) operand.ensures))

pub returns-in-S16 : goal.returns-in-S16
returns-in-S16 c =
    let operand = c.modrm_and_displacement-m in
    let emit-bytes2 = c.emit_bytes-rex in
    let emit-rexed2 = c.emit_rexed-next-in-S16 in
    rw c.in-S16.is (same (then emit-bytes2.ensures (then emit-rexed2.ensures c.emit_bytes-in-S16.ensures))
    (ap (λ (l : List ℕ). 0x66 ∷ l) (opcode-imm 0 0xc7 _ (lit< tt) operand.ensures)))

pub returns-in-S32 : goal.returns-in-S32
returns-in-S32 c =
    let operand = c.modrm_and_displacement-m in
    let emit-rexed3 = c.emit_rexed-next-in-S32 in
    rw c.in-S32.is
    (same (then emit-rexed3.ensures c.emit_bytes-in-S32.ensures) (opcode-imm 0 0xc7 _ (lit< tt) operand.ensures))

pub returns-in-S64 : goal.returns-in-S64
returns-in-S64 c =
    let operand = c.modrm_and_displacement-m in
    let emit-rexed4 = c.emit_rexed-next-in-S64 in
    rw c.in-S64.is
    (same (then emit-rexed4.ensures c.emit_bytes-in-S64.ensures) (opcode-imm 1 0xc7 _ (lit< tt) operand.ensures))
