use Rattle.std.proofs.Common.{ℕ, List, ◌∷◌, refl, ap, lit<}
use Rattle.x86_emit.proofs.InstructionWords.{rexed, opcode1}
use Rattle.x86_emit.proofs.WroteLaws.{same, then}
use Rattle.x86_emit.proofs.memory.emit_store.Goals as goal

pub returns-in-S16 : goal.returns-in-S16
returns-in-S16 c =
    let operand = c.modrm_and_displacement-m in
    let emit-bytes = c.emit_bytes-next in
    rw c.in-S16.is (same (then emit-bytes.ensures c.emit_rexed.ensures)
    (ap (λ (l : List ℕ). 0x66 ∷ l) (rexed _ _ refl (opcode1 0x89 (lit< tt) operand.ensures))))
