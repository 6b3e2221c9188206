use Rattle.std.proofs.Common.{ℕ, List, ◌∷◌, refl, ap, lit<, rules}
use Rattle.x86_emit.proofs.InstructionWords.{rexed, coded-byte}
use Rattle.x86_emit.proofs.WroteLaws.{same, then}
use Rattle.x86_emit.proofs.alu.emit_rol16.Goals as goal

pub returns : goal.returns
returns c =
    let emit-bytes = c.emit_bytes-next in
    let modrm = c.modrm in
    same (then emit-bytes.ensures c.emit_rexed.ensures)
    (ap (λ (l : List ℕ). 0x66 ∷ l)
    (rexed _ _ refl (coded-byte 0xc1 modrm.result c.args.imm modrm.ensures.0 (lit< tt) (search rules) (search rules))))
