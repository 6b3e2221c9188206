use Rattle.std.proofs.Common.{ℕ, ◌+◌, ◌%◌, List, ◌++◌, ap, ◌∙◌, append_assoc, arith, rules}
use Rattle.x86.specs.Encode.{rex}
use Rattle.base.specs.Bytes.{bytes_of, le64}
use Rattle.x86.proofs.Lengths.{behind}
use Rattle.x86_emit.proofs.InstructionWords.{byte}
use Rattle.x86_emit.proofs.WroteLaws.{same, then}
use Rattle.x86_emit.proofs.alu.emit_movabs.Goals as goal

pub emit_bytes-requires : goal.emit_bytes-requires
emit_bytes-requires c = (
  omega (arith, c.emit_rexed-next.ensures.next, behind 1 0 c.args.dst (bytes_of 1 (0xb8 + c.args.dst % 8))),
  search rules,
)

pub returns : goal.returns
returns c =
    let emit-rexed = c.emit_rexed-next in
    let d = c.args.dst in
    same (then emit-rexed.ensures c.emit_bytes.ensures)
    (append_assoc (rex 1 0 d) (bytes_of 1 (0xb8 + d % 8)) (le64 c.args.imm)
    ∙ ap (λ (l : List ℕ). rex 1 0 d ++ (l ++ le64 c.args.imm)) (byte (0xb8 + d % 8) (omega arith)))
