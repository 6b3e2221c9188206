use Rattle.std.proofs.Common.{◌≡◌, ◌+◌, ◌*◌, get_or, arith, rules}
use Rattle.replay_step.proofs.NumberLaws.{off-extended}
use Rattle.ebpf.specs.Insn.{insn_at}
use Rattle.replay_step.proofs.fetch.off_of.Goals as goal

pub returns : goal.returns
unfolding insn_at
returns c =
    let prog = c.args.prog.now in
    let slot = c.args.slot in
    let e : 8 * slot + 2 + 1 ≡ 8 * slot + 3 = omega arith in
    let off : c.from.result ≡ get_or prog (8 * slot + 2) 0 + 256 * get_or prog (8 * slot + 3) 0 = omega (arith, c.from.ensures, c.from_le_bytes-off.ensures) in
    rw (e, ← off) (off-extended c.from.result _ (search rules) (omega arith) (omega arith))
