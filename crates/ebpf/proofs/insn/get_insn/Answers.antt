use Rattle.ebpf.specs.Insn.{read_at}
use Rattle.std.proofs.Common.{◌+◌, ◌*◌, ◌<◌, ◌≤◌, length, arith, le-ltb, lt-ltb}
use Rattle.ebpf.proofs.insn.get_insn.Goals as goal

pub returns-then-prog-slot : goal.returns-then-prog-slot
unfolding read_at
returns-then-prog-slot c =
    let given = c.args in
    let h : length given.prog.now < 8 * given.slot.number + 8 = omega (arith, c.if-prog-slot.true) in
    rw (lt-ltb _ _ h)

pub returns : goal.returns
unfolding read_at
returns c =
    let given = c.args in
    let h : 8 * given.slot.number + 8 ≤ length given.prog.now = omega (arith, c.if-prog-slot.false) in
    rw (le-ltb _ _ h, c.insn_at.ensures)
