use Rattle.std.proofs.Common.{true, false, arith}
use Rattle.jit_lengths.proofs.LengthsLaws.{kept-rax, kept-rdx, kept-other}
use Rattle.jit_lengths.proofs.slot.kept_length.Goals as goal

pub returns-then-from_rax : goal.returns-then-from_rax
returns-then-from_rax c = rw c.if-from_rax.true (kept-rax true c.args.dst c.if-dst-eq-RAX.true, omega arith)

pub returns-else-from_rax : goal.returns-else-from_rax
returns-else-from_rax c = rw c.if-from_rax.false (kept-rax false c.args.dst c.if-dst-eq-RAX.true, omega arith)

pub returns-then-from_rax-2 : goal.returns-then-from_rax-2
returns-then-from_rax-2 c = rw c.if-from_rax-2.true (kept-rdx true c.args.dst c.if-dst-eq-RDX.true, omega arith)

pub returns-else-from_rax-2 : goal.returns-else-from_rax-2
returns-else-from_rax-2 c = rw c.if-from_rax-2.false (kept-rdx false c.args.dst c.if-dst-eq-RDX.true, omega arith)

pub returns-else-dst-eq-RDX : goal.returns-else-dst-eq-RDX
returns-else-dst-eq-RDX c = (kept-other c.args.from_rax c.args.dst c.if-dst-eq-RAX.false c.if-dst-eq-RDX.false, omega arith)
