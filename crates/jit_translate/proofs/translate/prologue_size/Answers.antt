use Rattle.jit.proofs.FrameLaws.{prologue-size}
use native.Mathlib.Omega.{arith}
use Rattle.jit_translate.proofs.translate.prologue_size.Goals as goal

pub returns-then-flags-2 : goal.returns-then-flags-2
returns-then-flags-2 c = (rw (prologue-size c.args.flags, c.if-flags.true, c.if-flags-2.true), omega arith)

pub returns-then-flags : goal.returns-then-flags
returns-then-flags c = (rw (prologue-size c.args.flags, c.if-flags.true, c.if-flags-2.false), omega arith)

pub returns : goal.returns
returns c = (rw (prologue-size c.args.flags, c.if-flags.false), omega arith)
