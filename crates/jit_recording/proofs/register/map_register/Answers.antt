use Rattle.std.proofs.Common.{arith}
use Rattle.jit_recording.proofs.RegisterMap.{register}
use Rattle.jit_recording.proofs.register.map_register.Goals as goal

pub returns-in-0 : goal.returns-in-0
returns-in-0 c = (register _ 0 c.requires c.in-0.is, omega arith)

pub returns-in-1 : goal.returns-in-1
returns-in-1 c = (register _ 1 c.requires c.in-1.is, omega arith)

pub returns-in-2 : goal.returns-in-2
returns-in-2 c = (register _ 2 c.requires c.in-2.is, omega arith)

pub returns-in-3 : goal.returns-in-3
returns-in-3 c = (register _ 3 c.requires c.in-3.is, omega arith)

pub returns-in-4 : goal.returns-in-4
returns-in-4 c = (register _ 4 c.requires c.in-4.is, omega arith)

pub returns-in-5 : goal.returns-in-5
returns-in-5 c = (register _ 5 c.requires c.in-5.is, omega arith)

pub returns-in-6 : goal.returns-in-6
returns-in-6 c = (register _ 6 c.requires c.in-6.is, omega arith)

pub returns-in-7 : goal.returns-in-7
returns-in-7 c = (register _ 7 c.requires c.in-7.is, omega arith)

pub returns-in-8 : goal.returns-in-8
returns-in-8 c = (register _ 8 c.requires c.in-8.is, omega arith)

pub returns-in-9 : goal.returns-in-9
returns-in-9 c = (register _ 9 c.requires c.in-9.is, omega arith)

pub returns-in-10 : goal.returns-in-10
returns-in-10 c = (register _ 10 c.requires c.in-10.is, omega arith)
