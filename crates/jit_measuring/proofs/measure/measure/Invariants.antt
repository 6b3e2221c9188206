use Prim.Native.Nat.{◌-◌}
use Rattle.jit_measuring.proofs.Measuring.{Measuring}
use Rattle.jit_measuring.proofs.measure.measure.Given as goal

abbrev pub invariant-loop-slot : goal.invariant-loop-slot
invariant-loop-slot l =
    Measuring (record { program = l.prog; mode = l.mode; ids = l.ids; addresses = l.addresses }) l.page l.initial.at.offset l.n l.slot.number l.at.offset l.bad

abbrev pub decreases-loop-slot : goal.decreases-loop-slot
decreases-loop-slot l = l.n - l.slot.number
