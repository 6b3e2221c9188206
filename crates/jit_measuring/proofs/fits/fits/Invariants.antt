use Prim.Native.Nat.{◌-◌}
use Rattle.jit_measuring.proofs.Glancing.{Glancing}
use Rattle.jit_measuring.proofs.fits.fits.Given as goal

abbrev pub invariant-loop-slot : goal.invariant-loop-slot
invariant-loop-slot l =
    Glancing (record { program = l.prog; mode = l.mode; ids = l.ids; addresses = l.addresses }) l.page l.from l.n l.slot.number l.spare

abbrev pub decreases-loop-slot : goal.decreases-loop-slot
decreases-loop-slot l = l.n - l.slot.number
