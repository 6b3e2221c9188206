use Prim.Native.Nat.{◌-◌}
use Rattle.jit_mapping.proofs.WalkedLaws.{Sizing}
use Rattle.jit_mapping.proofs.measure.text_length.Given as goal

abbrev pub invariant-loop-slot : goal.invariant-loop-slot
invariant-loop-slot l =
    Sizing (record { program = l.prog; mode = l.mode; ids = l.ids; addresses = l.addresses }) l.page l.initial.at.offset l.base l.slot.number l.at.offset l.length

abbrev pub decreases-loop-slot : goal.decreases-loop-slot
decreases-loop-slot l = l.n - l.slot.number
