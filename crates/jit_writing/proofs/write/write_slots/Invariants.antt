use Prim.Native.Nat.{◌*◌, ◌-◌}
use lib.ListN.{length}
use native.Mathlib.Omega.{arith}
use borrow.Author.Rules.{rules}
use Rattle.jit.proofs.Bounds.{wide-some}
use Rattle.jit_walk.specs.Numbered.{is_wide}
use Rattle.jit_recording.specs.Lent.{SameBorrows, tables}
use Rattle.jit_writing.proofs.Writing.{Writing, writing_begins, next-slot, next-inside, next-room, writing-next, writing-ends}
use Rattle.jit_writing.proofs.write.write_slots.Given as goal

abbrev pub invariant-loop-next : goal.invariant-loop-next
invariant-loop-next l =
    Writing
    (record { program = l.prog; mode = l.mode; ids = l.ids; addresses = l.addresses }) l.page l.initial.at.offset
    l.initial.code l.code l.initial.locations l.locations
    (tables l.initial.jumps) (tables l.jumps)
    l.next.number l.at.offset l.jumps.count
    × SameBorrows l.initial.jumps l.jumps

abbrev pub decreases-loop-next : goal.decreases-loop-next
decreases-loop-next l = length l.prog - l.next.number
