use Prim.Native.Nat.{◌+◌}
use Rattle.jit.specs.Room.{epilogue_size}
use Rattle.jit_mapping.specs.Rows.{closed_table}
use Rattle.jit_mapping.specs.Passes.{Counted}
use Rattle.jit_mapping.proofs.RowsLaws.{Rowing}
use Rattle.jit_mapping.proofs.write.write_map.Given as goal

abbrev pub invariant-loop-k : goal.invariant-loop-k
invariant-loop-k l =
    Counted l.base l.begun
    × Rowing l.n l.base (l.exit + epilogue_size) (closed_table l.n l.exit l.locations) l.initial.text l.text l.begun.piece l.begun.from l.begun.next l.k
