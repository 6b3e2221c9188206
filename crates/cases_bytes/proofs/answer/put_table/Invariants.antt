use lib.ListN.{length, take}
use mathlib.Core.Path.{◌≡◌}
use Rattle.cases_bytes.specs.Answers.{entries}
use lib.Seq.{sets}
use Prim.Native.Nat.{◌-◌, ◌≤◌}
use Rattle.cases_bytes.proofs.answer.put_table.Given as goal

abbrev pub invariant-loop-i : goal.invariant-loop-i
invariant-loop-i l =
    (length l.out ≡ length l.initial.out) × (l.i ≤ length l.table) × (l.out ≡ sets l.initial.out l.at (entries (take l.i l.table)))
