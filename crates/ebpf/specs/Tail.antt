-- What is behind the last whole slot of a program.
use Rattle.std.specs.Prelude.{ℕ, ◌%◌, List, length, ◌==◌}
use Rattle.base.specs.Pick.{pick}
use Rattle.ebpf.specs.declared.insn.Tail.{Tail}
use Rattle.ebpf.specs.declared.insn.Tail.TheVariants.{Nothing, Torn}

abbrev pub tail_of : List ℕ → Tail
tail_of prog = pick (length prog % 8 == 0) Nothing Torn
