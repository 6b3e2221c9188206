-- What a slot takes from elsewhere: what the code answers against what the definition says.
use Rattle.std.specs.Prelude.{ℕ, ◌+◌, Result, Ok, Err}
use Rattle.ebpf.specs.Insn.{read_at}
use Rattle.ebpf.specs.declared.insn.Insn.{Insn}
use Rattle.ebpf.specs.declared.kind.Kind.{Kind}
use Rattle.jit.specs.Translation.{Filter, Operand, lacks, has, operand_of}
use Rattle.jit.specs.declared.Refusal.{Refusal}

-- the answer as the definition has it
abbrev pub operand_is : Result ℕ Refusal → Operand
operand_is (Err r) = lacks r
operand_is (Ok v) = has v

-- what a slot of the filter takes: from the helpers' addresses, or from the slot behind it
abbrev pub operand_in : (filter : Filter) → Kind → (slot : ℕ) → Insn → Operand
operand_in filter k slot i = operand_of filter k slot i (read_at filter.program (slot + 1))
