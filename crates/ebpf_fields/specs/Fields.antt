-- The fields of a slot, all 0 where its bytes are not there.
use Rattle.std.specs.Prelude.{List, ℕ, Option, Some, None}
use Rattle.ebpf.specs.Insn.{read_at}
use Rattle.ebpf.specs.declared.insn.Insn.{Insn}

abbrev pub fields_of : Option Insn → Insn
fields_of (Some i) = i
fields_of None = record { opc = 0; dst = 0; src = 0; off = 0; imm = 0 }

unfoldable pub fields_at : List ℕ → ℕ → Insn
fields_at prog slot = fields_of (read_at prog slot)
