-- A slot that is read, and what it takes from elsewhere, of the parameters by their names (base/specs/Lent.antt).
use Rattle.std.specs.Prelude.{ℕ, ◌+◌, Option}
use Rattle.base.specs.Lent.{Slice, Lent}
use Rattle.base.specs.declared.Slot.{Slot}
use Rattle.ebpf.specs.Insn as ebpf
use Rattle.ebpf.specs.declared.insn.Insn.{Insn}
use Rattle.jit.specs.Translation as jit
use Rattle.jit_walk.specs.Numbered as N

-- a slot's fields, in a `requires` and in an `ensures`
abbrev pub insn_in : (prog : Slice) → Slot → Insn
insn_in prog slot = ebpf.insn_at prog.now slot.number

abbrev pub insn_of : (prog : Lent) → Slot → Insn
insn_of prog slot = insn_in prog.entry slot

abbrev pub SlotRead : (prog : Slice) → Slot → (opc number : ℕ) → Type 0
SlotRead prog slot opc number = N.SlotRead prog.now slot.number opc number

abbrev pub helper_of : (ids addresses : Lent) → (id : ℕ) → Option ℕ
helper_of ids addresses id = jit.helper_of ids.entry.now addresses.entry.now id

abbrev pub call_value : (ids addresses : Lent) → Slot → Insn → jit.Operand
call_value ids addresses slot i = jit.call_value ids.entry.now addresses.entry.now slot.number i

-- what reading the next slot gives
abbrev pub read_behind : (prog : Lent) → Slot → Option Insn
read_behind prog slot = ebpf.read_at prog.entry.now (slot.number + 1)
