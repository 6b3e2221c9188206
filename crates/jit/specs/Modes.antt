-- The modes: with both flags off the code is the Rust's. With `standard` the slots that are named here have code of their own (Slots.antt); every
-- other slot keeps its instructions, and so does the frame, which knows of no mode (Frame.antt). `Modes` says it, and proofs/ModesLaws.antt
-- proves it. What `compact` changes is in Compact.antt.
use Rattle.std.specs.Prelude.{◌≡◌, Bool, true, false, List, ℕ, ◌+◌, ◌*◌, ◌≤◌, length}
use Rattle.base.specs.declared.Width.TheVariants.{W32, W64}
use Rattle.ebpf.specs.Insn.{insn_at}
use Rattle.ebpf.specs.Opcode.{kind_of}
use Rattle.ebpf.specs.declared.insn.Insn.{Insn}
use Rattle.ebpf.specs.declared.kind.Source.TheVariants.{Imm, Reg}
use Rattle.ebpf.specs.declared.kind.Kind.{Kind}
use Rattle.ebpf.specs.declared.kind.Kind.TheVariants.{LdAbs, LdInd, LdDwImm, LdReg, StImm, StReg, Alu, Shift, Neg, MulDivMod, Mov, Le, Be, Ja, Jump, Call, Exit}
use Rattle.ebpf.specs.declared.kind.Lookup.{Lookup}
use Rattle.ebpf.specs.declared.kind.Lookup.TheVariants.{Known, Unimplemented, Unknown}
use Rattle.jit.specs.declared.Mode.{Mode}
use Rattle.jit.specs.Slots.{leaves_dst, slot_code}
use Rattle.jit.specs.Translation.{Filter, Inputs, translation_of}

abbrev pub rust : Mode
rust = record { standard = false; compact = false }

abbrev pub standard : Mode
standard = record { standard = true; compact = false }

abbrev pub compact : Mode
compact = record { standard = false; compact = true }

abbrev pub standard_off : Mode → Mode
standard_off m = record { standard = false; compact = m.compact }

-- MOD32 by a register or by the immediate 0, MOV32_REG, LE
abbrev pub named : Kind → Insn → Bool
named (LdAbs z) i = false
named (LdInd z) i = false
named LdDwImm i = false
named (LdReg z) i = false
named (StImm z) i = false
named (StReg z) i = false
named (Alu o w s) i = false
named (Shift o w s) i = false
named (Neg w) i = false
named (MulDivMod o w s) i = leaves_dst o w s i.imm
named (Mov w Imm) i = false
named (Mov W64 Reg) i = false
named (Mov W32 Reg) i = true
named Le i = true
named Be i = false
named Ja i = false
named (Jump c w s) i = false
named Call i = false
named Exit i = false

-- whether a slot of a program is one of these
abbrev pub named_as : Lookup → Insn → Bool
named_as Unknown i = false
named_as Unimplemented i = false
named_as (Known k) i = named k i

abbrev pub named_at : (program : List ℕ) → (slot : ℕ) → Bool
named_at program slot = named_as (kind_of (insn_at program slot).opc) (insn_at program slot)

-- what is asked, in another mode
abbrev pub in_mode : (Mode → Mode) → Filter → Filter
in_mode f filter = record { program = filter.program; mode = f filter.mode; ids = filter.ids; addresses = filter.addresses }

abbrev pub asked_in : (Mode → Mode) → Inputs → Inputs
asked_in f x =
    record {
      filter = in_mode f x.filter;
      flags = x.flags;
      page = x.page;
      locations = x.locations;
      fields = x.fields;
      targets = x.targets;
      kinds = x.kinds;
      makers = x.makers;
    }

pub record Modes : Type 0 where
  -- a slot that is not named has the same instructions with `standard` on and off
  pub slots : (m : Mode) (k : Kind) (i : Insn) → named k i ≡ false
      → (slot value : ℕ) → slot_code m k slot i value ≡ slot_code (standard_off m) k slot i value
  -- .. and a program that has no named slot has the same answer: its code and tables, or its refusal
  pub programs : (x : Inputs) → ((slot : ℕ) → 8 * slot + 8 ≤ length x.filter.program → named_at x.filter.program slot ≡ false)
      → translation_of x ≡ translation_of (asked_in standard_off x)
