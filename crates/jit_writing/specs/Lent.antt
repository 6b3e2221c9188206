-- What the writing pass asks and promises (Writes.antt), of the parameters by their names (base/specs/Lent.antt).
use Rattle.std.specs.Prelude.{List, ℕ}
use Rattle.base.specs.Lent.{MutSlice, Lent, MutLent}
use Rattle.base.specs.declared.Position.{Position}
use Rattle.base.specs.declared.Slot.{Slot}
use Rattle.ebpf.specs.Insn.{insn_at}
use Rattle.ebpf.specs.Opcode.{kind_of}
use Rattle.ebpf.specs.declared.insn.Insn.{Insn}
use Rattle.jit.specs.declared.Mode.{Mode}
use Rattle.jit.specs.Passes.{walked}
use Rattle.jit.specs.MulDivMod.{Code}
use Rattle.jit.specs.Translation.{Filter, slots_of}
use Rattle.jit_recording.specs.Emits as E
use Rattle.jit_recording.specs.Lent.{MutTables, TablesLent, SameBorrows, tables}
use Rattle.jit_walk.specs.Numbered as N
use Rattle.jit_writing.specs.Writes as W

-- the code of one of the filter's slots
abbrev pub code_at : Filter → Slot → Code
code_at filter slot = N.code_at filter slot.number (insn_at filter.program slot.number)

-- .. of a kind that takes nothing from elsewhere and lists no jump
abbrev pub plain_code : Mode → Insn → Code
plain_code mode i = N.plain_code mode (kind_of i.opc) i

-- the entries ys stand in `locations` from that slot's on, and r is the slot behind them
abbrev pub Put : (locations : MutLent) → (slot r : Slot) → List ℕ → Type 0
Put locations slot r ys = E.Put locations.entry.now locations.exit.now slot.number r.number ys

-- the filter is accepted, and there is room for its slots' code from `start` on, for an entry of each, and for its jumps
abbrev pub Fitting : Filter → (page : ℕ) → (start : Position) → (code locations : MutSlice) → (jumps : MutTables) → Type 0
Fitting filter page start code locations jumps =
    W.Fitting
    (walked filter page start) page start.offset
    code.now locations.now (tables jumps.now) (slots_of filter.program)

-- .. and these are written, up to r
abbrev pub Writes : Filter → (page : ℕ) → (start : Position) → (code locations : MutLent) → (jumps : TablesLent) → (r : Position) → Type 0
Writes filter page start code locations jumps r =
    W.Writes
    (walked filter page start) start.offset
    code.entry.now code.exit.now locations.entry.now locations.exit.now
    (tables jumps.entry.now) (tables jumps.exit.now)
    r.offset jumps.exit.now.count
    × SameBorrows jumps.entry.now jumps.exit.now
