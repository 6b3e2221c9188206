-- What both passes promise, of the parameters by their names (base/specs/Lent.antt).
use Rattle.std.specs.Prelude.{◌≡◌, ℕ, ◌<◌, ◌^◌, Result}
use Rattle.base.specs.Lent.{Slice, Lent}
use Rattle.base.specs.declared.Position.{Position}
use Rattle.base.specs.declared.Slot.{Slot}
use Rattle.ebpf.specs.declared.insn.Insn.{Insn}
use Rattle.ebpf.specs.declared.kind.Kind.{Kind}
use Rattle.jit.specs.declared.Mode.{Mode}
use Rattle.jit.specs.declared.Refusal.{Refusal}
use Rattle.jit.specs.Passes.{walked}
use Rattle.jit.specs.Translation.{Filter, Operand, slots_of, taken, step_at}
use Rattle.jit_measuring.specs.declared.fits.Fit.{Fit}
use Rattle.jit_measuring.specs.declared.fits.Glance.{Glance}
use Rattle.jit_measuring.specs.declared.measure.Look.{Look}
use Rattle.jit_measuring.specs.declared.measure.Measured.{Measured}
use Rattle.jit_measuring.specs.Fits as F
use Rattle.jit_measuring.specs.Looks as L
use Rattle.jit_measuring.specs.Measures as M

-- one of the program's n slots
abbrev pub Inside : (prog : Slice) → (n : ℕ) → Slot → Type 0
Inside prog n slot = (n ≡ slots_of prog.now) × ((slot.number < n) × (n < 2 ^ 16))

-- the quick check
abbrev pub call_seen : (ids addresses : Lent) → (n : ℕ) → Slot → (src imm : ℕ) → Result Glance Refusal
call_seen ids addresses n slot src imm = F.call_seen ids.entry.now addresses.entry.now n slot.number src imm

abbrev pub Sees : Filter → (n : ℕ) → Slot → Result Glance Refusal → Type 0
Sees filter n slot r = F.Sees n slot.number (step_at filter slot.number) r

abbrev pub Settles : Filter → (page : ℕ) → (start : Position) → Result Fit Refusal → Type 0
Settles filter page start r = F.Settles (slots_of filter.program) page start.offset (walked filter page start) r

-- the measuring pass: a slot of a kind with what it takes from elsewhere, any slot of the filter, and all of them
abbrev pub Takes : Mode → (n : ℕ) → Kind → Slot → Insn → Operand → Result Look Refusal → Type 0
Takes m n k slot i o r = L.Finds n slot.number (taken m k slot.number i o) r × L.Short r

-- .. in every mode
abbrev pub AlwaysTakes : (n : ℕ) → Kind → Slot → Insn → Operand → Result Look Refusal → Type 0
AlwaysTakes n k slot i o r = (m : Mode) → Takes m n k slot i o r

abbrev pub Looks : Filter → (n : ℕ) → Slot → Result Look Refusal → Type 0
Looks filter n slot r = L.Finds n slot.number (step_at filter slot.number) r × L.Short r

abbrev pub Answers : Filter → (page : ℕ) → (start : Position) → Result Measured Refusal → Type 0
Answers filter page start r = M.Answers (slots_of filter.program) page start.offset (walked filter page start) r
