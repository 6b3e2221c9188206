-- The two halves of writing (Halves.antt), of the parameters by their names (base/specs/Lent.antt).
use Rattle.std.specs.Prelude.{ℕ}
use Rattle.base.specs.Lent.{Slice, MutSlice, Lent, MutLent}
use Rattle.base.specs.declared.Slot.{Slot}
use Rattle.base.specs.declared.Position.{Position}
use Rattle.jit.specs.Translation.{Inputs, slots_of, walk_of}
use Rattle.jit.specs.declared.Flags.{Flags}
use Rattle.jit.specs.declared.Mode.{Mode}
use Rattle.jit_recording.specs.Lent.{MutTables, TablesLent, SameBorrows, tables}
use Rattle.jit_translate.specs.Lent.{inputs}
use Rattle.jit_translate.specs.Halves as H

-- what is asked (Lent.antt), where the jump tables are lent as one struct
abbrev pub inputs_by : Slice → Flags → Mode → (ids addresses : Slice) (code locations : MutSlice) (jumps : MutTables) → Inputs
inputs_by prog flags mode ids addresses code locations jumps =
    inputs prog flags mode ids addresses code locations jumps.now.fields jumps.now.targets jumps.now.kinds jumps.now.makers

abbrev pub asked_by : Lent → Flags → Mode → (ids addresses : Lent) (code locations : MutLent) (jumps : TablesLent) → Inputs
asked_by prog flags mode ids addresses code locations jumps =
    inputs_by prog.entry flags mode ids.entry addresses.entry code.entry locations.entry jumps.entry

-- the first half of writing what is asked
abbrev pub Begun : Inputs → (code locations : MutLent) (jumps : TablesLent) → Position → Type 0
Begun x code locations jumps r =
    H.Begun (walk_of x) x.flags (slots_of x.filter.program)
    code.entry.now code.exit.now locations.entry.now locations.exit.now
    (tables jumps.entry.now) (tables jumps.exit.now) r.offset jumps.exit.now.count
    × SameBorrows jumps.entry.now jumps.exit.now

-- the second half: it asks for room, and writes the epilogue at `end`, location n and the fields
abbrev pub Closing : (code locations : MutSlice) (fields targets : Slice) → Slot → Position → (jumps : ℕ) → Type 0
Closing code locations fields targets n end jumps =
    H.Closing n.number end.offset jumps code.now locations.now fields.now targets.now

abbrev pub Ended : (code locations : MutLent) (fields targets : Lent) → Slot → Position → (jumps : ℕ) → Type 0
Ended code locations fields targets n end jumps =
    H.Ended n.number end.offset jumps
    code.entry.now code.exit.now locations.entry.now locations.exit.now fields.entry.now targets.entry.now
