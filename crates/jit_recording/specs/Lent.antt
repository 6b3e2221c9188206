-- `Emits`, `Room`, `Recordable` and `Recorded` (Emits.antt) of the parameters by their names (base/specs/Lent.antt): the page, the place
-- before and behind, and the jump tables, which are lent as one struct of four borrows.
use Rattle.std.specs.Prelude.{◌≡◌, ℕ}
use Rattle.std.specs.Borrow.{MutBor}
use denote.Triple.Both.{Both}
use Rattle.base.specs.Lent.{MutSlice, MutLent}
use Rattle.base.specs.declared.Position.{Position}
use Rattle.base.specs.declared.Slot.{Slot}
use Rattle.jit.specs.MulDivMod.{Code}
use Rattle.jit_recording.specs.declared.emission.JumpTables.{JumpTables}
use Rattle.jit_recording.specs.Emits as E

-- in a `requires`, and in an `ensures`
abbrev pub MutTables : Type 0
MutTables = MutBor JumpTables

abbrev pub TablesLent : Type 0
TablesLent = Both MutTables MutTables

-- what stands in the tables at one moment
abbrev pub tables : JumpTables → E.Tables
tables j = record { fields = j.fields.now; targets = j.targets.now; kinds = j.kinds.now; makers = j.makers.now }

-- The struct holds the borrows that it held: without this a caller would not know that what it lent is what was written.
pub record SameBorrows (before behind : JumpTables) : Type 0 where
  pub fields : behind.fields.ghost_name ≡ before.fields.ghost_name
  pub targets : behind.targets.ghost_name ≡ before.targets.ghost_name
  pub kinds : behind.kinds.ghost_name ≡ before.kinds.ghost_name
  pub makers : behind.makers.ghost_name ≡ before.makers.ghost_name

-- where a page begins
abbrev pub first : Position
first = record { offset = 0 }

abbrev pub Emits : (code : MutLent) → (at r : Position) → (jumps : TablesLent) → (maker : Slot) → Code → Type 0
Emits code at r jumps maker is =
    E.Emits
    code.entry.now code.exit.now (tables jumps.entry.now) (tables jumps.exit.now)
    at.offset jumps.entry.now.count r.offset jumps.exit.now.count maker.number is
    × SameBorrows jumps.entry.now jumps.exit.now

abbrev pub Room : (code : MutSlice) → Position → (jumps : MutTables) → Code → Type 0
Room code at jumps is = E.Room code.now (tables jumps.now) at.offset jumps.now.count is

abbrev pub Recordable : (jumps : MutTables) → (at : Position) → (maker : Slot) → Type 0
Recordable jumps at maker = E.Recordable (tables jumps.now) at.offset jumps.now.count maker.number

abbrev pub Recorded : (jumps : TablesLent) → (at : Position) → (target kind : ℕ) → (maker : Slot) → Type 0
Recorded jumps at target kind maker =
    E.Recorded
    (tables jumps.entry.now) (tables jumps.exit.now)
    at.offset jumps.entry.now.count jumps.exit.now.count target kind maker.number
    × SameBorrows jumps.entry.now jumps.exit.now
