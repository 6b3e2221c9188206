-- What is asked, and what is answered (Translated.antt), of the parameters by their names (base/specs/Lent.antt).
use Rattle.std.specs.Prelude.{Bool, ℕ, length}
use Rattle.base.specs.Lent.{Slice, MutSlice, Lent, MutLent}
use Rattle.jit.specs.declared.Flags.{Flags}
use Rattle.jit.specs.declared.Mode.{Mode}
use Rattle.jit.specs.Translation.{Filter, Inputs, translation_of}
use Rattle.jit.specs.Lent.{filter_in}
use Rattle.jit_translate.specs.Translated as T
use Rattle.jit_translate.specs.Translated.{Answer}

-- what is asked of buffers by their lengths; and of the lent buffers, in a `requires` and in an `ensures`
abbrev pub sized : Filter → Flags → (page locations fields targets kinds makers : ℕ) → Inputs
sized filter flags page locations fields targets kinds makers =
    record {
      filter = filter;
      flags = flags;
      page = page;
      locations = locations;
      fields = fields;
      targets = targets;
      kinds = kinds;
      makers = makers;
    }

abbrev pub inputs : Slice → Flags → Mode → (ids addresses : Slice) (code locations fields targets kinds makers : MutSlice) → Inputs
inputs prog flags mode ids addresses code locations fields targets kinds makers =
    sized (filter_in prog mode ids addresses) flags
    (length code.now) (length locations.now) (length fields.now) (length targets.now) (length kinds.now) (length makers.now)

abbrev pub asked : Lent → Flags → Mode → (ids addresses : Lent) (code locations fields targets kinds makers : MutLent) → Inputs
asked prog flags mode ids addresses code locations fields targets kinds makers =
    inputs prog.entry flags mode ids.entry addresses.entry
    code.entry locations.entry fields.entry targets.entry kinds.entry makers.entry

-- the flags and the mode, where they are asked for one by one
abbrev pub flagged : (mbuff update : Bool) → Flags
flagged mbuff update = record { use_mbuff = mbuff; update_data_ptr = update }

abbrev pub in_mode : (standard compact : Bool) → Mode
in_mode standard compact = record { standard = standard; compact = compact }

-- THE CONTRACT: the answer and the contents at exit are what `translation_of` gives on what is asked.
abbrev pub Translated : Inputs → (code locations fields targets : MutLent) → Answer → Type 0
Translated x code locations fields targets r =
    T.Translated (translation_of x)
    code.entry.now code.exit.now locations.entry.now locations.exit.now
    fields.entry.now fields.exit.now targets.entry.now targets.exit.now r

-- .. and those of the two further tables are what JumpTables.antt says of it.
abbrev pub Named : Inputs → (kinds makers : MutLent) → Type 0
Named x kinds makers = T.Named x kinds.entry.now kinds.exit.now makers.entry.now makers.exit.now
