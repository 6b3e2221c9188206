-- What is asked, of the parameters by their names (base/specs/Lent.antt).
use Rattle.base.specs.Lent.{Slice, Lent}
use Rattle.jit.specs.declared.Mode.{Mode}
use Rattle.jit.specs.Translation.{Filter}

-- the filter, in a `requires` and in an `ensures`
abbrev pub filter_in : (prog : Slice) → (mode : Mode) → (ids addresses : Slice) → Filter
filter_in prog mode ids addresses = record { program = prog.now; mode = mode; ids = ids.now; addresses = addresses.now }

abbrev pub filter_of : (prog : Lent) → (mode : Mode) → (ids addresses : Lent) → Filter
filter_of prog mode ids addresses = filter_in prog.entry mode ids.entry addresses.entry
