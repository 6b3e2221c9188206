-- The contract of `ndakoleem_translate_4`, of its parameters by their names (base/specs/Lent.antt).
use Rattle.base.specs.Lent.{Lent, MutLent}
use Rattle.jit.specs.Translation.{Inputs}
use Rattle.jit_theorem.specs.Lent.{buffers}
use Rattle.ndakoleem.specs.declared.Translation.{Translation}
use Rattle.ndakoleem.specs.Exported as E

abbrev pub Exported : Inputs → (code locations fields targets kinds makers : MutLent) → Translation → Type 0
Exported x code locations fields targets kinds makers r =
    E.Exported x
    (buffers code.entry locations.entry fields.entry targets.entry kinds.entry makers.entry)
    (buffers code.exit locations.exit fields.exit targets.exit kinds.exit makers.exit) r
