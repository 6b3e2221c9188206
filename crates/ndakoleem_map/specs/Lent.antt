-- The contract of `ndakoleem_translate_mapped_1`, of its parameters by their names (base/specs/Lent.antt).
use Rattle.std.specs.Prelude.{ℕ}
use Rattle.base.specs.Lent.{Lent, MutLent}
use Rattle.jit.specs.Translation.{Inputs}
use Rattle.jit_mapping.specs.Lent.{lent}
use Rattle.ndakoleem_map.specs.declared.Mapped.{Mapped}
use Rattle.ndakoleem_map.specs.ExportedMap as M

abbrev pub ExportedMap : Inputs → (base : ℕ) → (code locations fields targets kinds makers text : MutLent) → Mapped → Type 0
ExportedMap x base code locations fields targets kinds makers text r =
    M.ExportedMap x base
    (lent code.entry locations.entry fields.entry targets.entry kinds.entry makers.entry text.entry)
    (lent code.exit locations.exit fields.exit targets.exit kinds.exit makers.exit text.exit) r
