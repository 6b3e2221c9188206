-- The contract, of the parameters by their names (base/specs/Lent.antt).
use Rattle.std.specs.Prelude.{ℕ}
use Rattle.base.specs.Lent.{MutSlice, MutLent}
use Rattle.jit.specs.Translation.{Inputs}
use Rattle.jit_mapping.specs.Mapped as M
use Rattle.jit_mapping.specs.Mapped.{Answer}

abbrev pub lent : (code locations fields targets kinds makers text : MutSlice) → M.Buffers
lent code locations fields targets kinds makers text =
    record {
      code = code.now;
      locations = locations.now;
      fields = fields.now;
      targets = targets.now;
      kinds = kinds.now;
      makers = makers.now;
      text = text.now;
    }

abbrev pub Mapped : Inputs → (base : ℕ) → (code locations fields targets kinds makers text : MutLent) → Answer → Type 0
Mapped x base code locations fields targets kinds makers text r =
    M.Mapped x base
    (lent code.entry locations.entry fields.entry targets.entry kinds.entry makers.entry text.entry)
    (lent code.exit locations.exit fields.exit targets.exit kinds.exit makers.exit text.exit) r
