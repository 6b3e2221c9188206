-- What is lent, at one moment, of the parameters by their names (base/specs/Lent.antt).
use Rattle.base.specs.Lent.{MutSlice}
use Rattle.jit_theorem.specs.Theorem.{Buffers}

abbrev pub buffers : (code locations fields targets kinds makers : MutSlice) → Buffers
buffers code locations fields targets kinds makers =
    record {
      code = code.now;
      locations = locations.now;
      fields = fields.now;
      targets = targets.now;
      kinds = kinds.now;
      makers = makers.now;
    }
