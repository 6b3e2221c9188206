-- How many bits a width and a size have.
use Rattle.std.specs.Prelude.{ℕ}
use Rattle.base.specs.declared.Width.{Width}
use Rattle.base.specs.declared.Width.TheVariants.{W32, W64}
use Rattle.base.specs.declared.Size.{Size}
use Rattle.base.specs.declared.Size.TheVariants.{S8, S16, S32, S64}

abbrev pub bits : Width → ℕ
bits W32 = 32
bits W64 = 64

abbrev pub size_bits : Size → ℕ
size_bits S8 = 8
size_bits S16 = 16
size_bits S32 = 32
size_bits S64 = 64
