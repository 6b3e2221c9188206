-- ModRM and displacement as the loads and stores put them together: the lowest `size` bytes of a word.
use Rattle.std.specs.Prelude.{◌≡◌, ℕ, ◌^◌, ◌<◌, ◌≤◌}
use Rattle.base.specs.Bytes.{bytes_of}
use Rattle.x86.specs.Encode.{memory}

pub record Addresses (size word reg base disp : ℕ) : Type 0 where
  pub bytes : bytes_of size word ≡ memory reg base disp
  pub short : size ≤ 5
  pub small : word < 2 ^ 40
