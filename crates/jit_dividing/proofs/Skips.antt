-- How far the guard of a divisor skips.
use mathlib.Core.Path.{◌≡◌}
use Prim.Native.Nat.{ℕ, ◌<◌, ◌≤◌}
use native.Mathlib.Omega.{arith}
use Rattle.base.proofs.Tests.{eqb-true, eqb-false}
use Rattle.x86.specs.Encode.{rex, rex_bits}
use Rattle.x86.specs.Code.{size}
use Rattle.jit.specs.MulDivMod.{div_by_zero}

-- what division skips: the xor, which has a REX prefix from R8 on, and the jump
pub skip-low : (slot dst : ℕ) → dst < 8 → 7 ≡ size (div_by_zero slot dst)
unfolding rex
skip-low slot dst h = rw (eqb-true (rex_bits 0 dst dst) 0 (omega arith))

pub skip-high : (slot dst : ℕ) → 8 ≤ dst → 8 ≡ size (div_by_zero slot dst)
unfolding rex
skip-high slot dst h = rw (eqb-false (rex_bits 0 dst dst) 0 (λ e. omega arith))
