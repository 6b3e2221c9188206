-- The laws of specs/Operand.antt.
use mathlib.Core.Path.{◌≡◌, refl}
use mathlib.Core.Bool.{Bool, true, false}
use mathlib.Core.List.{List}
use Rattle.std.specs.Prelude.{None, Some}
use Prim.Native.Nat.{ℕ, zero, suc, ◌%◌, ◌<◌}
use native.Mathlib.Omega.{arith}
use lib.Dec.{eqb}
use lib.ListN.{drop}
use Rattle.base.specs.Pick.{pick}
use Rattle.x86.specs.Decode.{bad, Next}
use Rattle.x86_encoding.specs.Bytes.{number_is}
use Rattle.x86_encoding.specs.Operand.{bit, none_at}

-- a bit that a test reads is the bit
pub bit-of : (n : ℕ) → n < 2 → bit (eqb n 1) ≡ n
bit-of zero h = refl
bit-of (suc zero) h = refl
bit-of (suc (suc n)) h = absurd (omega arith)

-- without a displacement the definition goes on with 0
pub none_reads : (s : List ℕ) (m at : ℕ) (k : ℕ → Next) → pick (eqb (m % 8) 5) (λ r. bad) (k 0) (drop at s) ≡ number_is s (none_at m at) k
none_reads s m at k = go (eqb (m % 8) 5)
  where
    go : (b : Bool) → pick b (λ r. bad) (k 0) (drop at s) ≡ number_is s (pick b None (Some (0, at))) k
    go true = refl
    go false = refl
