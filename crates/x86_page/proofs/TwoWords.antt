-- Two words in the page, the second of n bytes, are what an emitter leaves.
use mathlib.Core.Path.{◌≡◌, refl}
use mathlib.Core.List.{List, ◌++◌}
use Prim.Native.Nat.{ℕ, ◌+◌, ◌≤◌}
use native.Mathlib.Omega.{arith}
use lib.ListN.{length}
use lib.Seq.{sets, length-sets}
use Rattle.base.specs.Bytes.{bytes_of, le64}
use Rattle.x86_emit.specs.Wrote.{Wrote}
use Rattle.x86_emit.proofs.WroteLaws.{stored, then}

pub two : {l l' : List ℕ} (at a b n : ℕ) → n ≤ 8 → at + 16 ≤ length l → l' ≡ sets (sets l at (le64 a)) (at + 8) (le64 b)
    → Wrote l l' at (at + 8 + n) (bytes_of 8 a ++ bytes_of n b)
two {l} at a b n h g e =
    then (stored at a 8 (omega arith) (omega (arith, g)) refl) (stored (at + 8) b n h (omega (arith, g, length-sets l at (le64 a))) e)
