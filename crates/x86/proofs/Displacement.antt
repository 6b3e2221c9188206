-- A jump's field, read as the processor reads it: a 32-bit two's complement number, which is the target's place minus the end of the
-- instruction (Intel 64 manual, volume 2, JMP rel32).
use mathlib.Core.Path.{◌≡◌, refl, ap}
use mathlib.Core.Bool.{Bool, true, false}
use Prim.Native.Nat.{ℕ, ◌+◌, ◌-◌, ◌%◌, ◌^◌, ◌≤◌, ◌<◌}
use native.Mathlib.Omega.{arith}
use lib.Dec.{ltb}
use lib.IntN.{negsuc, sub_ℕ}
use mir.Syntax.{w32}
use mir.Val.{to_z}
use borrow.Author.Tests.{lt-ltb, le-ltb, ltb-true, ltb-false}
use Rattle.x86.specs.Code.{to, field}

-- sub_ℕ a b is the integer a - b
pub displacement : (loc : ℕ → ℕ) (end t : ℕ) → loc t < 2 ^ 31 → end < 2 ^ 31 → to_z w32 (field loc end (to t)) ≡ sub_ℕ (loc t) end
displacement loc end t h g = by (ltb (loc t) end) refl
  where
    by : (b : Bool) → ltb (loc t) end ≡ b → to_z w32 ((loc t + 2 ^ 32 - end) % 2 ^ 32) ≡ sub_ℕ (loc t) end
    by true e =
        let l : loc t < end = ltb-true (loc t) end e in
        let m : (loc t + 2 ^ 32 - end) % 2 ^ 32 ≡ loc t + 2 ^ 32 - end = omega arith in
        let k : 2 ^ 31 ≤ loc t + 2 ^ 32 - end = omega arith in
        rw (m, le-ltb _ _ k, e) (ap negsuc (omega arith))
    by false e =
        let l : end ≤ loc t = ltb-false (loc t) end e in
        let m : (loc t + 2 ^ 32 - end) % 2 ^ 32 ≡ loc t - end = omega arith in
        let k : loc t - end < 2 ^ 31 = omega arith in
        rw (m, lt-ltb _ _ k, e)
