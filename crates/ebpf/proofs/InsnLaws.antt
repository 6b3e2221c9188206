-- The laws of specs/Insn.antt.
use Rattle.std.proofs.Common.{◌≡◌, ℕ, ◌+◌, ◌%◌, ◌^◌, ◌<◌, Bool, true, false, ltb, refl, arith, ltb-false, ltb-true}
use Rattle.base.specs.Pick.{pick}
use Rattle.ebpf.specs.Insn.{extend}

-- extending without a test: the number moved up by half of its range, cut, and moved down again
pub extended : (x r : ℕ) → x < 2 ^ 16 → r < 2 ^ 32 → (r + 32768) % 2 ^ 32 ≡ (x + 32768) % 65536 → r ≡ extend x
extended x r h g e = by (ltb x 32768) refl
  where
    by : (t : Bool) → ltb x 32768 ≡ t → r ≡ pick t x (x + 4294901760)
    by true q = omega (arith, e, ltb-true x 32768 q)
    by false q = omega (arith, e, ltb-false x 32768 q)
