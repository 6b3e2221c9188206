-- Shifts right with the sign: what the ones that come in from above are, and that they fit above what is left.
use Rattle.std.proofs.Common.{◌≡◌, ℕ, ◌+◌, ◌-◌, ◌*◌, ◌/◌, ◌^◌, ◌<◌, ◌≤◌, Bool, true, false, arith, pow_pos, pow_mono, shr_lt, le-leb}
use lib.Pow.{shr_le, ones_split, ones_lt, high}
use Rattle.base.specs.Pick.{pick}
use Rattle.base.specs.Widths.{bits}
use Rattle.base.specs.declared.Width.{Width}
use Rattle.base.specs.declared.Width.TheVariants.{W32, W64}
use Rattle.ebpf_meaning.specs.Values.{negative}

-- half of the range tells the sign
pub is_negative : (w : Width) (a : ℕ) → 2 ^ (bits w - 1) ≤ a → negative w a ≡ true
is_negative W32 a h = le-leb (2 ^ 32) (2 * a) (omega arith)
is_negative W64 a h = le-leb (2 ^ 64) (2 * a) (omega arith)

module _ (n c : ℕ) (g : c < n) where
  above : n - c + c ≡ n
  above = omega arith

  -- the ones that a shift right leaves
  pub left : (2 ^ n - 1) / 2 ^ c ≡ 2 ^ (n - c) - 1
  left =
      let e : (2 ^ (n - c + c) - 1) / 2 ^ c ≡ 2 ^ (n - c) - 1 = rw ones_split (high (2 ^ (n - c) - 1) c (ones_lt c)) in
      rw above at e

  -- those that it takes away
  pub taken : 2 ^ n - 1 - (2 ^ n - 1) / 2 ^ c ≡ 2 ^ n - 2 ^ (n - c)
  taken = omega (arith, left, pow_pos (n - c), pow_mono {i = n - c} {j = n} (omega arith))

  -- what is left of a has room below them
  pub over : (a : ℕ) → a < 2 ^ n → a / 2 ^ c + (2 ^ n - 2 ^ (n - c)) < 2 ^ n
  over a h = omega (arith, shr_lt {n = a} (n - c) c (rw above h), pow_mono {i = n - c} {j = n} (omega arith))

pub fits : (w : Width) (a c : ℕ) → c < bits w → a < 2 ^ bits w
    → a / 2 ^ c + pick (negative w a) (2 ^ bits w - 2 ^ (bits w - c)) 0 < 2 ^ bits w
fits w a c g h = by (negative w a)
  where
    by : (t : Bool) → a / 2 ^ c + pick t (2 ^ bits w - 2 ^ (bits w - c)) 0 < 2 ^ bits w
    by true = over (bits w) c g a h
    by false = omega (arith, shr_le a c)

-- a number of a width is one of 64 bits
pub word : (w : Width) {x : ℕ} → x < 2 ^ bits w → x < 2 ^ 64
word W32 h = omega arith
word W64 h = h
