-- The laws of specs/Bytes.antt.
use mathlib.Core.Path.{◌≡◌, refl, ap}
use mathlib.Core.List.{◌∷◌}
use Prim.Native.Nat.{ℕ, zero, suc, ◌+◌, ◌*◌, ◌/◌, ◌%◌, ◌<◌, ◌^◌}
use native.Mathlib.Omega.{arith}
use lib.ListN.{length}
use Rattle.base.specs.Bytes.{bytes_of, join, le16, le32, le64}

-- laws
pub length-bytes_of : (n x : ℕ) → length (bytes_of n x) ≡ n
length-bytes_of zero x = refl
length-bytes_of (suc n) x = ap suc (length-bytes_of n (x / 256))

-- a number put together from its lowest byte and the rest
pub bytes-cons : (n b x : ℕ) → b < 256 → bytes_of (suc n) (b + 256 * x) ≡ b ∷ bytes_of n x
bytes-cons n b x h =
    let low : (b + 256 * x) % 256 ≡ b = omega arith in
    let high : (b + 256 * x) / 256 ≡ x = omega arith in
    rw (low, high)

-- bytes make the number again
pub join-le16 : (x : ℕ) → x < 2 ^ 16 → join (le16 x) ≡ x
join-le16 x h = omega arith

pub join-le32 : (x : ℕ) → x < 2 ^ 32 → join (le32 x) ≡ x
join-le32 x h = omega arith

pub join-le64 : (x : ℕ) → x < 2 ^ 64 → join (le64 x) ≡ x
join-le64 x h = omega arith
