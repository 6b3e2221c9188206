-- The laws of a load: the bytes that it puts together, one by one.
use Rattle.std.proofs.Common.{◌≡◌, ℕ, zero, suc, ◌+◌, ◌*◌, ◌^◌, ◌<◌, ◌≤◌, List, length, get_or, take, drop, refl, arith, drop-cons}
use Rattle.base.specs.Bytes.{join}
use Rattle.base.specs.declared.Size.{Size}
use Rattle.replay.specs.Memory.{loaded, size_bytes}

-- k bytes behind a place, as code says it
abbrev behind : (at k : ℕ) → ℕ
behind at zero = at
behind at (suc k) = at + suc k

is-behind : (at k : ℕ) → behind at k ≡ at + k
is-behind at zero = omega arith
is-behind at (suc k) = refl

-- n bytes, lowest first, from k bytes behind a place on
abbrev pub summed : List ℕ → (at k n : ℕ) → ℕ
summed area at k zero = 0
summed area at k (suc n) = get_or area (behind at k) 0 + 256 * summed area at (suc k) n

join-summed : (area : List ℕ) (at k n : ℕ) → at + k + n ≤ length area → join (take n (drop (behind at k) area)) ≡ summed area at k n
join-summed area at k zero h = refl
join-summed area at k (suc n) h =
    let there : behind at k < length area = omega (arith, is-behind at k) in
    let next : suc (behind at k) ≡ behind at (suc k) = omega (arith, is-behind at k) in
    let more : at + suc k + n ≤ length area = omega arith in
    rw (drop-cons area (behind at k) 0 there, next, join-summed area at (suc k) n more)

-- a load is the sum of its bytes
pub loaded-sum : (z : Size) (area : List ℕ) (at : ℕ) → at + size_bytes z ≤ length area → loaded z area at ≡ summed area at 0 (size_bytes z)
loaded-sum z area at h = join-summed area at 0 (size_bytes z) (omega arith)
