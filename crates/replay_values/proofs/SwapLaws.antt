-- Byte swaps: a remainder by a power of two, and bytes turned round.
use Rattle.std.proofs.Common.{◌≡◌, ℕ, ◌+◌, ◌-◌, ◌*◌, ◌/◌, ◌%◌, ◌^◌, ◌<◌, ◌≤◌, true, eqb}
use Rattle.std.proofs.Common.{sym, ◌∙◌, lt_of_lt_of_le, mod-eq_of_lt, arith, eqb→eq, pow_mono, shl_exact}
use Rattle.base.proofs.Tests.{true-T, or_elim}
use Rattle.ebpf_meaning.specs.Values.{reversed, be_value}
use Rattle.jit.specs.Translation.{swap_bits}
use Rattle.std.specs.Int.{w64, swap_bytes}

pub unit : (n : ℕ) → n < 64 → 1 * 2 ^ n % 2 ^ 64 ≡ 2 ^ n
unit n h = shl_exact {a = 1} 1 n 64 (omega arith) (omega arith) ∙ omega arith

pub whole : (n a : ℕ) → 64 ≤ n → a < 2 ^ 64 → a ≡ a % 2 ^ n
whole n a h g = sym (mod-eq_of_lt (lt_of_lt_of_le g (pow_mono h)))

-- the bytes turned round, as the library has them
pub eight : (a : ℕ) → swap_bytes w64 a ≡ reversed 8 a
unfolding reversed
eight a =
    let e2 : a / 256 ^ 2 ≡ a / 256 / 256 = omega arith in
    let e3 : a / 256 ^ 3 ≡ a / 256 / 256 / 256 = omega arith in
    let e4 : a / 256 ^ 4 ≡ a / 256 / 256 / 256 / 256 = omega arith in
    let e5 : a / 256 ^ 5 ≡ a / 256 / 256 / 256 / 256 / 256 = omega arith in
    let e6 : a / 256 ^ 6 ≡ a / 256 / 256 / 256 / 256 / 256 / 256 = omega arith in
    let e7 : a / 256 ^ 7 ≡ a / 256 / 256 / 256 / 256 / 256 / 256 / 256 = omega arith in
    rw (e2, e3, e4, e5, e6, e7) (omega arith)

-- the three widths, each with what it is to show
at_width : (C : ℕ → Type 0) (n : ℕ) → swap_bits n ≡ true → C 16 → C 32 → C 64 → C n
at_width C n e x y z =
    or_elim (eqb n 16) _ (true-T _ e) (λ t. rw (eqb→eq n 16 t) x)
    (λ s. or_elim (eqb n 32) (eqb n 64) s (λ t. rw (eqb→eq n 32 t) y) (λ t. rw (eqb→eq n 64 t) z))

pub turned : (n a : ℕ) → swap_bits n ≡ true → reversed 8 a / 2 ^ (64 - n) ≡ be_value n a
unfolding reversed be_value
turned n a e = at_width (λ (m : ℕ). reversed 8 a / 2 ^ (64 - m) ≡ be_value m a) n e (omega arith) (omega arith) (omega arith)

pub be-below : (n a : ℕ) → swap_bits n ≡ true → be_value n a < 2 ^ n
unfolding reversed be_value
be-below n a e = at_width (λ (m : ℕ). be_value m a < 2 ^ m) n e (omega arith) (omega arith) (omega arith)
