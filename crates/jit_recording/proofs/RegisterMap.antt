-- The register map of the Rust, by the arms of the code's match.
use Rattle.std.proofs.Common.{◌≡◌, ℕ, ◌%◌, ◌<◌, [], ◌∷◌, get_or, arith}
use Rattle.x86.specs.Registers.{RAX, RDI, RSI, RDX, R9, R8, RBX, R13, R14, R15, RBP}
use Rattle.jit.specs.Slots.{reg_of}

-- what the arms give, those above 10 RAX
abbrev pub mapped : ℕ → ℕ
mapped n = get_or (RAX ∷ RDI ∷ RSI ∷ RDX ∷ R9 ∷ R8 ∷ RBX ∷ R13 ∷ R14 ∷ R15 ∷ RBP ∷ []) n 0

pub register : (r n : ℕ) → r < 11 → r % 16 ≡ n → mapped n ≡ reg_of r
unfolding reg_of
register r n h e = let same : n ≡ r = omega arith in rw same
