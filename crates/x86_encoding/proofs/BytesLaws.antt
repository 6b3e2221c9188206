-- The laws of specs/Bytes.antt.
use mathlib.Core.Path.{◌≡◌, refl, ap}
use mathlib.Core.List.{List, [], ◌∷◌}
use Prim.Native.Nat.{ℕ, zero, suc, ◌<◌}
use native.Mathlib.Omega.{arith}
use lib.ListN.{length, drop}
use Rattle.std.specs.Array.{IsFirstChunk}
use Rattle.std.specs.Int.{from_le_bytes, w16, w32, w64}
use Rattle.x86.specs.Decode.{Next, bad, number}

-- fewer bytes than the number has
pub number-short : (n : ℕ) (k : ℕ → Next) (l : List ℕ) → length l < n → number n k l ≡ bad
unfolding number
number-short zero k l h = absurd (omega arith)
number-short (suc n) k [] h = refl
number-short (suc n) k (b ∷ l) h = number-short n _ l (omega arith)

-- numbers of two, four and eight bytes, as the library puts them together
pub number2 : (k : ℕ → Next) (l bytes : List ℕ) → IsFirstChunk l bytes 2 → number 2 k l ≡ k (from_le_bytes w16 bytes) (drop 2 l)
unfolding number
number2 k [] bytes h = absurd (omega (arith, h.enough))
number2 k (a ∷ []) bytes h = absurd (omega (arith, h.enough))
number2 k (a ∷ b ∷ r) bytes h = rw h.same (ap (λ (v : ℕ). k v r) (omega arith))

pub number4 : (k : ℕ → Next) (l bytes : List ℕ) → IsFirstChunk l bytes 4 → number 4 k l ≡ k (from_le_bytes w32 bytes) (drop 4 l)
unfolding number
number4 k [] bytes h = absurd (omega (arith, h.enough))
number4 k (a ∷ []) bytes h = absurd (omega (arith, h.enough))
number4 k (a ∷ b ∷ []) bytes h = absurd (omega (arith, h.enough))
number4 k (a ∷ b ∷ c ∷ []) bytes h = absurd (omega (arith, h.enough))
number4 k (a ∷ b ∷ c ∷ d ∷ r) bytes h = rw h.same (ap (λ (v : ℕ). k v r) (omega arith))

pub number8 : (k : ℕ → Next) (l bytes : List ℕ) → IsFirstChunk l bytes 8 → number 8 k l ≡ k (from_le_bytes w64 bytes) (drop 8 l)
unfolding number
number8 k [] bytes h = absurd (omega (arith, h.enough))
number8 k (a ∷ []) bytes h = absurd (omega (arith, h.enough))
number8 k (a ∷ b ∷ []) bytes h = absurd (omega (arith, h.enough))
number8 k (a ∷ b ∷ c ∷ []) bytes h = absurd (omega (arith, h.enough))
number8 k (a ∷ b ∷ c ∷ d ∷ []) bytes h = absurd (omega (arith, h.enough))
number8 k (a ∷ b ∷ c ∷ d ∷ e ∷ []) bytes h = absurd (omega (arith, h.enough))
number8 k (a ∷ b ∷ c ∷ d ∷ e ∷ f ∷ []) bytes h = absurd (omega (arith, h.enough))
number8 k (a ∷ b ∷ c ∷ d ∷ e ∷ f ∷ g ∷ []) bytes h = absurd (omega (arith, h.enough))
number8 k (a ∷ b ∷ c ∷ d ∷ e ∷ f ∷ g ∷ h0 ∷ r) bytes h = rw h.same (ap (λ (v : ℕ). k v r) (omega arith))
