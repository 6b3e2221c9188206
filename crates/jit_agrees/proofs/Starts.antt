-- States to start from: at any place, with any registers of an RFC machine that are given as numbers, so that what Agrees.antt asks of a state is
-- met by computing.
use mathlib.Core.Bool.{Bool, true, ◌&&◌}
use mathlib.Core.List.{List, [], ◌∷◌}
use Prim.Native.Nat.{ℕ, zero, suc, ◌^◌, ◌<◌}
use native.Mathlib.Omega.{arith}
use lib.Dec.{T, ltb, ltb→lt, eqb, eqb→eq}
use lib.ListN.{length, get_or}
use Rattle.base.proofs.Tests.{and_l, and_r}
use Rattle.x86_machine.specs.Machine.{State}
use Rattle.x86_machine.proofs.WorkedRun.{clear}
use Rattle.jit_agrees.specs.Agrees.{Mapped}
use Rattle.jit_agrees.proofs.Mapping.{unmapped, mapped_in}

-- what has none of r0 to r10 is 0, RSP too; no call is open
abbrev pub start_at : (place : ℕ) → List ℕ → State
start_at p r = record { pos = p; regs = λ m. get_or r (unmapped m) 0; flags = clear; calls = [] }

-- r0 and r1, and what tells the others apart
abbrev pub holding : (r0 r1 : ℕ) → List ℕ
holding a b = a ∷ b ∷ 102 ∷ 103 ∷ 104 ∷ 105 ∷ 106 ∷ 107 ∷ 108 ∷ 109 ∷ 110 ∷ []

-- numbers below n
abbrev pub below : (n : ℕ) → List ℕ → Bool
below n [] = true
below n (x ∷ l) = ltb x n && below n l

pub below-lt : (n : ℕ) (l : List ℕ) → 0 < n → T (below n l) → (k : ℕ) → get_or l k 0 < n
below-lt n [] h t k = h
below-lt n (x ∷ l) h t zero = ltb→lt x n (and_l (ltb x n) (below n l) t)
below-lt n (x ∷ l) h t (suc k) = below-lt n l h (and_r (ltb x n) (below n l) t) k

abbrev pub eleven_words : List ℕ → Bool
eleven_words r = eqb (length r) 11 && below (2 ^ 64) r

pub mapped-at-start : (p : ℕ) (r : List ℕ) → T (eleven_words r) → Mapped r (start_at p r).regs
mapped-at-start p r t = mapped_in r (record { eleven = eqb→eq _ _ (and_l (eqb (length r) 11) (below (2 ^ 64) r) t); words = fit })
  where
    fit : (k : ℕ) → get_or r k 0 < 2 ^ 64
    fit = below-lt (2 ^ 64) r (omega arith) (and_r (eqb (length r) 11) (below (2 ^ 64) r) t)
