-- What the forms answer: how the definition goes on behind ModRM, for registers and for memory.
use Rattle.std.specs.Prelude.{◌≡◌, List, [], ◌∷◌, ℕ, ◌%◌, eqb, drop, Option, Some, None}
use Rattle.base.specs.Pick.{pick}
use Rattle.base.specs.Cases.{Arm, cases, ◌⇒◌}
use Rattle.base.specs.declared.Size.{Size}
use Rattle.x86_instructions.specs.declared.Cond.{Cond}
use Rattle.x86.specs.Instr.{Instr, op, store_imm, rol16}
use Rattle.x86.specs.Decode as X
use Rattle.x86.specs.Decode.{bad, got, Next, number, in_register, in_memory, with_modrm}

-- What `with_modrm` is, whatever goes on with it, if that takes registers only, or memory only.
abbrev pub NoMemory : (ℕ → X.Operand → Next) → Type 0
NoMemory k = (n b v : ℕ) (l : List ℕ) → k n (in_memory b v) l ≡ bad

abbrev pub NoRegister : (ℕ → X.Operand → Next) → Type 0
NoRegister k = (n d : ℕ) (l : List ℕ) → k n (in_register d) l ≡ bad

abbrev pub registers_is : List ℕ → Option (ℕ × ℕ × ℕ) → (ℕ → X.Operand → Next) → X.Read
registers_is s None k = bad
registers_is s (Some (n, d, next)) k = k n (in_register d) (drop next s)

abbrev pub Registers : X.Rex → List ℕ → ℕ → Option (ℕ × ℕ × ℕ) → Type 0
Registers x s at r = (k : ℕ → X.Operand → Next) → NoMemory k → with_modrm x k (drop at s) ≡ registers_is s r k

abbrev pub memory_is : List ℕ → Option (ℕ × ℕ × ℕ × ℕ) → (ℕ → X.Operand → Next) → X.Read
memory_is s None k = bad
memory_is s (Some (n, b, v, next)) k = k n (in_memory b v) (drop next s)

abbrev pub Memory : X.Rex → List ℕ → ℕ → Option (ℕ × ℕ × ℕ × ℕ) → Type 0
Memory x s at r = (k : ℕ → X.Operand → Next) → NoRegister k → with_modrm x k (drop at s) ≡ memory_is s r k

abbrev pub OnRegisters : X.Rex → List ℕ → ℕ → (ℕ → ℕ → Instr ℕ) → X.Read → Type 0
OnRegisters x s at f r = (k : ℕ → X.Operand → Next) → ((n d : ℕ) (l : List ℕ) → k n (in_register d) l ≡ got (f n d) l) → NoMemory k
    → with_modrm x k (drop at s) ≡ r

abbrev pub OnMemory : X.Rex → List ℕ → ℕ → (ℕ → ℕ → ℕ → Instr ℕ) → X.Read → Type 0
OnMemory x s at f r = (k : ℕ → X.Operand → Next) → ((n b v : ℕ) (l : List ℕ) → k n (in_memory b v) l ≡ got (f n b v) l) → NoRegister k
    → with_modrm x k (drop at s) ≡ r

-- /0 alone
abbrev only/0 : ℕ → Next → Next
only/0 n k = pick (eqb (n % 8) 0) k (λ r. bad)

-- a constant of c bytes to memory: C6, and C7 behind 66
abbrev pub Stores : ℕ → Size → X.Rex → List ℕ → ℕ → X.Read → Type 0
Stores c z x s at r = (k : ℕ → X.Operand → Next)
    → ((n b v : ℕ) (l : List ℕ) → k n (in_memory b v) l ≡ only/0 n (number c (λ i. got (op (store_imm z b v i)))) l) → NoRegister k
    → with_modrm x k (drop at s) ≡ r

-- ROL: C1 behind 66
abbrev pub Rotates : X.Rex → List ℕ → ℕ → X.Read → Type 0
Rotates x s at r = (k : ℕ → X.Operand → Next)
    → ((n d : ℕ) (l : List ℕ) → k n (in_register d) l ≡ only/0 n (number 1 (λ i. got (op (rol16 d i)))) l) → NoMemory k
    → with_modrm x k (drop at s) ≡ r

-- the conditions by their numbers, as the definition's `conditions`
abbrev pub condition_of : ℕ → Option Cond
condition_of n = cases conditions None n
  where
    conditions : List (Arm (Option Cond))
    conditions =
        2 ⇒ Some Cond.Jb ∷ 3 ⇒ Some Cond.Jae ∷ 4 ⇒ Some Cond.Je ∷ 5 ⇒ Some Cond.Jne ∷ 6 ⇒ Some Cond.Jbe
        ∷ 7 ⇒ Some Cond.Ja ∷ 12 ⇒ Some Cond.Jl ∷ 13 ⇒ Some Cond.Jge ∷ 14 ⇒ Some Cond.Jle ∷ 15 ⇒ Some Cond.Jg ∷ []
