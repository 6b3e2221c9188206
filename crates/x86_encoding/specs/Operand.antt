-- What the readers of REX, the opcode, ModRM and the displacement answer: how the definition goes on with it.
use Rattle.std.specs.Prelude.{◌≡◌, Bool, List, ◌∷◌, ℕ, ◌%◌, eqb, drop, Option, Some, None}
use Rattle.base.specs.Pick.{pick}
use Rattle.x86.specs.Decode as X
use Rattle.x86.specs.Decode.{bad, Next, number, with_rex, reg_number, low_number, in_register, in_memory, signed8, with_modrm}
use Rattle.x86_encoding.specs.Bytes.{number_is}
use Rattle.x86_encoding.specs.declared.operand.Rex.{Rex}
use Rattle.x86_encoding.specs.declared.operand.Operand.{Operand}
use Rattle.x86_encoding.specs.declared.operand.Modrm.{Modrm}

-- R and B, which the definition has as numbers
abbrev pub bit : Bool → ℕ
bit b = pick b 1 0

abbrev pub rex_is : Rex → X.Rex
rex_is x = record { there = x.there; width = x.width; R = bit x.r; B = bit x.b }

-- what `with_rex` is, where it goes on with k
abbrev pub head_is : List ℕ → Option (Rex × ℕ × ℕ) → (X.Rex → ℕ → Next) → X.Read
head_is s None k = bad
head_is s (Some (x, o, next)) k = k (rex_is x) o (drop next s)

abbrev pub Heads : List ℕ → ℕ → Option (Rex × ℕ × ℕ) → Type 0
Heads s at r = (k : X.Rex → ℕ → Next) → with_rex k (drop at s) ≡ head_is s r k

-- a displacement: of one byte, none, and by ModRM
abbrev pub ReadsShort : List ℕ → ℕ → Option (ℕ × ℕ) → Type 0
ReadsShort s at r = (k : ℕ → Next) → number 1 (λ v. k (signed8 v)) (drop at s) ≡ number_is s r k

abbrev pub none_at : ℕ → ℕ → Option (ℕ × ℕ)
none_at m at = pick (eqb (m % 8) 5) None (Some (0, at))

abbrev pub Displaces : List ℕ → ℕ → ℕ → Option (ℕ × ℕ) → Type 0
Displaces s at m r = (x : X.Rex) (k : ℕ → X.Operand → Next)
    → with_modrm x k (m ∷ drop at s) ≡ number_is s r (λ v. k (reg_number x m) (in_memory (low_number x m) v))

abbrev pub operand_is : Operand → X.Operand
operand_is (Operand.Register d) = in_register d
operand_is (Operand.Memory b v) = in_memory b v

-- what `with_modrm` is, where it goes on with k
abbrev pub modrm_is : List ℕ → Option (Modrm × ℕ) → (ℕ → X.Operand → Next) → X.Read
modrm_is s None k = bad
modrm_is s (Some (m, next)) k = k m.reg (operand_is m.operand) (drop next s)

abbrev pub Operands : X.Rex → List ℕ → ℕ → Option (Modrm × ℕ) → Type 0
Operands x s at r = (k : ℕ → X.Operand → Next) → with_modrm x k (drop at s) ≡ modrm_is s r k
