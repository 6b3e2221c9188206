-- What the readers of bytes (Bytes.antt) and of what stands ahead of the constants (Operand.antt) answer, of the page by its name
-- (base/specs/Lent.antt).
use Rattle.std.specs.Prelude.{◌≡◌, ℕ, drop, Option}
use Rattle.base.specs.Lent.{Lent}
use Rattle.x86_encoding.specs.Bytes as B
use Rattle.x86_encoding.specs.Operand as O
use Rattle.x86_encoding.specs.declared.operand.Rex.{Rex}
use Rattle.x86_encoding.specs.declared.operand.Modrm.{Modrm}

-- one byte, and a number of n bytes
abbrev pub Reads1 : Lent → (at : ℕ) → Option (ℕ × ℕ) → Type 0
Reads1 code at r = drop at code.entry.now ≡ B.byte_is code.entry.now r

abbrev pub ReadsNumber : Lent → (at n : ℕ) → Option (ℕ × ℕ) → Type 0
ReadsNumber code at n r = B.ReadsNumber n code.entry.now at r

-- REX and the opcode
abbrev pub Heads : Lent → (at : ℕ) → Option (Rex × ℕ × ℕ) → Type 0
Heads code at r = O.Heads code.entry.now at r

-- a displacement of one byte, and the one that the ModRM m asks for
abbrev pub ReadsShort : Lent → (at : ℕ) → Option (ℕ × ℕ) → Type 0
ReadsShort code at r = O.ReadsShort code.entry.now at r

abbrev pub Displaces : Lent → (at m : ℕ) → Option (ℕ × ℕ) → Type 0
Displaces code at m r = O.Displaces code.entry.now at m r

-- ModRM behind the REX x, and the operand that it names
abbrev pub Operands : Lent → (at : ℕ) → Rex → Option (Modrm × ℕ) → Type 0
Operands code at x r = O.Operands (O.rex_is x) code.entry.now at r
