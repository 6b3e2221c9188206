-- What arithmetic, moves, byte swaps and comparisons compute: RFC 9669, sections 4.1 to 4.3, over the width. Numbers of 64 or 32 bits that may
-- be negative are their two's complement. `a` is the value of dst and `b` the source operand, both cut to the width; a result is below
-- 2 ^ bits too, so that one of 32 bits, which is written as it is, clears the upper half: the RFC's '(u32)'.
-- A swap's width is 16, 32 or 64. Another means nothing: whoever goes by the RFC refuses such a slot before it is run (refusal 10), and what is
-- given here for it is nobody's.
use Rattle.std.specs.Prelude.{Bool, not, ℕ, zero, suc, ◌+◌, ◌*◌, ◌-◌, ◌/◌, ◌%◌, ◌^◌, leb, ltb, eqb}
use Rattle.std.specs.Int.Bits.{bit_and, bit_or, bit_xor}
use Rattle.base.specs.Pick.{pick}
use Rattle.base.specs.Widths.{bits}
use Rattle.base.specs.declared.Width.{Width}
use Rattle.ebpf.specs.declared.kind.AluOp.{AluOp}
use Rattle.ebpf.specs.declared.kind.AluOp.TheVariants.{Add, Sub, Or, And, Xor}
use Rattle.ebpf.specs.declared.kind.ShiftOp.{ShiftOp}
use Rattle.ebpf.specs.declared.kind.ShiftOp.TheVariants.{Lsh, Rsh, Arsh}
use Rattle.ebpf.specs.declared.kind.MulOp.{MulOp}
use Rattle.ebpf.specs.declared.kind.MulOp.TheVariants.{Mul, Div, Mod}
use Rattle.ebpf.specs.declared.kind.Condition.{Condition}
use Rattle.ebpf.specs.declared.kind.Condition.TheVariants.{Jeq, Jgt, Jge, Jset, Jne, Jsgt, Jsge, Jlt, Jle, Jslt, Jsle}

-- Operands. ALU and JMP32 use operands of 32 bits, ALU64 and JMP of 64 (4.1, 4.3).
abbrev pub cut : Width → ℕ → ℕ
cut w x = x % 2 ^ bits w

-- imm, of 32 bits, extended to the width by its sign (2.3); at 32 bits it is imm itself
abbrev pub immediate : Width → ℕ → ℕ
immediate w x = pick (ltb x (2 ^ 31)) x (x + (2 ^ bits w - 2 ^ 32))

-- Arithmetic (4.1, table). Sums, differences and products wrap.
unfoldable pub alu_value : AluOp → Width → (a b : ℕ) → ℕ
alu_value Add w a b = (a + b) % 2 ^ bits w
alu_value Sub w a b = (a + 2 ^ bits w - b) % 2 ^ bits w
alu_value Or w a b = bit_or a b
alu_value And w a b = bit_and a b
alu_value Xor w a b = bit_xor a b

unfoldable pub neg_value : Width → (a : ℕ) → ℕ
neg_value w a = (2 ^ bits w - a) % 2 ^ bits w

-- DIV and MOD are unsigned. DIV by zero gives 0. MOD by zero leaves a, which is dst cut to the width: at 64 bits dst is unchanged, at 32 bits
-- its lower half is left and its upper half becomes zero.
unfoldable pub mul_value : MulOp → Width → (a b : ℕ) → ℕ
mul_value Mul w a b = a * b % 2 ^ bits w
mul_value Div w a b = pick (eqb b 0) 0 (a / b)
mul_value Mod w a b = pick (eqb b 0) a (a % b)

-- the highest bit
abbrev pub negative : Width → ℕ → Bool
negative w a = leb (2 ^ bits w) (2 * a)

-- a count is masked with 0x3f, at 32 bits with 0x1f: it is its remainder by the width; ARSH fills with the sign
unfoldable pub shift_value : ShiftOp → Width → (a b : ℕ) → ℕ
shift_value Lsh w a b = a * 2 ^ (b % bits w) % 2 ^ bits w
shift_value Rsh w a b = a / 2 ^ (b % bits w)
shift_value Arsh w a b = a / 2 ^ (b % bits w) + pick (negative w a) (2 ^ bits w - 2 ^ (bits w - b % bits w)) 0

-- Byte swaps (4.2, 2.2), on a host whose byte order is little-endian: to LE only cuts, to BE turns the bytes round.
unfoldable pub le_value : (width : ℕ) → (a : ℕ) → ℕ
le_value n a = a % 2 ^ n

-- the lowest n bytes in reverse
unfoldable pub reversed : (n : ℕ) → ℕ → ℕ
reversed zero x = 0
reversed (suc n) x = x % 256 * 256 ^ n + reversed n (x / 256)

unfoldable pub be_value : (width : ℕ) → (a : ℕ) → ℕ
be_value n a = reversed (n / 8) a

-- Conditions (4.3, table). Signed order is the order of the numbers moved up by half of their range.
abbrev pub signed : Width → ℕ → ℕ
signed w a = (a + 2 ^ (bits w - 1)) % 2 ^ bits w

unfoldable pub met : Condition → Width → (a b : ℕ) → Bool
met Jeq w a b = eqb a b
met Jgt w a b = ltb b a
met Jge w a b = leb b a
met Jset w a b = not (eqb (bit_and a b) 0)
met Jne w a b = not (eqb a b)
met Jsgt w a b = ltb (signed w b) (signed w a)
met Jsge w a b = leb (signed w b) (signed w a)
met Jlt w a b = ltb a b
met Jle w a b = leb a b
met Jslt w a b = ltb (signed w a) (signed w b)
met Jsle w a b = leb (signed w a) (signed w b)
