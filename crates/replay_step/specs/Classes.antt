-- What a slot of a class computes, by its operation, the upper half of the opcode: RFC 9669, sections 4.1 and 4.3, as the tables there have
-- them. That this is what `act` says of the opcode's kind is a law (proofs/ClassLaws.antt); an operation that there is not gives what no run asks
-- for.
use Rattle.std.specs.Prelude.{ℕ, ◌*◌, ◌%◌, ◌^◌, Bool, true, List, [], ◌∷◌, slice_index, slice_index_or}
use Rattle.base.specs.declared.Width.{Width}
use Rattle.base.specs.declared.Width.TheVariants.{W64}
use Rattle.ebpf.specs.declared.kind.Source.{Source}
use Rattle.ebpf.specs.declared.kind.Source.TheVariants.{Imm, Reg}
use Rattle.ebpf.specs.declared.kind.AluOp.TheVariants.{Add, Sub, Or, And, Xor}
use Rattle.ebpf.specs.declared.kind.ShiftOp.TheVariants.{Lsh, Rsh, Arsh}
use Rattle.ebpf.specs.declared.kind.MulOp.TheVariants.{Mul, Div, Mod}
use Rattle.ebpf.specs.declared.kind.Condition.TheVariants.{Jeq, Jgt, Jge, Jset, Jne, Jsgt, Jsge, Jlt, Jle, Jslt, Jsle}
use Rattle.ebpf_meaning.specs.Values.{alu_value, shift_value, mul_value, neg_value, le_value, be_value, met}

abbrev pub values : Width → (a b : ℕ) → List ℕ
values w a b =
    alu_value Add w a b
    ∷ alu_value Sub w a b
    ∷ mul_value Mul w a b
    ∷ mul_value Div w a b
    ∷ alu_value Or w a b
    ∷ alu_value And w a b
    ∷ shift_value Lsh w a b
    ∷ shift_value Rsh w a b
    ∷ neg_value w a
    ∷ mul_value Mod w a b
    ∷ alu_value Xor w a b
    ∷ b
    ∷ shift_value Arsh w a b
    ∷ []

abbrev pub value_by : Width → (operation a b : ℕ) → ℕ
value_by w operation a b = slice_index (values w a b) operation

-- byte swaps: the source K is LE, X is BE
abbrev pub swap_by : Source → (width a : ℕ) → ℕ
swap_by Imm width a = le_value width a
swap_by Reg width a = be_value width a

-- whether a jump is taken: operation 0 is JA; 8 and 9 are CALL and EXIT
abbrev pub conditions : (a b : ℕ) → List Bool
conditions a b =
    true
    ∷ met Jeq W64 a b
    ∷ met Jgt W64 a b
    ∷ met Jge W64 a b
    ∷ met Jset W64 a b
    ∷ met Jne W64 a b
    ∷ met Jsgt W64 a b
    ∷ met Jsge W64 a b
    ∷ true
    ∷ true
    ∷ met Jlt W64 a b
    ∷ met Jle W64 a b
    ∷ met Jslt W64 a b
    ∷ met Jsle W64 a b
    ∷ []

abbrev pub taken_by : (operation a b : ℕ) → Bool
taken_by operation a b = slice_index_or (conditions a b) operation true

-- a number of 32 bits in the upper half of one of 64
abbrev pub raised : ℕ → ℕ
raised x = x % 2 ^ 32 * 2 ^ 32
