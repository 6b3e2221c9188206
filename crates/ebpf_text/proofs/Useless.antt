-- What the contract of `put_slot` rules out: wrong texts of a slot, and a wrong place behind one, in a line of 40 bytes.
use mathlib.Core.Path.{◌≡◌, refl, ap}
use mathlib.Core.List.{List, [], ◌∷◌}
use Prim.Native.Nat.{ℕ}
use native.Mathlib.Omega.{arith}
use Rattle.ebpf.specs.Insn.{insn_at, read_at}
use Rattle.ebpf.specs.Opcode.{kind_of}
use Rattle.text.specs.Text.{ascii}
use Rattle.text.specs.Numerals.{decimal, hex}
use Rattle.text.proofs.Wrong.{told, Puts, Never}
use Rattle.ebpf_fields.specs.Fields.{fields_at}
use Rattle.ebpf_statements.specs.Statements.{binary, store_reg_text, wide_text}
use Rattle.ebpf_text.specs.Assembler.{jump_text, high_of, slot_text}

-- MOV32_IMM w1, 5: the width's letter; a place one byte late
abbrev moves : List ℕ
moves = 0xb4 ∷ 0x01 ∷ 0 ∷ 0 ∷ 5 ∷ 0 ∷ 0 ∷ 0 ∷ []

pub mov : Never (slot_text moves 0) "r1 = 5" × (Puts (slot_text moves 0) "w1 = 5" 7 → ⊥)
unfolding slot_text fields_at read_at insn_at kind_of high_of binary decimal
mov = (λ k s. omega (arith, ap told s.text), λ s. omega (arith, s.next))

-- JSGT_REG r1, r2, -2: its operands swapped; taken as unsigned; a distance without its sign
abbrev leaps : List ℕ
leaps = 0x6d ∷ 0x21 ∷ 0xfe ∷ 0xff ∷ 0 ∷ 0 ∷ 0 ∷ 0 ∷ []

pub jump :
    Never (slot_text leaps 0) "if r2 s> r1 goto -2"
    × (Never (slot_text leaps 0) "if r1 > r2 goto -2" × Never (slot_text leaps 0) "if r1 s> r2 goto +65534")
unfolding slot_text fields_at read_at insn_at kind_of high_of jump_text binary decimal
jump = (λ k s. omega (arith, ap told s.text), (λ k s. omega (arith, ap told s.text), λ k s. omega (arith, ap told s.text)))

-- STX_H [r1 + 4], r2: a word's size; src for the base
abbrev stores : List ℕ
stores = 0x6b ∷ 0x21 ∷ 4 ∷ 0 ∷ 0 ∷ 0 ∷ 0 ∷ 0 ∷ []

pub store : Never (slot_text stores 0) "*(u32 *)(r1 + 4) = r2" × Never (slot_text stores 0) "*(u16 *)(r2 + 4) = r1"
unfolding slot_text fields_at read_at insn_at kind_of high_of store_reg_text decimal
store = (λ k s. omega (arith, ap told s.text), λ k s. omega (arith, ap told s.text))

-- LD_DW_IMM r1, 0x100000007: its second half lost; the halves swapped
abbrev loads : List ℕ
loads = 0x18 ∷ 0x01 ∷ 0 ∷ 0 ∷ 7 ∷ 0 ∷ 0 ∷ 0 ∷ 0 ∷ 0 ∷ 0 ∷ 0 ∷ 1 ∷ 0 ∷ 0 ∷ 0 ∷ []

pub wide : Never (slot_text loads 0) "r1 = 0x7 ll" × Never (slot_text loads 0) "r1 = 0x700000001 ll"
unfolding slot_text fields_at read_at insn_at kind_of high_of wide_text decimal hex
wide = (λ k s. omega (arith, ap told s.text), λ k s. omega (arith, ap told s.text))

-- the right texts of the slots above
pub right :
    (slot_text moves 0 ≡ ascii "w1 = 5")
    × ((slot_text leaps 0 ≡ ascii "if r1 s> r2 goto -2")
    × ((slot_text stores 0 ≡ ascii "*(u16 *)(r1 + 4) = r2") × (slot_text loads 0 ≡ ascii "r1 = 0x100000007 ll")))
unfolding slot_text fields_at read_at insn_at kind_of high_of jump_text store_reg_text wide_text hex binary decimal
right = (refl, (refl, (refl, refl)))
