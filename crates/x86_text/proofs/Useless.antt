-- What the contracts of the Intel texts rule out: wrong texts of an instruction, and a wrong place behind one, in a line of 40 bytes.
use mathlib.Core.Path.{◌≡◌, refl, ap}
use native.Mathlib.Omega.{arith}
use Rattle.base.specs.declared.Width.TheVariants.{W32, W64}
use Rattle.base.specs.declared.Size.TheVariants.{S8, S64}
use Rattle.x86_instructions.specs.declared.Alu.{Alu}
use Rattle.x86_instructions.specs.declared.Cond.{Cond}
use Rattle.x86_instructions.specs.declared.Jump.{Jump}
use Rattle.x86_instructions.specs.declared.Instruction.{Instruction}
use Rattle.text.specs.Text.{ascii}
use Rattle.text.specs.Numerals.{decimal, hex}
use Rattle.text.proofs.Wrong.{told, Puts, Never}
use Rattle.x86_registers.specs.Registers.{register_text, stem_text}
use Rattle.x86_operands.specs.Operands.{destination_of, displacement_text, memory_text, pair_text, with_constant_text, load_text}
use Rattle.x86_text.specs.Intel.{mnemonic_text, instruction_text}

-- mov edi, eax
abbrev mov_edi_eax : Instruction
mov_edi_eax = Instruction.Alu Alu.Mov W32 0 7

-- mov rax, [rdi - 128]
abbrev load_rax : Instruction
load_rax = Instruction.Load S64 7 0 0xffffff80

-- a jump over 16 bytes; its own last byte stands before 37
abbrev jmp16 : Instruction
jmp16 = Instruction.Jump Jump.Jmp 16

-- mov r8d, 0x80000000, which has B8+r with four bytes, and the same number with eight
abbrev constant32 : Instruction
constant32 = Instruction.MovImm W32 8 0x80000000

abbrev constant64 : Instruction
constant64 = Instruction.MovImm W64 8 0x80000000

-- their right texts
pub right :
    (instruction_text mov_edi_eax 0 ≡ ascii "mov edi,eax")
    × ((instruction_text load_rax 0 ≡ ascii "mov rax,QWORD PTR [rdi-0x80]") × (instruction_text jmp16 37 ≡ ascii "jmp 0x35"))
unfolding instruction_text pair_text register_text stem_text load_text memory_text displacement_text hex destination_of
right = (refl, (refl, refl))

pub right-constants :
    (instruction_text constant32 0 ≡ ascii "mov r8d,0x80000000") × (instruction_text constant64 0 ≡ ascii "movabs r8,0x80000000")
unfolding instruction_text with_constant_text register_text stem_text decimal hex
right-constants = (refl, refl)

-- the operands swapped; 64-bit names; a place one byte late
pub moves :
    Never (instruction_text mov_edi_eax 0) "mov eax,edi"
    × (Never (instruction_text mov_edi_eax 0) "mov rdi,rax" × (Puts (instruction_text mov_edi_eax 0) "mov edi,eax" 12 → ⊥))
unfolding instruction_text pair_text register_text stem_text
moves = (λ k s. omega (arith, ap told s.text), (λ k s. omega (arith, ap told s.text), λ s. omega (arith, s.next)))

-- A constant of four bytes called MOVABS; with the 64-bit name; extended by its sign. One of eight called MOV, which is C7's text.
pub constants :
    Never (instruction_text constant32 0) "movabs r8d,0x80000000"
    × (Never (instruction_text constant32 0) "mov r8,0x80000000"
    × (Never (instruction_text constant32 0) "mov r8d,0xffffffff80000000" × Never (instruction_text constant64 0) "mov r8,0x80000000"))
unfolding instruction_text with_constant_text register_text stem_text decimal hex
constants = (
  λ k s. omega (arith, ap told s.text),
  (λ k s. omega (arith, ap told s.text), (λ k s. omega (arith, ap told s.text), λ k s. omega (arith, ap told s.text))),
)

-- A negative displacement written as a large one; a load whose base and destination are swapped.
pub loads :
    Never (instruction_text load_rax 0) "mov rax,QWORD PTR [rdi+0xffffff80]"
    × Never (instruction_text load_rax 0) "mov rdi,QWORD PTR [rax-0x80]"
unfolding instruction_text load_text memory_text displacement_text register_text stem_text hex
loads = (λ k s. omega (arith, ap told s.text), λ k s. omega (arith, ap told s.text))

-- A jump's field given for its destination; the destination counted from its opcode.
pub jumps :
    Never (instruction_text jmp16 37) "jmp 0x10" × Never (instruction_text jmp16 37) "jmp 0x30"
unfolding instruction_text destination_of hex
jumps = (λ k s. omega (arith, ap told s.text), λ k s. omega (arith, ap told s.text))

-- `put_mnemonic`: JE named JNE; a byte's load named MOV; a space behind RET; a place one byte late
pub mnemonics :
    Never (mnemonic_text (Instruction.Jump (Jump.Jcc Cond.Je) 0)) "jne "
    × (Never (mnemonic_text (Instruction.Load S8 7 0 0)) "mov "
    × (Never (mnemonic_text Instruction.Ret) "ret " × (Puts (mnemonic_text Instruction.Ret) "ret" 4 → ⊥)))
mnemonics = (
  λ k s. omega (arith, ap told s.text),
  (λ k s. omega (arith, ap told s.text), (λ k s. omega (arith, ap told s.text), λ s. omega (arith, s.next))),
)
