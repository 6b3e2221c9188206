-- What the handlers' contracts rule out: for each, two wrong handlers and an instruction that shows the difference. Where the contract is
-- `Wrote` of some bytes, other bytes do not meet it on any page; where it is `Emits`, neither do a wrong target, field or count of jumps.
use mathlib.Core.Path.{◌≡◌, ◌∙◌, refl, ap, sym}
use mathlib.Core.Logic.{◌≢◌}
use mathlib.Core.List.{List, [], ◌∷◌}
use Prim.Native.Nat.{ℕ, ◌+◌, ◌-◌, ◌%◌, ◌^◌}
use native.Mathlib.Omega.{arith}
use lib.ListN.{get_or}
use Rattle.base.specs.Bytes.{join}
use Rattle.base.specs.declared.Width.{Width}
use Rattle.base.specs.declared.Width.TheVariants.{W32, W64}
use Rattle.base.specs.declared.Size.TheVariants.{S8, S16, S32, S64}
use Rattle.ebpf.specs.Kinds.{alu_of, shift_of, condition_of}
use Rattle.ebpf.specs.declared.insn.Insn.{Insn}
use Rattle.ebpf.specs.declared.kind.Source.{Source}
use Rattle.ebpf.specs.declared.kind.Source.TheVariants.{Imm, Reg}
use Rattle.ebpf.specs.declared.kind.Kind.TheVariants.{LdAbs, LdInd, LdDwImm, LdReg, StImm, StReg, Neg, Le, Ja}
use Rattle.x86.specs.Registers.{RAX, RBP, RSI, RDI, R10, R11, R13}
use Rattle.x86.specs.Instr as x86
use Rattle.x86.specs.Instr.{op, alu, alu_imm, shift_imm, shift_cl, unary, mov_imm, rol16, bswap, load, store, store_imm, jump, jcc, call_reg, NEG, ADD, AND, SUB, CMP, MOV, SHR, JG, JA, JNE}
use Rattle.x86.specs.Encode.{encode_plain, rex, modrm, memory, bare, short}
use Rattle.x86.specs.Code.{to, conditional, plain_jump}
use Rattle.x86.specs.Fill.{blanks}
use Rattle.jit.specs.MulDivMod.{Code}
use Rattle.jit.specs.Modes.{rust, standard, compact}
use Rattle.jit.specs.Constants.{load_imm, loaded}
use Rattle.jit.specs.Slots.{reg_of, target_of, alu_code, shift_code, mov_code, swap, jump_code, call_code, slot_code}
use Rattle.jit_recording.specs.Emits.{Tables, Emits, HasEntry}
use Rattle.jit_recording.proofs.EmitsLaws.{entry}
use Rattle.x86_emit.proofs.Useless.{Stored, meant, Case, ◌for◌, Refuted, refuted}

-- r1 is RDI, r2 RSI; the opcode only where a handler looks at it
abbrev coded : (opc dst src off imm : ℕ) → Insn
coded opc dst src off imm = record { opc = opc; dst = dst; src = src; off = off; imm = imm }

abbrev insn : (dst src off imm : ℕ) → Insn
insn = coded 0

-- what is promised by the handlers that do
abbrev arithmetic : Width → Source → Insn → List ℕ
arithmetic w s i = blanks (alu_code (alu_of i.opc) w s i)

abbrev shifts : Width → Source → Insn → List ℕ
shifts w s i = blanks (shift_code (shift_of i.opc) w s i)

abbrev jump_at : ℕ → Width → Source → Insn → Code
jump_at slot w s i = jump_code (condition_of i.opc) w s slot i

abbrev plain : x86.Plain → List ℕ
plain p = blanks (op p ∷ [])

abbrev pub handled : List Case
handled =
    -- emit_arithmetic: ADD32_IMM at 64 bits; SUB64_REG with its operands swapped
    plain (alu_imm ADD W64 RDI 5) for arithmetic W32 Imm (coded 0x04 1 0 0 5)
    ∷ plain (alu SUB W64 RDI RSI) for arithmetic W64 Reg (coded 0x1f 1 2 0 0)
    -- emit_shift: a logical shift for ARSH64_IMM; a count of RSH32_REG that is left in its register
    ∷ plain (shift_imm SHR W64 RDI 3) for shifts W64 Imm (coded 0xc7 1 0 0 3)
    ∷ plain (shift_cl SHR W32 RDI) for shifts W32 Reg (coded 0x7c 1 2 0 0)
    -- emit_neg: at 64 bits; src for dst
    ∷ plain (unary NEG W64 RDI) for blanks (slot_code rust (Neg W32) 0 (insn 1 2 0 0) 0)
    ∷ plain (unary NEG W64 RSI) for blanks (slot_code rust (Neg W64) 0 (insn 1 2 0 0) 0)
    -- emit_mov: MOV32_IMM in the 64-bit form; MOV32_REG at 32 bits, which rbpf copies whole
    ∷ plain (alu_imm MOV W64 RDI 5) for blanks (mov_code rust W32 Imm (insn 1 0 0 5))
    ∷ plain (alu MOV W32 RSI RDI) for blanks (mov_code rust W32 Reg (insn 1 2 0 0))
    -- .. and in standard mode: MOV32_REG at 64 bits; its operands swapped
    ∷ plain (alu MOV W64 RSI RDI) for blanks (mov_code standard W32 Reg (insn 1 2 0 0))
    ∷ plain (alu MOV W32 RDI RSI) for blanks (mov_code standard W32 Reg (insn 1 2 0 0))
    -- emit_le: LE 16 with 0xff; LE 32 at 64 bits; LE 64 cut to 32; code with the mode off
    ∷ plain (alu_imm AND W32 RDI 0xff) for blanks (slot_code standard Le 0 (insn 1 0 0 16) 0)
    ∷ plain (alu MOV W64 RDI RDI) for blanks (slot_code standard Le 0 (insn 1 0 0 32) 0)
    ∷ plain (alu MOV W32 RDI RDI) for blanks (slot_code standard Le 0 (insn 1 0 0 64) 0)
    ∷ plain (alu_imm AND W32 RDI 0xffff) for blanks (slot_code rust Le 0 (insn 1 0 0 16) 0)
    -- emit_be: 16 bits whose upper ones are kept; 32 bits swapped as 64
    ∷ plain (rol16 RDI 8) for blanks (swap (reg_of 1) 16)
    ∷ plain (bswap W64 RDI) for blanks (swap (reg_of 1) 32)
    -- emit_ld_abs: off for imm; r1 for the packet's pointer
    ∷ plain (load S16 R10 RAX 0) for blanks (slot_code rust (LdAbs S16) 0 (insn 0 0 0 12) 0)
    ∷ plain (load S16 RDI RAX 12) for blanks (slot_code rust (LdAbs S16) 0 (insn 0 0 0 12) 0)
    -- emit_ld_ind: without the register's part; added to the packet's pointer itself
    ∷ blanks (op (alu MOV W64 R10 R11) ∷ op (load S8 R11 RAX 12) ∷ []) for blanks (slot_code rust (LdInd S8) 0 (insn 0 1 0 12) 0)
    ∷ blanks (op (alu ADD W64 RDI R10) ∷ op (load S8 R10 RAX 12) ∷ []) for blanks (slot_code rust (LdInd S8) 0 (insn 0 1 0 12) 0)
    -- emit_load_imm: 2147483648 in four bytes, which would be extended; -1 in eight
    ∷ plain (alu_imm MOV W64 RDI 0x80000000) for encode_plain (loaded rust (load_imm RDI 0x80000000))
    ∷ plain (mov_imm W64 RDI 0xffffffffffffffff) for encode_plain (loaded rust (load_imm RDI 0xffffffffffffffff))
    -- .. and compact: 2 ^ 32 taken as short; 2147483648 with eight bytes; -1 without REX.W; R13 without REX.B, which is RBP
    ∷ plain (mov_imm W32 RDI 0) for encode_plain (loaded compact (load_imm RDI 0x100000000))
    ∷ plain (mov_imm W64 RDI 0x80000000) for encode_plain (loaded compact (load_imm RDI 0x80000000))
    ∷ plain (mov_imm W32 RDI 0xffffffff) for encode_plain (loaded compact (load_imm RDI 0xffffffffffffffff))
    ∷ plain (mov_imm W32 RBP 5) for encode_plain (loaded compact (load_imm R13 5))
    -- emit_mov, compact: MOV64_IMM of -1 and of 2147483648, which are negative, shortened; MOV32_IMM shortened
    ∷ plain (mov_imm W32 RDI 0xffffffff) for blanks (mov_code compact W64 Imm (insn 1 0 0 0xffffffff))
    ∷ plain (mov_imm W32 RDI 0x80000000) for blanks (mov_code compact W64 Imm (insn 1 0 0 0x80000000))
    ∷ plain (mov_imm W32 RDI 5) for blanks (mov_code compact W32 Imm (insn 1 0 0 5))
    -- emit_ld_dw_imm: the lower half alone; into src
    ∷ plain (alu_imm MOV W64 RDI 7) for blanks (slot_code rust LdDwImm 0 (insn 1 0 0 7) 0x100000007)
    ∷ plain (alu_imm MOV W64 RAX 7) for blanks (slot_code rust LdDwImm 0 (insn 1 0 0 7) 7)
    -- emit_ld_reg: dst for the base; four bytes for two
    ∷ plain (load S64 RDI RSI 4) for blanks (slot_code rust (LdReg S64) 0 (insn 1 2 4 0) 0)
    ∷ plain (load S32 RSI RDI 4) for blanks (slot_code rust (LdReg S16) 0 (insn 1 2 4 0) 0)
    -- emit_st_imm: imm for off; four bytes of a one-byte constant
    ∷ plain (store_imm S32 RDI 9 4) for blanks (slot_code rust (StImm S32) 0 (insn 1 0 4 9) 0)
    ∷ plain (store_imm S32 RDI 4 9) for blanks (slot_code rust (StImm S8) 0 (insn 1 0 4 9) 0)
    -- emit_st_reg: src for the base; a byte store without its REX, which would store BH for RDI
    ∷ plain (store S32 RDI RSI 4) for blanks (slot_code rust (StReg S32) 0 (insn 1 2 4 0) 0)
    ∷ (0x88 ∷ 0x7e ∷ 0x04 ∷ []) for blanks (slot_code rust (StReg S8) 0 (insn 2 1 4 0) 0)
    ∷ []

pub handlers : Refuted handled
unfolding rex modrm memory bare short reg_of load_imm
handlers = refuted handled refl

module _ {c c' : List ℕ} {t t' : Tables} {at j at' j' : ℕ} where
  -- emit_ja: a target counted from its own slot, a field that is the jump's end, a jump that is not counted
  pub ja : (slot : ℕ) (i : Insn) → Emits c c' t t' at j at' j' slot (slot_code rust Ja slot i 0) → HasEntry t j
      → (get_or t'.targets j 0 ≡ (slot + i.off) % 2 ^ 32 → ⊥) × ((get_or t'.fields j 0 ≡ at' → ⊥) × (j' ≡ j → ⊥))
  unfolding target_of
  ja slot i e h =
      (λ z. omega (arith, z, entry e.targets h.target), (λ z. omega (arith, z, entry e.fields h.field, e.wrote.next), λ z. omega (arith, z, e.targets.next)))

  -- emit_jump: JGT_REG32 compared at 64 bits, and taken as signed; JSET_IMM compared and not tested; the target and the field as above
  pub jumps : (slot : ℕ) → Emits c c' t t' at j at' j' slot (jump_at slot W32 Reg (coded 0x2e 1 2 3 0))
      → (Stored c c' at at' (blanks (op (alu CMP W64 RSI RDI) ∷ jump (jcc JA) (to 0) ∷ [])) → ⊥)
      × (Stored c c' at at' (blanks (op (alu CMP W32 RSI RDI) ∷ jump (jcc JG) (to 0) ∷ [])) → ⊥)
  unfolding rex modrm reg_of
  jumps slot e = (λ s. omega (arith, ap join (meant e.wrote s)), λ s. omega (arith, ap join (meant e.wrote s)))

  pub jset : (slot : ℕ) → Emits c c' t t' at j at' j' slot (jump_at slot W64 Imm (coded 0x45 1 0 3 4)) → HasEntry t j
      → (Stored c c' at at' (blanks (op (alu_imm CMP W64 RDI 4) ∷ jump (jcc JNE) (to 0) ∷ [])) → ⊥)
      × ((get_or t'.targets j 0 ≡ (slot + 3) % 2 ^ 32 → ⊥) × (get_or t'.fields j 0 ≡ at' → ⊥))
  unfolding rex modrm reg_of target_of
  jset slot e h = (
    λ s. omega (arith, ap join (meant e.wrote s)),
    (λ z. omega (arith, z, entry e.targets h.target), λ z. omega (arith, z, entry e.fields h.field, e.wrote.next)),
  )

  -- emit_call of a helper: its fourth argument left where it is, its call listed
  pub helper : (slot : ℕ) → Emits c c' t t' at j at' j' slot (call_code rust slot (insn 0 0 0 3) 7)
      → (Stored c c' at at' (blanks (op (alu_imm MOV W64 RAX 7) ∷ call_reg RAX ∷ [])) → ⊥) × (j' ≡ j + 1 → ⊥)
  unfolding rex modrm load_imm
  helper slot e = (λ s. omega (arith, ap join (meant e.wrote s)), λ z. omega (arith, z, e.targets.next))

  -- and within the program: a target by off, which is 0 here, a field that is the slot's end, registers that are not restored
  pub local : (slot : ℕ) → Emits c c' t t' at j at' j' slot (call_code rust slot (insn 0 1 0 3) 0) → HasEntry t j
      → (get_or t'.targets j 0 ≡ (slot + 1) % 2 ^ 32 → ⊥) × ((get_or t'.fields j 0 ≡ at' - 4 → ⊥) × (at' ≡ at + 12 → ⊥))
  unfolding rex modrm target_of
  local slot e h =
      (λ z. omega (arith, z, entry e.targets h.target), (λ z. omega (arith, z, entry e.fields h.field, e.wrote.next), λ z. omega (arith, z, e.wrote.next)))

  -- their records: je and jmp of one kind, a call that is a jump, a maker one slot late or none
  pub ja-named : (slot : ℕ) (i : Insn) → Emits c c' t t' at j at' j' slot (slot_code rust Ja slot i 0) → HasEntry t j
      → (get_or t'.kinds j 0 ≡ conditional → ⊥) × ((get_or t'.makers j 0 ≡ slot + 1 → ⊥) × (t'.makers ≡ t.makers → get_or t.makers j 0 ≢ slot → ⊥))
  ja-named slot i e h = (
    λ z. omega (arith, z, entry e.kinds h.kind),
    (
      λ z. omega (arith, z, entry e.makers h.maker),
      λ z n. n (ap (λ (l : List ℕ). get_or l j 0) (sym z) ∙ entry e.makers h.maker),
    ),
  )

  pub jump-named : (slot : ℕ) → Emits c c' t t' at j at' j' slot (jump_at slot W32 Reg (coded 0x2e 1 2 3 0)) → HasEntry t j
      → (get_or t'.kinds j 0 ≡ plain_jump → ⊥) × (get_or t'.makers j 0 ≡ slot + 1 → ⊥)
  jump-named slot e h = (λ z. omega (arith, z, entry e.kinds h.kind), λ z. omega (arith, z, entry e.makers h.maker))

  pub local-named : (slot : ℕ) → Emits c c' t t' at j at' j' slot (call_code rust slot (insn 0 1 0 3) 0) → HasEntry t j
      → (get_or t'.kinds j 0 ≡ plain_jump → ⊥) × (get_or t'.makers j 0 ≡ slot + 1 → ⊥)
  local-named slot e h = (λ z. omega (arith, z, entry e.kinds h.kind), λ z. omega (arith, z, entry e.makers h.maker))
