-- What the contract of emit_muldivmod_reg rules out of a guard's record: DIV's jump under MOD's kind and the other way round, and a maker one
-- slot late; that of emit_muldivmod in standard mode: MOD32 without its move, or with one of 64 bits; and both of theirs in compact mode: the
-- slot's number in the Rust's form, and -1 in one that does not extend it.
use mathlib.Core.Path.{◌≡◌, refl, ap}
use mathlib.Core.Bool.{Bool, true, false}
use mathlib.Core.List.{List, [], ◌∷◌}
use Prim.Native.Nat.{ℕ, ◌+◌, ◌^◌, ◌<◌}
use native.Mathlib.Omega.{arith}
use lib.ListN.{get_or}
use borrow.Author.Tests.{lt-ltb}
use Rattle.base.specs.Bytes.{join}
use Rattle.base.specs.declared.Width.{Width}
use Rattle.base.specs.declared.Width.TheVariants.{W32, W64}
use Rattle.ebpf.specs.declared.insn.Insn.{Insn}
use Rattle.ebpf.specs.declared.kind.Kind.TheVariants.{MulDivMod}
use Rattle.ebpf.specs.declared.kind.Source.TheVariants.{Imm, Reg}
use Rattle.ebpf.specs.declared.kind.MulOp.TheVariants.{Div, Mod}
use Rattle.x86.specs.Registers.{RAX, RCX, RSI, RDI}
use Rattle.x86.specs.Instr.{op, alu, alu_imm, mov_imm, MOV}
use Rattle.x86.specs.Encode.{rex, modrm}
use Rattle.x86.specs.Fill.{blanks}
use Rattle.x86.specs.Code.{conditional, plain_jump}
use Rattle.jit.specs.declared.Mode.{Mode}
use Rattle.jit.specs.MulDivMod.{computed, mul_div_mod_reg}
use Rattle.jit.specs.Modes.{rust, standard}
use Rattle.jit.specs.Slots.{reg_of, slot_code}
use Rattle.x86_emit.proofs.Useless.{Stored, meant, Case, ◌for◌, Refuted, refuted}
use Rattle.jit_recording.specs.Emits.{Tables, Emits, HasEntry}
use Rattle.jit_recording.proofs.EmitsLaws.{entry}

-- r1 modulo r2
abbrev moved : Insn
moved = record { opc = 0x9c; dst = 1; src = 2; off = 0; imm = 0 }

-- r1 over -1
abbrev negative : Insn
negative = record { opc = 0x37; dst = 1; src = 0; off = 0; imm = 0xffffffff }

-- compact, without standard mode and in it
abbrev compact : Bool → Mode
compact b = record { standard = b; compact = true }

module _ {c c' : List ℕ} {t t' : Tables} {at j at' j' : ℕ} where
  -- r0 over r1: the jump that is recorded is the one behind the cleared r0, and not the one that skips it
  pub div-named : (m : Mode) (slot : ℕ) (w : Width) → Emits c c' t t' at j at' j' slot (mul_div_mod_reg m Div slot w RDI RAX) → HasEntry t j
      → (get_or t'.kinds j 0 ≡ conditional → ⊥) × (get_or t'.makers j 0 ≡ slot + 1 → ⊥)
  div-named m slot w e h = (λ z. omega (arith, z, entry e.kinds h.kind), λ z. omega (arith, z, entry e.makers h.maker))

  pub mod-named : (m : Mode) (slot : ℕ) (w : Width) → Emits c c' t t' at j at' j' slot (mul_div_mod_reg m Mod slot w RDI RAX) → HasEntry t j
      → (get_or t'.kinds j 0 ≡ plain_jump → ⊥) × (get_or t'.makers j 0 ≡ slot + 1 → ⊥)
  mod-named m slot w e h = (λ z. omega (arith, z, entry e.kinds h.kind), λ z. omega (arith, z, entry e.makers h.maker))

  -- in slot 0
  pub mod32-moves : Emits c c' t t' at j at' j' 0 (slot_code standard (MulDivMod Mod W32 Reg) 0 moved 0)
      → (Stored c c' at at' (blanks (mul_div_mod_reg standard Mod 0 W32 RSI RDI)) → ⊥)
      × (Stored c c' at at' (blanks (op (alu MOV W64 RDI RDI) ∷ mul_div_mod_reg standard Mod 0 W32 RSI RDI)) → ⊥)
  unfolding rex modrm reg_of
  mod32-moves e = (λ s. omega (arith, ap join (meant e.wrote s)), λ s. omega (arith, ap join (meant e.wrote s)))

  -- compact: the first byte is not REX.W, which C7 has here
  pub div-numbered : (b : Bool) (slot : ℕ) (w : Width) → slot < 2 ^ 31 → Emits c c' t t' at j at' j' slot (mul_div_mod_reg (compact b) Div slot w RDI RAX)
      → Stored c c' at at' (blanks (mul_div_mod_reg rust Div slot w RDI RAX)) → ⊥
  unfolding rex modrm
  div-numbered b slot w h e s =
      let short = rw (lt-ltb slot (2 ^ 31) h) at e.wrote in
      omega (arith, ap (λ (l : List ℕ). get_or l 0 0) (meant short s))

  pub mod-numbered : (b : Bool) (slot : ℕ) (w : Width) → slot < 2 ^ 31 → Emits c c' t t' at j at' j' slot (mul_div_mod_reg (compact b) Mod slot w RDI RAX)
      → Stored c c' at at' (blanks (mul_div_mod_reg rust Mod slot w RDI RAX)) → ⊥
  unfolding rex modrm
  mod-numbered b slot w h e s =
      let short = rw (lt-ltb slot (2 ^ 31) h) at e.wrote in
      omega (arith, ap (λ (l : List ℕ). get_or l 0 0) (meant short s))

-- .. and -1 without REX.W, which would be 4,294,967,295: as B8+r and as C7
abbrev pub unextended : Bool → List Case
unextended b =
    blanks (computed Div W64 (op (mov_imm W32 RCX 0xffffffff) ∷ []) RDI) for blanks (slot_code (compact b) (MulDivMod Div W64 Imm) 0 negative 0)
    ∷ blanks (computed Div W64 (op (alu_imm MOV W32 RCX 0xffffffff) ∷ []) RDI) for blanks (slot_code (compact b) (MulDivMod Div W64 Imm) 0 negative 0)
    ∷ []

pub div-extends : (b : Bool) → Refuted (unextended b)
unfolding rex modrm reg_of
div-extends true = refuted (unextended true) refl
div-extends false = refuted (unextended false) refl
