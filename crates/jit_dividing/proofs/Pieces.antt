-- An operation on registers in its pieces: the divisor's guard, what is saved, the second operand, and the rest; and what standard mode puts
-- ahead of an operation.
use mathlib.Core.Path.{◌≡◌, ◌∙◌, refl, ap}
use mathlib.Core.Logic.{◌⊎◌, inl, inr}
use mathlib.Core.List.{List, [], ◌∷◌}
use Prim.Native.Nat.{ℕ, ◌+◌}
use native.Mathlib.Omega.{arith}
use lib.ListN.{length}
use Rattle.base.proofs.Lists.{empty}
use Rattle.base.specs.declared.Width.{Width}
use Rattle.base.specs.declared.Width.TheVariants.{W64}
use Rattle.ebpf.specs.declared.insn.Insn.{Insn}
use Rattle.ebpf.specs.declared.kind.Source.{Source}
use Rattle.ebpf.specs.declared.kind.MulOp.{MulOp}
use Rattle.ebpf.specs.declared.kind.Kind.TheVariants.{MulDivMod}
use Rattle.x86.specs.Registers.{RCX}
use Rattle.x86.specs.Instr.{op, alu, MOV}
use Rattle.x86.specs.Encode.{encode_plain}
use Rattle.x86.specs.Code.{size, targets_of}
use Rattle.x86.specs.Fill.{blanks}
use Rattle.x86.proofs.CodeLaws.{size-append, blanks-append, length-blanks}
use Rattle.x86_emit.specs.Wrote.{Wrote}
use Rattle.x86_emit.proofs.WroteLaws.{then}
use Rattle.ebpf.specs.declared.kind.MulOp.TheVariants.{Div, Mod}
use Rattle.jit.specs.MulDivMod.{Code, guard, saves, operate, operated, computed, mul_div_mod_reg}
use Rattle.jit.specs.declared.Mode.{Mode}
use Rattle.jit.specs.Slots.{cleared, mul_div_mod_code, slot_code}
use Rattle.jit.proofs.SlotSize.{computed-none, cleared-jumps}
use Rattle.jit_recording.specs.Emits.{Tables, Emits}
use Rattle.jit_recording.proofs.EmitsLaws.{plainly, emits_then}

module _ (m : Mode) (o : MulOp) (slot : ℕ) (w : Width) (src dst : ℕ) where
  -- the guard, and what follows it
  abbrev guarded : Code
  guarded = guard m o slot w src dst

  abbrev unguarded : Code
  unguarded = computed o w (op (alu MOV W64 src RCX) ∷ []) dst

  -- what follows the saves
  abbrev moved : Code
  moved = op (alu MOV W64 src RCX) ∷ operated o w dst

  -- the pieces' sizes
  pub sizes : (size (mul_div_mod_reg m o slot w src dst) ≡ size guarded + (size (saves dst) + size moved))
      × ((length (blanks guarded) ≡ size guarded) × (length (blanks (saves dst)) ≡ size (saves dst)))
  sizes = (
    size-append guarded unguarded ∙ ap (λ (k : ℕ). size guarded + k) (size-append (saves dst) moved),
    (length-blanks guarded, length-blanks (saves dst)),
  )

  -- what the pieces emit, one behind another
  pub pieces : {c c₁ c₂ c₃ c₄ : List ℕ} {t t' : Tables} {at j at₁ j' at₂ at₃ at₄ maker : ℕ}
      → Emits c c₁ t t' at j at₁ j' maker guarded
      → Wrote c₁ c₂ at₁ at₂ (blanks (saves dst))
      → Wrote c₂ c₃ at₂ at₃ (encode_plain (alu MOV W64 src RCX))
      → Wrote c₃ c₄ at₃ at₄ (blanks (operated o w dst))
      → Emits c c₄ t t' at j at₄ j' maker (mul_div_mod_reg m o slot w src dst)
  pieces g s v r =
      let none = empty (targets_of unguarded) (computed-none o w (op (alu MOV W64 src RCX) ∷ []) dst (omega arith)) in
      emits_then guarded unguarded g (plainly unguarded none (rw (blanks-append (saves dst) moved) (then s (then v r))))

-- DIV and MOD are one instruction
pub divides : (o : MulOp) (w : Width) → (o ≡ Div) ⊎ (o ≡ Mod) → operate o w ≡ operate Div w
divides o w (inl e) = rw e refl
divides o w (inr e) = rw e refl

-- what standard mode puts ahead, and the operation
module _ (m : Mode) (o : MulOp) (w : Width) (s : Source) (slot : ℕ) (i : Insn) where
  abbrev first : Code
  first = cleared m o w s i

  abbrev operation : Code
  operation = mul_div_mod_code m o w s slot i

  pub ahead-sizes : (size (slot_code m (MulDivMod o w s) slot i 0) ≡ size first + size operation) × (length (blanks first) ≡ size first)
  ahead-sizes = (size-append first operation, length-blanks first)

  pub ahead : {c c₁ c₂ : List ℕ} {t t' : Tables} {at j at₁ at₂ j' maker : ℕ}
      → Wrote c c₁ at at₁ (blanks first)
      → Emits c₁ c₂ t t' at₁ j at₂ j' maker operation
      → Emits c c₂ t t' at j at₂ j' maker (slot_code m (MulDivMod o w s) slot i 0)
  ahead p q = emits_then first operation (plainly first (empty (targets_of first) (cleared-jumps m o w s i)) p) q
