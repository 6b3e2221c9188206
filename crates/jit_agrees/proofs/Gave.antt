-- What it says of a slot that its step gave a block (`step_at`): its registers are good, its operand is there, and the block has its code.
use Rattle.std.proofs.Common.{Some}
use mathlib.Core.Path.{◌≡◌, refl}
use mathlib.Core.Bool.{Bool, true, false}
use Prim.Native.Nat.{ℕ, ◌+◌}
use native.Mathlib.Omega.{arith}
use lib.Dec.{T}
use Rattle.base.specs.Pick.{pick}
use Rattle.base.proofs.Tests.{true-T}
use Rattle.ebpf.specs.Insn.{read_at}
use Rattle.ebpf.specs.Opcode.{kind_of}
use Rattle.ebpf.specs.declared.insn.Insn.{Insn}
use Rattle.ebpf.specs.declared.kind.Kind.{Kind}
use Rattle.ebpf.specs.declared.kind.Kind.TheVariants.{Le, Be}
use Rattle.ebpf.specs.declared.kind.Lookup.TheVariants.{Known}
use Rattle.jit.specs.declared.Refusal.{Refusal}
use Rattle.jit.specs.Translation.{Filter, at, Block, block_of, Operand, lacks, has, swap_bits, operand_of, stop, go, taken}
use Rattle.jit.specs.Translation.{good_registers, step_at}

-- One slot.
module _ (filter : Filter) (slot : ℕ) (i : Insn) (k : Kind) where
  abbrev operand : Operand
  operand = operand_of filter k slot i (read_at filter.program (slot + 1))

  pub record Gave (b : Block) : Type 0 where
    pub value : ℕ
    pub same : b ≡ block_of filter.mode k slot i value
    pub good : T (good_registers i)
    pub has-operand : operand ≡ has value

  pub gave : (b : Block) → read_at filter.program slot ≡ Some i → kind_of i.opc ≡ Known k → step_at filter slot ≡ go b → Gave b
  unfolding step_at
  gave b read kind e = by (good_registers i) operand refl refl (rw (read, kind) at e)
    where
      by : (t : Bool) (o : Operand) → good_registers i ≡ t → operand ≡ o
          → pick t (taken filter.mode k slot i o) (stop (Refusal.BadRegister (at slot))) ≡ go b → Gave b
      by true (has v) q o e = record { value = v; same = cc; good = true-T _ q; has-operand = o }
      by true (lacks r) q o e = let z : ◌≡◌ {A = ℕ} 0 1 = cc in absurd (omega arith)
      by false o q p e = let z : ◌≡◌ {A = ℕ} 0 1 = cc in absurd (omega arith)

  taken-swap : (t : Bool) (r : Refusal) (v : ℕ) → pick t (has 0) (lacks r) ≡ has v → T t
  taken-swap true r v e = tt
  taken-swap false r v e = let z : ◌≡◌ {A = ℕ} 0 1 = cc in absurd (omega arith)

  -- a swap's width is 16, 32 or 64
  pub le-fine : (v : ℕ) → filter.mode.standard ≡ true → operand ≡ has v → k ≡ Le → T (swap_bits i.imm)
  le-fine v std e q = taken-swap (swap_bits i.imm) (Refusal.BadSwap (at slot)) v (rw (q, std) at e)

  pub be-fine : (v : ℕ) → operand ≡ has v → k ≡ Be → T (swap_bits i.imm)
  be-fine v e q = taken-swap (swap_bits i.imm) (Refusal.BadSwap (at slot)) v (rw q at e)
