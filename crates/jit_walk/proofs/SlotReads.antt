-- A slot that is read (specs/Numbered.antt), as an arm of the code reads it.
use mathlib.Core.Path.{◌≡◌, ◌∙◌, sym}
use mathlib.Core.List.{List}
use Prim.Native.Nat.{ℕ, ◌<◌}
use Rattle.ebpf.specs.Insn.{insn_at}
use Rattle.ebpf.specs.Kinds.{numbered}
use Rattle.ebpf.specs.Opcode.{kind_of}
use Rattle.ebpf.specs.declared.insn.Insn.{Insn}
use Rattle.jit_walk.proofs.NumberedLaws.{looked}
use Rattle.jit_walk.specs.Numbered.{SlotRead}

-- what is read has that opcode and good registers
pub record Fields (i : Insn) (opc : ℕ) : Type 0 where
  pub opc_is : i.opc ≡ opc
  pub dst : i.dst < 11
  pub src : i.src < 11

module _ {program : List ℕ} {slot opc number : ℕ} (r : SlotRead program slot opc number) where
  -- the kind that the number stands for
  pub kind_at : {n : ℕ} → number ≡ n → kind_of (insn_at program slot).opc ≡ numbered opc n
  kind_at e = looked r.numbered e ∙ rw r.opc_is

  pub fields : {i : Insn} → i ≡ insn_at program slot → Fields i opc
  fields e = rw e (record { opc_is = sym r.opc_is; dst = r.numbered.dst; src = r.numbered.src })
