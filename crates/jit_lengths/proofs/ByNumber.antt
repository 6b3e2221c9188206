-- The length of a slot's code, found by its opcode's entry in the table.
use Rattle.std.proofs.Common.{◌≡◌, ℕ, Bool, true, false, List, [], ◌∷◌, refl, ap, ◌∙◌, arith}
use Rattle.base.specs.Cases.{Arm, ◌⇒◌, cases}
use Rattle.base.proofs.CasesLaws.{None, rest}
use Rattle.ebpf.specs.Insn.{insn_at}
use Rattle.ebpf.specs.Opcode.{kind_of}
use Rattle.ebpf.specs.Kinds.{number_of, numbered, MULDIVMOD, LD-ABS, LD-IND, LD-REG, ST-IMM, ST-REG, ALU, SHIFT, NEG, MOV, EXIT}
use Rattle.ebpf.proofs.KindsLaws.{number-at}
use Rattle.ebpf.specs.declared.kind.Kind.TheVariants.{LdAbs, LdInd, LdDwImm, LdReg, StImm, StReg, Alu, Shift, Neg, MulDivMod, Mov}
use Rattle.ebpf.specs.declared.kind.Kind.TheVariants.{Le, Be, Ja, Jump, Call, Exit}
use Rattle.ebpf.specs.declared.kind.Lookup.{Lookup}
use Rattle.ebpf.specs.declared.kind.Lookup.TheVariants.{Known, Unimplemented, Unknown}
use Rattle.jit.specs.declared.Mode.{Mode}
use Rattle.jit_walk.specs.Numbered.{SlotRead}
use Rattle.jit_walk.proofs.SlotReads.{kind_at}
use Rattle.jit_lengths.specs.Lengths.{Ordinary, SizedBy}

-- the kind of a slot that is read
pub kind-read : {program : List ℕ} {slot opc number n : ℕ} → SlotRead program slot opc number → number ≡ n → kind_of opc ≡ numbered opc n
kind-read r e = ap kind_of r.opc_is ∙ kind_at r e

-- the kinds that have an arm of their own, in the reverse of their order in the code's match; what is none of them has no code
abbrev pub armed : List (Arm Bool)
armed =
    EXIT ⇒ true
    ∷ MOV ⇒ true
    ∷ NEG ⇒ true
    ∷ SHIFT ⇒ true
    ∷ ALU ⇒ true
    ∷ ST-REG ⇒ true
    ∷ ST-IMM ⇒ true
    ∷ LD-REG ⇒ true
    ∷ LD-IND ⇒ true
    ∷ LD-ABS ⇒ true
    ∷ MULDIVMOD ⇒ true
    ∷ []

pub no_length : (m : Mode) {program : List ℕ} {slot opc number : ℕ} → SlotRead program slot opc number → Ordinary number → None armed number
    → SizedBy m (kind_of opc) (insn_at program slot) 0
no_length m {program} {slot} {opc} {number} r plain none =
    let o = (insn_at program slot).opc in
    rw r.opc_is (by (kind_of o) (r.numbered.table ∙ number-at o r.numbered.opc))
  where
    not : {n : ℕ} {A : Type 0} → number ≡ n → cases armed false n ≡ true → A
    not q e = let z : ◌≡◌ {A = ℕ} 0 1 = cc (rest armed false number none) in absurd (omega arith)

    by : (l : Lookup) → number ≡ number_of l → SizedBy m l (insn_at program slot) 0
    by Unknown q = tt
    by Unimplemented q = tt
    by (Known (LdAbs z)) q = not q refl
    by (Known (LdInd z)) q = not q refl
    by (Known LdDwImm) q = absurd (plain.wide q)
    by (Known (LdReg z)) q = not q refl
    by (Known (StImm z)) q = not q refl
    by (Known (StReg z)) q = not q refl
    by (Known (Alu o w s)) q = not q refl
    by (Known (Shift o w s)) q = not q refl
    by (Known (Neg w)) q = not q refl
    by (Known (MulDivMod o w s)) q = not q refl
    by (Known (Mov w s)) q = not q refl
    by (Known Le) q = absurd (plain.cuts q)
    by (Known Be) q = absurd (plain.swaps q)
    by (Known Ja) q = absurd (plain.ja q)
    by (Known (Jump c w s)) q = absurd (plain.jumps q)
    by (Known Call) q = absurd (plain.calls q)
    by (Known Exit) q = not q refl
