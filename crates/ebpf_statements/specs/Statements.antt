-- The statements of eBPF assembler, as llvm-objdump writes them. docs/LISTING.md lists the forms.
use Rattle.std.specs.Prelude.{List, [], ◌∷◌, ◌++◌, ℕ, ◌+◌, ◌*◌, ◌^◌, eqb}
use Rattle.base.specs.Pick.{pick}
use Rattle.base.specs.Widths.{size_bits}
use Rattle.base.specs.declared.Width.{Width}
use Rattle.base.specs.declared.Width.TheVariants.{W32, W64}
use Rattle.base.specs.declared.Size.{Size}
use Rattle.ebpf.specs.declared.insn.Insn.{Insn}
use Rattle.ebpf.specs.declared.kind.Source.{Source}
use Rattle.ebpf.specs.declared.kind.Source.TheVariants.{Imm, Reg}
use Rattle.text.specs.Text.{ascii}
use Rattle.text.specs.Numerals.{extended}
use Rattle.text.specs.Forms.{formed}

-- a register is `r` and its number, or `w` and its number where only its low half counts
abbrev pub letter_of : Width → ℕ
letter_of W32 = 0x77
letter_of W64 = 0x72

-- the second operand: src, or imm as a signed number
abbrev pub operand_of : Width → Source → Insn → List ℕ
operand_of w Imm i = formed (ascii " ~") (extended i.imm ∷ [])
operand_of w Reg i = formed (ascii " %#") (letter_of w ∷ i.src ∷ [])

-- dst, an operator, the second operand
unfoldable pub binary : Width → Source → Insn → List ℕ → List ℕ
binary w s i o = formed (ascii "%# ") (letter_of w ∷ i.dst ∷ []) ++ (o ++ operand_of w s i)

unfoldable pub neg_text : Width → Insn → List ℕ
neg_text w i = formed (ascii "%# = -%#") (letter_of w ∷ i.dst ∷ letter_of w ∷ i.dst ∷ [])

unfoldable pub abs_text : Size → Insn → List ℕ
abs_text z i = formed (ascii "r0 = *(u# *)skb[~]") (size_bits z ∷ extended i.imm ∷ [])

unfoldable pub ind_text : Size → Insn → List ℕ
ind_text z i = formed (ascii "r0 = *(u# *)skb[r# _]") (size_bits z ∷ i.src ∷ extended i.imm ∷ [])

unfoldable pub load_text : Size → Insn → List ℕ
load_text z i = formed (ascii "r# = *(u# *)(r# _)") (i.dst ∷ size_bits z ∷ i.src ∷ extended i.off ∷ [])

unfoldable pub store_imm_text : Size → Insn → List ℕ
store_imm_text z i = formed (ascii "*(u# *)(r# _) = ~") (size_bits z ∷ i.dst ∷ extended i.off ∷ extended i.imm ∷ [])

unfoldable pub store_reg_text : Size → Insn → List ℕ
store_reg_text z i = formed (ascii "*(u# *)(r# _) = r#") (size_bits z ∷ i.dst ∷ extended i.off ∷ i.src ∷ [])

-- `high` is the imm of the second slot
unfoldable pub wide_text : Insn → ℕ → List ℕ
wide_text i high = formed (ascii "r# = 0x$ ll") (i.dst ∷ (i.imm + 2 ^ 32 * high) ∷ [])

unfoldable pub le_text : Insn → List ℕ
le_text i = formed (ascii "r# = le~ r#") (i.dst ∷ extended i.imm ∷ i.dst ∷ [])

unfoldable pub be_text : Insn → List ℕ
be_text i = formed (ascii "r# = be~ r#") (i.dst ∷ extended i.imm ∷ i.dst ∷ [])

unfoldable pub goto_text : Insn → List ℕ
goto_text i = formed (ascii "goto ^") (extended i.off ∷ [])

-- src 0: a helper by its id; else a local call, from the slot behind
unfoldable pub call_text : Insn → List ℕ
call_text i = pick (eqb i.src 0) (formed (ascii "call #") (i.imm ∷ [])) (formed (ascii "call pc^") (extended i.imm ∷ []))

-- an opcode that is not translated: what the slot holds
unfoldable pub plain_text : Insn → List ℕ
plain_text i = formed (ascii "opcode 0x@, dst #, src #, off ~, imm ~") (i.opc ∷ i.dst ∷ i.src ∷ extended i.off ∷ extended i.imm ∷ [])
