-- A slot in assembler, as llvm-objdump writes eBPF: which statement its opcode picks, and the operators. The statements' own texts are
-- ebpf_statements/specs/Statements.antt.
use Rattle.std.specs.Prelude.{List, [], ◌∷◌, ◌++◌, ℕ, ◌+◌, ◌/◌, ltb, length}
use Rattle.base.specs.Pick.{pick}
use Rattle.base.specs.declared.Width.{Width}
use Rattle.ebpf.specs.Opcode.{kind_of}
use Rattle.ebpf.specs.declared.insn.Insn.{Insn}
use Rattle.ebpf.specs.declared.kind.Source.{Source}
use Rattle.ebpf.specs.declared.kind.AluOp.{AluOp}
use Rattle.ebpf.specs.declared.kind.AluOp.TheVariants.{Add, Sub, Or, And, Xor}
use Rattle.ebpf.specs.declared.kind.ShiftOp.{ShiftOp}
use Rattle.ebpf.specs.declared.kind.ShiftOp.TheVariants.{Lsh, Rsh, Arsh}
use Rattle.ebpf.specs.declared.kind.MulOp.{MulOp}
use Rattle.ebpf.specs.declared.kind.MulOp.TheVariants.{Mul, Div, Mod}
use Rattle.ebpf.specs.declared.kind.Condition.{Condition}
use Rattle.ebpf.specs.declared.kind.Condition.TheVariants.{Jeq, Jgt, Jge, Jset, Jne, Jsgt, Jsge, Jlt, Jle, Jslt, Jsle}
use Rattle.ebpf.specs.declared.kind.Kind.{Kind}
use Rattle.ebpf.specs.declared.kind.Kind.TheVariants.{LdAbs, LdInd, LdDwImm, LdReg, StImm, StReg, Alu, Shift, Neg, MulDivMod, Mov, Le, Be, Ja, Jump, Call, Exit}
use Rattle.ebpf.specs.declared.kind.Lookup.{Lookup}
use Rattle.ebpf.specs.declared.kind.Lookup.TheVariants.{Known, Unimplemented, Unknown}
use Rattle.text.specs.Text.{ascii}
use Rattle.text.specs.Numerals.{extended}
use Rattle.text.specs.Forms.{formed}
use Rattle.ebpf_fields.specs.Fields.{fields_at}
use Rattle.ebpf_statements.specs.Statements.{binary, neg_text, wide_text, le_text, be_text}
use Rattle.ebpf_statements.specs.Statements.{abs_text, ind_text, load_text, store_imm_text, store_reg_text, goto_text, call_text, plain_text}

-- the operators
abbrev pub alu_text : AluOp → List ℕ
alu_text Add = ascii "+="
alu_text Sub = ascii "-="
alu_text Or = ascii "|="
alu_text And = ascii "&="
alu_text Xor = ascii "^="

abbrev pub shift_text : ShiftOp → List ℕ
shift_text Lsh = ascii "<<="
shift_text Rsh = ascii ">>="
shift_text Arsh = ascii "s>>="

abbrev pub mul_text : MulOp → List ℕ
mul_text Mul = ascii "*="
mul_text Div = ascii "/="
mul_text Mod = ascii "%="

abbrev pub condition_text : Condition → List ℕ
condition_text Jeq = ascii "=="
condition_text Jgt = ascii ">"
condition_text Jge = ascii ">="
condition_text Jset = ascii "&"
condition_text Jne = ascii "!="
condition_text Jsgt = ascii "s>"
condition_text Jsge = ascii "s>="
condition_text Jlt = ascii "<"
condition_text Jle = ascii "<="
condition_text Jslt = ascii "s<"
condition_text Jsle = ascii "s<="

unfoldable pub jump_text : Condition → Width → Source → Insn → List ℕ
jump_text c w s i = ascii "if " ++ (binary w s i (condition_text c) ++ formed (ascii " goto ^") (extended i.off ∷ []))

abbrev pub kind_text : Kind → Insn → ℕ → List ℕ
kind_text (LdAbs z) i high = abs_text z i
kind_text (LdInd z) i high = ind_text z i
kind_text LdDwImm i high = wide_text i high
kind_text (LdReg z) i high = load_text z i
kind_text (StImm z) i high = store_imm_text z i
kind_text (StReg z) i high = store_reg_text z i
kind_text (Alu o w s) i high = binary w s i (alu_text o)
kind_text (Shift o w s) i high = binary w s i (shift_text o)
kind_text (Neg w) i high = neg_text w i
kind_text (MulDivMod o w s) i high = binary w s i (mul_text o)
kind_text (Mov w s) i high = binary w s i (ascii "=")
kind_text Le i high = le_text i
kind_text Be i high = be_text i
kind_text Ja i high = goto_text i
kind_text (Jump c w s) i high = jump_text c w s i
kind_text Call i high = call_text i
kind_text Exit i high = ascii "exit"

abbrev pub lookup_text : Lookup → Insn → ℕ → List ℕ
lookup_text (Known k) i high = kind_text k i high
lookup_text Unimplemented i high = plain_text i
lookup_text Unknown i high = plain_text i

-- the imm of the next slot, where there is one
unfoldable pub high_of : List ℕ → ℕ → ℕ
high_of prog slot = pick (ltb slot (length prog / 8)) (fields_at prog (slot + 1)).imm 0

unfoldable pub slot_text : List ℕ → ℕ → List ℕ
slot_text prog slot = lookup_text (kind_of (fields_at prog slot).opc) (fields_at prog slot) (high_of prog slot)
