-- Instructions with their notes: what has to be known in front of each, read off the code itself from its end to its front.
use mathlib.Core.Bool.{Bool, true, false}
use mathlib.Core.List.{List, [], ◌∷◌, ◌++◌}
use mathlib.Core.Path.{◌≡◌, refl}
use Prim.Native.Nat.{ℕ, ◌-◌}
use lib.Dec.{eqb}
use Rattle.base.specs.Pick.{pick}
use Rattle.base.specs.declared.Width.{Width}
use Rattle.base.specs.declared.Width.TheVariants.{W32, W64}
use Rattle.x86.specs.Instr.{Instr, op, push, pop, alu, alu_imm, shift_imm, shift_cl, unary, mov_imm, rol16, bswap, load, store, store_imm, jump, jmp, call, jcc}
use Rattle.x86.specs.Instr.{call_reg, ret, Plain, Alu, ADD, OR, AND, SUB, XOR, CMP, MOV, TEST, Cond, JB, JAE, JE, JNE, JBE, JA, JL, JGE, JLE, JG}
use Rattle.x86.specs.Encode.{len}
use Rattle.x86.specs.Code.{Dest, near, to}
use Rattle.jit.specs.Frame.{prologue, epilogue}
use Rattle.jit.specs.declared.Flags.{Flags}
use Rattle.jit_safety.proofs.Facts.{Fact, nz, zr, fz, stays, keys_of, quiet, renamed, needs}
use Rattle.jit_safety.proofs.Cells.{Cell, cell}
use Rattle.jit_safety.proofs.Depth.{sinks_by, framed}

pub record Note : Type 0 where
  pub facts : List Fact
  pub instr : Instr Dest

abbrev pub note : List Fact → Instr Dest → Note
note F i = record { facts = F; instr = i }

abbrev pub plain : List (Instr Dest) → List Note
plain [] = []
plain (i ∷ r) = note [] i ∷ plain r

abbrev pub codes : List Note → List (Instr Dest)
codes [] = []
codes (n ∷ r) = n.instr ∷ codes r

-- the cells of a row of notes that begins at a depth; the gate is the first of them, if any
abbrev pub laid : (gate : Bool) → (depth : ℕ) → List Note → List Cell
laid g d [] = []
laid g d (n ∷ r) = cell n.facts d g n.instr ∷ laid false (sinks_by n.instr d) r

-- What has to be known in front of an instruction, so that the facts behind it hold. Nothing rests on this: a fact too many or too few
-- fails the check.
-- Of a fact about a register that the instruction writes: a copy of 64 bits has it from its source.
abbrev alu_source : Alu → Width → (src dst : ℕ) → Fact → List Fact
alu_source ADD w s d a = []
alu_source OR w s d a = []
alu_source AND w s d a = []
alu_source SUB w s d a = []
alu_source XOR w s d a = []
alu_source CMP w s d a = []
alu_source MOV W32 s d a = []
alu_source MOV W64 s d a = renamed d s a
alu_source TEST w s d a = []

abbrev source : Plain → Fact → List Fact
source (push r) a = []
source (pop r) a = []
source (alu o w s d) a = alu_source o w s d a
source (alu_imm o w d i) a = []
source (shift_imm o w d i) a = []
source (shift_cl o w d) a = []
source (unary o w r) a = []
source (mov_imm w d i) a = []
source (rol16 d i) a = []
source (bswap w d) a = []
source (load z b d x) a = []
source (store z s b x) a = []
source (store_imm z b x i) a = []

abbrev before : Plain → List Fact → List Fact
before p [] = needs p
before p (a ∷ l) = pick (stays (keys_of p) (quiet p) a) (a ∷ before p l) (source p a ++ before p l)

-- JE and JNE tell it of ZF
abbrev told : Fact → Fact
told (nz w r) = fz w r
told (zr w r) = fz w r
told (fz w r) = fz w r

abbrev tolds : List Fact → List Fact
tolds [] = []
tolds (a ∷ l) = told a ∷ tolds l

abbrev asked : Cond → List Fact → List Fact
asked JB F = F
asked JAE F = F
asked JE F = tolds F
asked JNE F = tolds F
asked JBE F = F
asked JA F = F
asked JL F = F
asked JGE F = F
asked JLE F = F
asked JG F = F

-- of the notes behind an instruction: the first's facts, and those k bytes on
abbrev first : List Note → List Fact
first [] = []
first (n ∷ r) = n.facts

abbrev ahead : ℕ → List Note → List Fact
ahead k [] = []
ahead k (n ∷ r) = pick (eqb k 0) n.facts (ahead (k - len n.instr) r)

abbrev wants : Instr Dest → List Note → List Fact
wants (op p) r = before p (first r)
wants (jump jmp (near k)) r = ahead k r
wants (jump jmp (to t)) r = []
wants (jump call d) r = []
wants (jump (jcc c) (near k)) r = asked c (first r ++ ahead k r)
wants (jump (jcc c) (to t)) r = asked c (first r)
wants (call_reg x) r = []
wants ret r = []

abbrev onto : Instr Dest → List Note → List Note
onto i r = note (wants i r) i ∷ r

abbrev pub annotated : List (Instr Dest) → List Note
annotated [] = []
annotated (i ∷ c) = onto i (annotated c)

pub codes-annotated : (c : List (Instr Dest)) → codes (annotated c) ≡ c
codes-annotated [] = refl
codes-annotated (i ∷ c) = rw (codes-annotated c)

-- The prologues and the epilogue: the prologue up to its last instruction, the jump to the exit.
abbrev init : List Cell → List Cell
init [] = []
init (x ∷ []) = []
init (x ∷ y ∷ r) = x ∷ init (y ∷ r)

unfoldable pub prologue_cells : Flags → List Cell
prologue_cells f = laid false 0 (annotated (prologue f))

unfoldable pub front_cells : Flags → List Cell
front_cells f = init (laid false 0 (annotated (prologue f)))

unfoldable pub epilogue_cells : List Cell
epilogue_cells = laid true framed (annotated epilogue)
