-- The code of crate jit is code with notes that pass: every kind of slot, the three prologues and the epilogue.
use mathlib.Core.Path.{◌≡◌, refl, ◌∙◌}
use mathlib.Core.Bool.{Bool, true, false, not, ◌&&◌}
use mathlib.Core.List.{[], ◌∷◌, ◌++◌}
use Prim.Native.Nat.{ℕ, ◌+◌, ◌%◌, ◌^◌, ◌<◌}
use native.Mathlib.Omega.{arith}
use lib.Dec.{T, T_not, ltb, eqb, ltb→lt}
use Rattle.base.specs.Pick.{pick}
use Rattle.base.specs.Widths.{bits}
use Rattle.base.proofs.Tests.{true-T, and_l, and_r, eqb-true}
use Rattle.base.specs.declared.Width.{Width}
use Rattle.base.specs.declared.Width.TheVariants.{W32, W64}
use Rattle.base.specs.declared.Size.{Size}
use Rattle.base.specs.declared.Size.TheVariants.{S8, S16, S32, S64}
use Rattle.ebpf.specs.declared.insn.Insn.{Insn}
use Rattle.ebpf.specs.declared.kind.Source.{Source}
use Rattle.ebpf.specs.declared.kind.Source.TheVariants.{Imm, Reg}
use Rattle.ebpf.specs.declared.kind.MulOp.{MulOp}
use Rattle.ebpf.specs.declared.kind.MulOp.TheVariants.{Mul, Div, Mod}
use Rattle.ebpf.specs.declared.kind.Kind.{Kind}
use Rattle.ebpf.specs.declared.kind.Kind.TheVariants.{LdAbs, LdInd, LdDwImm, LdReg, StImm, StReg, Alu, Shift, Neg, MulDivMod, Mov, Le, Be, Ja, Jump, Call, Exit}
use Rattle.x86.specs.Registers.{RAX, RCX, RDX, R9}
use Rattle.x86.specs.Instr as x86
use Rattle.x86.specs.Instr.{Plain, imm_bits, push, pop, alu, alu_imm, shift_imm, shift_cl, unary, mov_imm, rol16, bswap, load, jmp, call, jcc, Instr, op, jump}
use Rattle.x86.specs.Instr.{call_reg, ADD, OR, AND, SUB, XOR, CMP, MOV, TEST, NEG}
use Rattle.x86.proofs.WellFormed.{Base, WfPlain}
use Rattle.x86.specs.Encode.{rex}
use Rattle.x86.proofs.Lengths.{plain-most}
use Rattle.x86.specs.Code.{Dest, to}
use Rattle.jit.specs.MulDivMod.{Code, when, unless_is, by_zero, guard, operate, from_rax, saved, restored, restores, operated, computed, mul_div_mod_imm, mul_div_mod_reg}
use Rattle.jit.specs.MulDivMod as jit
use Rattle.jit.specs.Constants.{load_imm, loaded}
use Rattle.jit.specs.Slots.{reg_of, target_of, alu_of, shift_of, cond_of, test_of, swap, helper_call, local_call, call_code}
use Rattle.jit.specs.Slots.{lower_half, lowest16, clears, cleared, copy_width, truncated, slot_code}
use Rattle.jit.specs.declared.Mode.{Mode}
use Rattle.jit.specs.Frame.{saves, packet_start, packet_end, argument, enter, prologue, epilogue}
use Rattle.jit.specs.Modes.{rust}
use Rattle.jit.specs.declared.Flags.{Flags}
use Rattle.x86.proofs.ReadsLaws.{WfDest, WfCode, wf-append}
use Rattle.jit_safety.proofs.Cells.{instrs}
use Rattle.jit_safety.proofs.Depth.{framed}
use Rattle.jit_safety.proofs.Notes.{plain, annotated, codes-annotated, prologue_cells, epilogue_cells}
use Rattle.jit_safety.proofs.Checked.{fine_notes, by_reg, by_imm, every_register, register, reg-fine, as-loaded, imm-fine, local-fine}
use Rattle.jit_safety.proofs.Pieces.{Piece, append, none, found, unnoted, all_listed, skips_in, instrs-laid}

-- What a slot's numbers are: fields of a slot, and what it takes from elsewhere.
pub record Numbers (slot : ℕ) (i : Insn) (value : ℕ) : Type 0 where
  pub here : slot < 2 ^ 32
  pub off : i.off < 2 ^ 32
  pub imm : i.imm < 2 ^ 32
  pub wide : value < 2 ^ 64

-- A register of the program is below 16, and is none that would need a SIB byte as a base.
fits16 : (n : ℕ) → T (ltb (reg_of n) 16 && not (eqb (reg_of n % 8) 4))
fits16 n = register (λ r. ltb r 16 && not (eqb (r % 8) 4)) tt n

reg-lt : (n : ℕ) → reg_of n < 16
reg-lt n = ltb→lt (reg_of n) 16 (and_l (ltb (reg_of n) 16) (not (eqb (reg_of n % 8) 4)) (fits16 n))

reg-base : (n : ℕ) → Base (reg_of n)
reg-base n =
    let r = reg_of n in
    (reg-lt n, λ e. T_not (eqb (r % 8) 4) (and_r (ltb r 16) (not (eqb (r % 8) 4)) (fits16 n)) (true-T _ (eqb-true (r % 8) 4 e)))

-- One instruction that writes one register of the program, or none.
alu-piece : (o : x86.Alu) (w : Width) (s d : ℕ) → s < 16 → Piece (op (alu o w s (reg_of d)) ∷ [])
alu-piece o w s d h = unnoted _ (register (λ r. fine_notes (plain (op (alu o w s r) ∷ []))) (by o) d) ((h, reg-lt d), tt) tt
  where
    by : (o : x86.Alu) → T (every_register (λ r. fine_notes (plain (op (alu o w s r) ∷ []))))
    by ADD = tt
    by OR = tt
    by AND = tt
    by SUB = tt
    by XOR = tt
    by CMP = tt
    by MOV = tt
    by TEST = tt

imm-piece : (o : x86.Alu) (w : Width) (d x : ℕ) → x < 2 ^ 32 → Piece (op (alu_imm o w (reg_of d) x) ∷ [])
imm-piece o w d x h = unnoted _ (register (λ r. fine_notes (plain (op (alu_imm o w r x) ∷ []))) (by o) d) ((reg-lt d, h), tt) tt
  where
    by : (o : x86.Alu) → T (every_register (λ r. fine_notes (plain (op (alu_imm o w r x) ∷ []))))
    by ADD = tt
    by OR = tt
    by AND = tt
    by SUB = tt
    by XOR = tt
    by CMP = tt
    by MOV = tt
    by TEST = tt

-- a constant, in the form that the mode takes: of the immediate and of the slot's number, and of 64 bits
constant-piece : (w : Width) (d x : ℕ) → x < 2 ^ bits w → Piece (op (mov_imm w (reg_of d) x) ∷ [])
constant-piece w d x h = unnoted _ (register (λ r. fine_notes (plain (op (mov_imm w r x) ∷ []))) tt d) ((reg-lt d, h), tt) tt

immediate-piece : (m : Mode) (w : Width) (d x : ℕ) → x < 2 ^ 32 → Piece (op (loaded m (alu_imm MOV w (reg_of d) x)) ∷ [])
immediate-piece m w d x h = as-loaded (λ p. Piece (op p ∷ [])) m w (reg_of d) x (imm-piece MOV w d x h) (λ g. constant-piece W32 d x h)

number-piece : (m : Mode) (slot : ℕ) → slot < 2 ^ 32 → Piece (op (loaded m (alu_imm MOV W64 RCX slot)) ∷ [])
number-piece m slot h =
    as-loaded (λ p. Piece (op p ∷ [])) m W64 RCX slot (unnoted _ tt ((omega arith, h), tt) tt) (λ g. unnoted _ tt ((omega arith, h), tt) tt)

load_piece : (m : Mode) (d v : ℕ) → v < 2 ^ 64 → Piece (op (loaded m (load_imm (reg_of d) v)) ∷ [])
unfolding load_imm
load_piece m d v h = by (ltb ((v + 2 ^ 31) % 2 ^ 64) (2 ^ 32))
  where
    r : ℕ
    r = reg_of d

    whole : (c t : Bool) → ltb v (2 ^ 32) ≡ t → Piece (op (pick c (pick t (mov_imm W32 r v) (mov_imm W64 r v)) (mov_imm W64 r v)) ∷ [])
    whole true true e = constant-piece W32 d v (ltb→lt v (2 ^ 32) (true-T _ e))
    whole true false e = constant-piece W64 d v h
    whole false t e = constant-piece W64 d v h

    by : (t : Bool) → Piece (op (loaded m (pick t (alu_imm MOV W64 r (v % 2 ^ 32)) (mov_imm W64 r v))) ∷ [])
    by true = immediate-piece m W64 d (v % 2 ^ 32) (omega arith)
    by false = whole m.compact (ltb v (2 ^ 32)) refl

-- an immediate is stored with as many bits as there is room for
stored-lt : (z : Size) (i : ℕ) → i % 2 ^ imm_bits z < 2 ^ imm_bits z
stored-lt S8 i = omega arith
stored-lt S16 i = omega arith
stored-lt S32 i = omega arith
stored-lt S64 i = omega arith

chosen : (t : Bool) (a b : Code) → Piece a → Piece b → Piece (pick t a b)
chosen true a b p q = p
chosen false a b p q = q

-- BE
swap-piece : (d bits : ℕ) → Piece (swap (reg_of d) bits)
swap-piece d bits =
    let r = reg_of d in
    let rotated = op (rol16 r 8) ∷ op (alu_imm AND W32 r 0xffff) ∷ [] in
    let low = op (bswap W32 r) ∷ [] in
    let whole = op (bswap W64 r) ∷ [] in
    chosen (eqb bits 16) rotated (pick (eqb bits 32) low whole)
    (append (op (rol16 r 8) ∷ []) (op (alu_imm AND W32 r 0xffff) ∷ [])
    (unnoted _ (register (λ r. fine_notes (plain (op (rol16 r 8) ∷ []))) tt d) ((reg-lt d, omega arith), tt) tt)
    (imm-piece AND W32 d 0xffff (omega arith)))
    (chosen (eqb bits 32) low whole
    (unnoted _ (register (λ r. fine_notes (plain (op (bswap W32 r) ∷ []))) tt d) (reg-lt d, tt) tt)
    (unnoted _ (register (λ r. fine_notes (plain (op (bswap W64 r) ∷ []))) tt d) (reg-lt d, tt) tt))

-- CALL
helper-piece : (m : Mode) (a : ℕ) → a < 2 ^ 64 → Piece (helper_call m a)
unfolding reg_of
helper-piece m a h =
    let address = op (loaded m (load_imm RAX a)) in
    append (op (alu MOV W64 R9 RCX) ∷ []) (address ∷ call_reg RAX ∷ []) (unnoted _ tt ((omega arith, omega arith), tt) tt)
    (append (address ∷ []) (call_reg RAX ∷ []) (load_piece m 0 a h) (unnoted _ tt (omega arith, tt) tt))

local-piece : (t : ℕ) → Piece (local_call t)
local-piece t = found (local_call t) (local-fine t) (omega arith) tt

-- MUL, DIV, MOD: their registers and constants
wf-unless : (r s : ℕ) (c : Code) → WfCode c → WfCode (unless_is r s c)
wf-unless r s c w = by (eqb r s)
  where
    by : (t : Bool) → WfCode (pick t [] c)
    by true = tt
    by false = w

operate-wf : (o : MulOp) (w : Width) → WfCode (operate o w)
operate-wf Mul w = omega arith
operate-wf Div w = omega arith
operate-wf Mod w = omega arith

restores-wf : (o : MulOp) (d : ℕ) → d < 16 → WfCode (restores o d)
restores-wf o d h = by (from_rax o)
  where
    each : (r : ℕ) (b : Bool) → r < 16 → WfCode (restored d r b)
    each r true g = wf-unless d r (op (alu MOV W64 r d) ∷ op (pop r) ∷ []) (omega arith)
    each r false g = wf-unless d r (op (pop r) ∷ []) (omega arith)

    by : (b : Bool) → WfCode (restored d RDX (not b) ++ restored d RAX b)
    by b = wf-append (restored d RDX (not b)) (restored d RAX b) (each RDX (not b) (omega arith)) (each RAX b (omega arith))

saves-wf : (d : ℕ) → WfCode (jit.saves d)
saves-wf d =
    wf-append (saved d RAX) (saved d RDX) (wf-unless d RAX (op (push RAX) ∷ []) (omega arith)) (wf-unless d RDX (op (push RDX) ∷ []) (omega arith))

computed-wf : (o : MulOp) (w : Width) (operand : Instr Dest) (d : ℕ) → WfDest operand → d < 16 → WfCode (computed o w (operand ∷ []) d)
computed-wf o w operand d h g =
    wf-append (jit.saves d) (operand ∷ operated o w d) (saves-wf d)
    (h, ((g, omega arith), wf-append (operate o w) (restores o d) (operate-wf o w) (restores-wf o d g)))

guard-wf : (o : MulOp) (slot : ℕ) (w : Width) (s d : ℕ) → slot < 2 ^ 32 → s < 16 → d < 16 → WfCode (guard rust o slot w s d)
guard-wf Mul slot w s d h hs hd = tt
guard-wf Div slot w s d h hs hd = omega (arith, plain-most (alu XOR W32 d d))
guard-wf Mod slot w s d h hs hd = omega arith

-- their skips
reg-skips : (o : MulOp) (slot : ℕ) (w : Width) (s d : ℕ) → T (skips_in (by_reg o slot w s (reg_of d)))
unfolding rex
reg-skips o slot w s d = register (λ r. skips_in (by_reg o slot w s r)) (by o) d
  where
    by : (o : MulOp) → T (every_register (λ r. skips_in (by_reg o slot w s r)))
    by Mul = tt
    by Div = tt
    by Mod = tt

imm-skips : (o : MulOp) (w : Width) (p : Plain) (d : ℕ) → T (skips_in (by_imm o w p (reg_of d)))
imm-skips o w p d = register (λ r. skips_in (by_imm o w p r)) (by o) d
  where
    by : (o : MulOp) → T (every_register (λ r. skips_in (by_imm o w p r)))
    by Mul = tt
    by Div = tt
    by Mod = tt

-- behind the slot's number, and with it
module _ (slot : ℕ) (w : Width) (s d : ℕ) (h : slot < 2 ^ 32) where
  reg-wf : (o : MulOp) → WfCode (mul_div_mod_reg rust o slot w (reg_of s) (reg_of d))
  reg-wf o =
      let a = reg_of s in
      let b = reg_of d in
      wf-append (guard rust o slot w a b) (computed o w (op (alu MOV W64 a RCX) ∷ []) b) (guard-wf o slot w a b h (reg-lt s) (reg-lt d))
      (computed-wf o w (op (alu MOV W64 a RCX)) b (reg-lt s, omega arith) (reg-lt d))

  behind-piece : (o : MulOp) → Piece (by_reg o slot w (reg_of s) (reg_of d))
  behind-piece o = found _ (reg-fine o w slot s d) (by o) (reg-skips o slot w (reg_of s) d)
    where
      by : (o : MulOp) → WfCode (by_reg o slot w (reg_of s) (reg_of d))
      by Mul = reg-wf Mul
      by Div = (reg-wf Div).1
      by Mod = (reg-wf Mod).1

  by-reg-piece : (m : Mode) (o : MulOp) → Piece (mul_div_mod_reg m o slot w (reg_of s) (reg_of d))
  by-reg-piece m Mul = behind-piece Mul
  by-reg-piece m Div = append (op (loaded m (alu_imm MOV W64 RCX slot)) ∷ []) (by_reg Div slot w (reg_of s) (reg_of d)) (number-piece m slot h) (behind-piece Div)
  by-reg-piece m Mod = append (op (loaded m (alu_imm MOV W64 RCX slot)) ∷ []) (by_reg Mod slot w (reg_of s) (reg_of d)) (number-piece m slot h) (behind-piece Mod)

zero-piece : (o : MulOp) (d : ℕ) → Piece (by_zero o (reg_of d))
zero-piece Mul d = alu-piece XOR W32 (reg_of d) d (reg-lt d)
zero-piece Div d = alu-piece XOR W32 (reg_of d) d (reg-lt d)
zero-piece Mod d = none

by-imm-piece : (m : Mode) (o : MulOp) (w : Width) (d x : ℕ) → x < 2 ^ 32 → Piece (mul_div_mod_imm m o w (reg_of d) x)
by-imm-piece m o w d x h = by (eqb x 0) refl
  where
    p : Plain
    p = loaded m (alu_imm MOV W64 RCX x)

    p-wf : WfPlain p
    p-wf = as-loaded WfPlain m W64 RCX x (omega arith, h) (λ g. (omega arith, h))

    by : (t : Bool) → eqb x 0 ≡ t → Piece (pick t (by_zero o (reg_of d)) (computed o w (op p ∷ []) (reg_of d)))
    by true e = zero-piece o d
    by false e = found _ (imm-fine m o w d x e) (computed-wf o w (op p) (reg_of d) p-wf (reg-lt d)) (imm-skips o w p d)

-- what standard mode puts ahead of these, and LE
lower-piece : (d : ℕ) → Piece (lower_half (reg_of d))
lower-piece d = alu-piece MOV W32 (reg_of d) d (reg-lt d)

cleared-piece : (m : Mode) (o : MulOp) (w : Width) (s : Source) (i : Insn) → Piece (cleared m o w s i)
cleared-piece m o w s i = chosen (clears m o w s i.imm) (lower_half (reg_of i.dst)) [] (lower-piece i.dst) none

truncated-piece : (d bits : ℕ) → Piece (truncated (reg_of d) bits)
truncated-piece d bits =
    let r = reg_of d in
    chosen (eqb bits 16) (lowest16 r) (pick (eqb bits 32) (lower_half r) []) (imm-piece AND W32 d 0xffff (omega arith))
    (chosen (eqb bits 32) (lower_half r) [] (lower-piece d) none)

-- a condition's test, and its jump
jump-piece : (j : x86.Jump) (t : ℕ) → Piece (jump j (to t) ∷ [])
jump-piece jmp t = unnoted _ tt (omega arith, tt) tt
jump-piece call t = unnoted _ tt (omega arith, tt) tt
jump-piece (jcc c) t = unnoted _ tt (omega arith, tt) tt

-- Every kind of slot.
pub slot-piece : (m : Mode) (k : Kind) (slot : ℕ) (i : Insn) (value : ℕ) → Numbers slot i value → Piece (slot_code m k slot i value)
slot-piece m (LdAbs z) slot i value n = unnoted _ tt (omega (arith, n.imm)) tt
slot-piece m (LdInd z) slot i value n = unnoted _ tt (omega (arith, n.imm, reg-lt i.src)) tt
slot-piece m LdDwImm slot i value n = load_piece m i.dst value n.wide
slot-piece m (LdReg z) slot i value n =
    unnoted _ (register (λ r. fine_notes (plain (op (load z (reg_of i.src) r i.off) ∷ []))) tt i.dst) ((reg-base i.src, (reg-lt i.dst, n.off)), tt) tt
slot-piece m (StImm z) slot i value n = unnoted _ tt ((reg-base i.dst, (n.off, stored-lt z i.imm)), tt) tt
slot-piece m (StReg z) slot i value n = unnoted _ tt ((reg-lt i.src, (reg-base i.dst, n.off)), tt) tt
slot-piece m (Alu o w Imm) slot i value n = imm-piece (alu_of o) w i.dst i.imm n.imm
slot-piece m (Alu o w Reg) slot i value n = alu-piece (alu_of o) w (reg_of i.src) i.dst (reg-lt i.src)
slot-piece m (Shift o w Imm) slot i value n =
    unnoted _ (register (λ r. fine_notes (plain (op (shift_imm (shift_of o) w r (i.imm % 256)) ∷ []))) tt i.dst) ((reg-lt i.dst, omega arith), tt) tt
slot-piece m (Shift o w Reg) slot i value n =
    let s = reg_of i.src in
    unnoted _ (register (λ r. fine_notes (plain (op (alu MOV W64 s RCX) ∷ op (shift_cl (shift_of o) w r) ∷ []))) tt i.dst) ((reg-lt i.src, omega arith), (reg-lt i.dst, tt)) tt
slot-piece m (Neg w) slot i value n = unnoted _ (register (λ r. fine_notes (plain (op (unary NEG w r) ∷ []))) tt i.dst) (reg-lt i.dst, tt) tt
slot-piece m (MulDivMod o w Imm) slot i value n =
    append (cleared m o w Imm i) (mul_div_mod_imm m o w (reg_of i.dst) i.imm) (cleared-piece m o w Imm i) (by-imm-piece m o w i.dst i.imm n.imm)
slot-piece m (MulDivMod o w Reg) slot i value n =
    append (cleared m o w Reg i) (mul_div_mod_reg m o slot w (reg_of i.src) (reg_of i.dst)) (cleared-piece m o w Reg i)
    (by-reg-piece slot w i.src i.dst n.here m o)
slot-piece m (Mov w Imm) slot i value n = immediate-piece m w i.dst i.imm n.imm
slot-piece m (Mov w Reg) slot i value n = alu-piece MOV (copy_width m w) (reg_of i.src) i.dst (reg-lt i.src)
slot-piece m Le slot i value n = chosen m.standard (truncated (reg_of i.dst) i.imm) [] (truncated-piece i.dst i.imm) none
slot-piece m Be slot i value n = swap-piece i.dst i.imm
slot-piece m Ja slot i value n = jump-piece jmp (target_of slot i.off)
slot-piece m (Jump c w Imm) slot i value n =
    append (op (alu_imm (test_of c) w (reg_of i.dst) i.imm) ∷ []) (jump (jcc (cond_of c)) (to (target_of slot i.off)) ∷ [])
    (imm-piece (test_of c) w i.dst i.imm n.imm) (jump-piece (jcc (cond_of c)) (target_of slot i.off))
slot-piece m (Jump c w Reg) slot i value n =
    append (op (alu (test_of c) w (reg_of i.src) (reg_of i.dst)) ∷ []) (jump (jcc (cond_of c)) (to (target_of slot i.off)) ∷ [])
    (alu-piece (test_of c) w (reg_of i.src) i.dst (reg-lt i.src)) (jump-piece (jcc (cond_of c)) (target_of slot i.off))
slot-piece m Call slot i value n =
    chosen (eqb i.src 0) (helper_call m value) (local_call (target_of slot i.imm)) (helper-piece m value n.wide) (local-piece (target_of slot i.imm))
slot-piece m Exit slot i value n = unnoted _ tt (tt, tt) tt

-- Only a division by a register has a jump that is not listed.
pub data Skipping (k : Kind) (c : Code) : Type 0 where
  divides : (w : Width) → k ≡ MulDivMod Div w Reg → Skipping k c
  none-skips : T (all_listed c) → Skipping k c

computed-listed : (o : MulOp) (w : Width) (operand : Plain) (d : ℕ) → T (all_listed (computed o w (op operand ∷ []) (reg_of d)))
computed-listed o w operand d = register (λ r. all_listed (computed o w (op operand ∷ []) r)) (by o) d
  where
    by : (o : MulOp) → T (every_register (λ r. all_listed (computed o w (op operand ∷ []) r)))
    by Mul = tt
    by Div = tt
    by Mod = tt

imm-listed : (m : Mode) (o : MulOp) (w : Width) (d x : ℕ) → T (all_listed (mul_div_mod_imm m o w (reg_of d) x))
imm-listed m o w d x = by o (eqb x 0)
  where
    p : Plain
    p = loaded m (alu_imm MOV W64 RCX x)

    by : (o : MulOp) (t : Bool) → T (all_listed (pick t (by_zero o (reg_of d)) (computed o w (op p ∷ []) (reg_of d))))
    by Mul true = tt
    by Div true = tt
    by Mod true = tt
    by o false = computed-listed o w p d

-- what standard mode puts ahead has no jump
cleared-listed : (m : Mode) (o : MulOp) (w : Width) (s : Source) (i : Insn) (c : Code) → T (all_listed c) → T (all_listed (cleared m o w s i ++ c))
cleared-listed m o w s i c h = by (clears m o w s i.imm)
  where
    by : (t : Bool) → T (all_listed (when t (lower_half (reg_of i.dst)) ++ c))
    by true = h
    by false = h

truncated-listed : (t : Bool) (d bits : ℕ) → T (all_listed (when t (truncated d bits)))
truncated-listed false d bits = tt
truncated-listed true d bits = by (eqb bits 16) (eqb bits 32)
  where
    by : (s t : Bool) → T (all_listed (pick s (lowest16 d) (pick t (lower_half d) [])))
    by true t = tt
    by false true = tt
    by false false = tt

by-reg-skipping : (m : Mode) (o : MulOp) (w : Width) (slot : ℕ) (i : Insn)
    → Skipping (MulDivMod o w Reg) (cleared m o w Reg i ++ mul_div_mod_reg m o slot w (reg_of i.src) (reg_of i.dst))
by-reg-skipping m Mul w slot i = none-skips (cleared-listed m Mul w Reg i _ (computed-listed Mul w (alu MOV W64 (reg_of i.src) RCX) i.dst))
by-reg-skipping m Div w slot i = divides w refl
by-reg-skipping m Mod w slot i = none-skips (cleared-listed m Mod w Reg i _ (computed-listed Mod w (alu MOV W64 (reg_of i.src) RCX) i.dst))

swap-listed : (d bits : ℕ) → T (all_listed (swap d bits))
swap-listed d bits = by (eqb bits 16) (eqb bits 32)
  where
    by : (s t : Bool) → T (all_listed (pick s (op (rol16 d 8) ∷ op (alu_imm AND W32 d 0xffff) ∷ []) (pick t (op (bswap W32 d) ∷ []) (op (bswap W64 d) ∷ []))))
    by true t = tt
    by false true = tt
    by false false = tt

call-listed : (m : Mode) (slot : ℕ) (i : Insn) (value : ℕ) → T (all_listed (call_code m slot i value))
call-listed m slot i value = by (eqb i.src 0)
  where
    by : (t : Bool) → T (all_listed (pick t (helper_call m value) (local_call (target_of slot i.imm))))
    by true = tt
    by false = tt

pub slot-skipping : (m : Mode) (k : Kind) (slot : ℕ) (i : Insn) (value : ℕ) → Skipping k (slot_code m k slot i value)
slot-skipping m (LdAbs z) slot i value = none-skips tt
slot-skipping m (LdInd z) slot i value = none-skips tt
slot-skipping m LdDwImm slot i value = none-skips tt
slot-skipping m (LdReg z) slot i value = none-skips tt
slot-skipping m (StImm z) slot i value = none-skips tt
slot-skipping m (StReg z) slot i value = none-skips tt
slot-skipping m (Alu o w Imm) slot i value = none-skips tt
slot-skipping m (Alu o w Reg) slot i value = none-skips tt
slot-skipping m (Shift o w Imm) slot i value = none-skips tt
slot-skipping m (Shift o w Reg) slot i value = none-skips tt
slot-skipping m (Neg w) slot i value = none-skips tt
slot-skipping m (MulDivMod o w Imm) slot i value = none-skips (cleared-listed m o w Imm i _ (imm-listed m o w i.dst i.imm))
slot-skipping m (MulDivMod o w Reg) slot i value = by-reg-skipping m o w slot i
slot-skipping m (Mov w Imm) slot i value = none-skips tt
slot-skipping m (Mov w Reg) slot i value = none-skips tt
slot-skipping m Le slot i value = none-skips (truncated-listed m.standard (reg_of i.dst) i.imm)
slot-skipping m Be slot i value = none-skips (swap-listed (reg_of i.dst) i.imm)
slot-skipping m Ja slot i value = none-skips tt
slot-skipping m (Jump c w s) slot i value = none-skips tt
slot-skipping m Call slot i value = none-skips (call-listed m slot i value)
slot-skipping m Exit slot i value = none-skips tt

-- The frame: the same instructions, and their constants.
pub prologue-same : (f : Flags) → instrs (prologue_cells f) ≡ prologue f
unfolding prologue_cells
prologue-same f = instrs-laid false 0 (annotated (prologue f)) ∙ codes-annotated (prologue f)

pub prologue-wf : (f : Flags) → WfCode (prologue f)
unfolding saves packet_start packet_end argument enter prologue
prologue-wf f = by f.use_mbuff f.update_data_ptr
  where
    by : (a b : Bool) → WfCode (prologue (record { use_mbuff = a; update_data_ptr = b }))
    by true true = omega arith
    by true false = omega arith
    by false b = omega arith

pub epilogue-same : instrs epilogue_cells ≡ epilogue
unfolding epilogue_cells
epilogue-same = instrs-laid true framed (annotated epilogue) ∙ codes-annotated epilogue

pub epilogue-wf : WfCode epilogue
unfolding epilogue
epilogue-wf = omega arith
