-- No slot has more than 42 bytes, most have 14 at most, and none lists more than one jump, in every mode.
use mathlib.Core.Path.{◌≡◌}
use mathlib.Core.Bool.{Bool, true, false, not, ◌&&◌}
use mathlib.Core.List.{[], ◌∷◌, ◌++◌}
use Prim.Native.Nat.{ℕ, ◌+◌, ◌%◌, ◌^◌, ◌≤◌}
use native.Mathlib.Omega.{arith}
use native.Mathlib.Nat.{le_trans}
use lib.Dec.{T, eqb, leb, ltb, leb→le}
use lib.ListN.{length, length-append}
use Rattle.base.specs.Pick.{pick}
use Rattle.base.specs.declared.Width.{Width}
use Rattle.base.specs.declared.Width.TheVariants.{W32, W64}
use Rattle.ebpf.specs.declared.insn.Insn.{Insn}
use Rattle.ebpf.specs.declared.kind.Source.{Source}
use Rattle.ebpf.specs.declared.kind.Source.TheVariants.{Imm, Reg}
use Rattle.ebpf.specs.declared.kind.MulOp.{MulOp}
use Rattle.ebpf.specs.declared.kind.MulOp.TheVariants.{Mul, Div, Mod}
use Rattle.ebpf.specs.declared.kind.Kind.{Kind}
use Rattle.ebpf.specs.declared.kind.Kind.TheVariants.{LdAbs, LdInd, LdDwImm, LdReg, StImm, StReg, Alu, Shift, Neg, MulDivMod, Mov, Le, Be, Ja, Jump, Call, Exit}
use Rattle.x86.specs.Registers.{RAX, RCX, RDX}
use Rattle.x86.specs.Instr.{op, push, pop, alu, alu_imm, unary, mov_imm, rol16, bswap, jump, call_reg, ret, MOV, XOR, TEST, MUL, DIV, AND}
use Rattle.x86.specs.Encode.{rex, len, jump_opcode}
use Rattle.x86.proofs.Lengths.{most, rex-most, plain-most}
use Rattle.x86.specs.Code.{Dest, size, targets_of}
use Rattle.x86.proofs.CodeLaws.{size-append, targets-append}
use Rattle.jit.specs.MulDivMod.{Code, when, unless_is, by_zero, guard, operate, from_rax, saved, restored, saves, restores, operated, computed, mul_div_mod_imm, mul_div_mod_reg}
use Rattle.jit.specs.declared.Mode.{Mode}
use Rattle.jit.specs.Constants.{load_imm, loaded}
use Rattle.jit.proofs.Constants.{loaded-length}
use Rattle.jit.specs.Slots.{reg_of, target_of, swap, helper_call, local_call, lower_half, lowest16, clears, cleared, truncated, slot_code}
use Rattle.jit.specs.Room.{short_slot, long_slot}

-- the sum of what each instruction can get, where it is a number
abbrev bound : Code → ℕ
bound [] = 0
bound (op p ∷ c) = most p + bound c
bound (jump j d ∷ c) = length (jump_opcode j) + 4 + bound c
bound (call_reg r ∷ c) = 3 + bound c
bound (ret ∷ c) = 1 + bound c

bounded : (c : Code) → size c ≤ bound c
bounded [] = omega arith
bounded (op p ∷ c) = omega (arith, plain-most p, bounded c)
bounded (jump j d ∷ c) = omega (arith, bounded c)
bounded (call_reg r ∷ c) = omega (arith, rex-most 0 0 r, bounded c)
bounded (ret ∷ c) = omega (arith, bounded c)

listing : (m : ℕ) (c : Code) → T (leb (bound c) m) → size c ≤ m
listing m c t = le_trans (bounded c) (leb→le (bound c) m t)

-- bounds of the parts make bounds of the whole
both : (a b : Code) {j k : ℕ} → size a ≤ j → size b ≤ k → size (a ++ b) ≤ j + k
both a b h g = rw (size-append a b) (omega arith)

chosen : (t : Bool) (a b : Code) {k : ℕ} → size a ≤ k → size b ≤ k → size (pick t a b) ≤ k
chosen true a b h g = h
chosen false a b h g = g

unless : (r s : ℕ) (c : Code) {k : ℕ} → size c ≤ k → size (unless_is r s c) ≤ k
unless r s c h = chosen (eqb r s) [] c (omega arith) h

load-most : (d v : ℕ) → len {D = Dest} (op (load_imm d v)) ≤ 10
unfolding load_imm
load-most d v = by (ltb ((v + 2 ^ 31) % 2 ^ 64) (2 ^ 32))
  where
    by : (t : Bool) → len {D = Dest} (op (pick t (alu_imm MOV W64 d (v % 2 ^ 32)) (mov_imm W64 d v))) ≤ 10
    by true = omega (arith, plain-most (alu_imm MOV W64 d (v % 2 ^ 32)))
    by false = plain-most (mov_imm W64 d v)

-- a constant that is loaded is no longer than in the Rust
constant-most : (m : Mode) (d v : ℕ) → len {D = Dest} (op (loaded m (load_imm d v))) ≤ 10
constant-most m d v = le_trans (loaded-length m (load_imm d v)) (load-most d v)

imm-load-most : (m : Mode) (w : Width) (d v : ℕ) → len {D = Dest} (op (loaded m (alu_imm MOV w d v))) ≤ 7
imm-load-most m w d v = le_trans (loaded-length m (alu_imm MOV w d v)) (plain-most (alu_imm MOV w d v))

operate-most : (o : MulOp) (w : Width) → size (operate o w) ≤ 5
unfolding rex
operate-most Mul w = omega (arith, plain-most (unary MUL w RCX))
operate-most Div w = omega (arith, plain-most (unary DIV w RCX))
operate-most Mod w = omega (arith, plain-most (unary DIV w RCX))

saved-most : (d r : ℕ) → len {D = Dest} (op (push r)) ≤ 1 → size (saved d r) ≤ 1
saved-most d r h = unless d r (op (push r) ∷ []) (omega (arith, h))

restored-most : (d r : ℕ) (b : Bool) {k : ℕ} → size (when b (op (alu MOV W64 r d) ∷ []) ++ (op (pop r) ∷ [])) ≤ k → size (restored d r b) ≤ k
restored-most d r b h = unless d r (when b (op (alu MOV W64 r d) ∷ []) ++ (op (pop r) ∷ [])) h

restores-most : (o : MulOp) (d : ℕ) → size (restores o d) ≤ 5
unfolding rex
restores-most o d = by (from_rax o)
  where
    by : (b : Bool) → size (restored d RDX (not b) ++ restored d RAX b) ≤ 5
    by true =
        both (restored d RDX false) (restored d RAX true) {j = 1} {k = 4} (restored-most d RDX false (omega arith))
        (restored-most d RAX true (omega (arith, plain-most (alu MOV W64 RAX d))))
    by false =
        both (restored d RDX true) (restored d RAX false) {j = 4} {k = 1} (restored-most d RDX true (omega (arith, plain-most (alu MOV W64 RDX d))))
        (restored-most d RAX false (omega arith))

computed-most : (o : MulOp) (w : Width) (operand : Code) (d : ℕ) {k : ℕ} → size operand ≤ k → size (computed o w operand d) ≤ k + 15
unfolding rex
computed-most o w operand d {k} h =
    let t : size (operated o w d) ≤ 13 =
    omega (arith, plain-most (alu MOV W64 d RAX), both (operate o w) (restores o d) (operate-most o w) (restores-most o d)) in
    let s : size (saves d) ≤ 2 = both (saved d RAX) (saved d RDX) (saved-most d RAX (omega arith)) (saved-most d RDX (omega arith)) in
    omega (arith, both (saves d) (operand ++ operated o w d) s (both operand (operated o w d) h t))

guard-most : (m : Mode) (o : MulOp) (slot : ℕ) (w : Width) (s d : ℕ) → size (guard m o slot w s d) ≤ 24
guard-most m Mul slot w s d = omega arith
guard-most m Div slot w s d = omega (arith, imm-load-most m W64 RCX slot, plain-most (alu TEST w s s), plain-most (alu XOR W32 d d))
guard-most m Mod slot w s d = omega (arith, imm-load-most m W64 RCX slot, plain-most (alu TEST w s s))

zero-most : (o : MulOp) (d : ℕ) → size (by_zero o d) ≤ 3
zero-most Mul d = omega (arith, plain-most (alu XOR W32 d d))
zero-most Div d = omega (arith, plain-most (alu XOR W32 d d))
zero-most Mod d = omega arith

imm-most : (m : Mode) (o : MulOp) (w : Width) (d i : ℕ) → size (mul_div_mod_imm m o w d i) ≤ 22
imm-most m o w d i =
    chosen (eqb i 0) (by_zero o d) (computed o w (op (loaded m (alu_imm MOV W64 RCX i)) ∷ []) d) (omega (arith, zero-most o d))
    (omega (arith, computed-most o w (op (loaded m (alu_imm MOV W64 RCX i)) ∷ []) d {k = 7} (omega (arith, imm-load-most m W64 RCX i))))

reg-most : (m : Mode) (o : MulOp) (slot : ℕ) (w : Width) (s d : ℕ) → size (mul_div_mod_reg m o slot w s d) ≤ long_slot
reg-most m o slot w s d =
    both (guard m o slot w s d) (computed o w (op (alu MOV W64 s RCX) ∷ []) d) (guard-most m o slot w s d)
    (computed-most o w (op (alu MOV W64 s RCX) ∷ []) d {k = 3} (omega (arith, plain-most (alu MOV W64 s RCX))))

-- MOD has a shorter guard than DIV, and so room for what standard mode puts ahead of it
mod-most : (m : Mode) (slot : ℕ) (w : Width) (s d : ℕ) → size (mul_div_mod_reg m Mod slot w s d) ≤ 34
mod-most m slot w s d =
    both (guard m Mod slot w s d) (computed Mod w (op (alu MOV W64 s RCX) ∷ []) d) {j = 16} {k = 18}
    (omega (arith, imm-load-most m W64 RCX slot, plain-most (alu TEST w s s)))
    (computed-most Mod w (op (alu MOV W64 s RCX) ∷ []) d {k = 3} (omega (arith, plain-most (alu MOV W64 s RCX))))

lower-most : (d : ℕ) → size (lower_half d) ≤ 3
lower-most d = listing 3 (lower_half d) tt

cleared-most : (m : Mode) (o : MulOp) (w : Width) (s : Source) (i : Insn) → size (cleared m o w s i) ≤ 3
cleared-most m o w s i =
    chosen (clears m o w s i.imm) (lower_half (reg_of i.dst)) [] (lower-most (reg_of i.dst)) (omega arith)

by-imm-most : (m : Mode) (o : MulOp) (w : Width) (i : Insn) → size (cleared m o w Imm i ++ mul_div_mod_imm m o w (reg_of i.dst) i.imm) ≤ long_slot
by-imm-most m o w i =
    let d = reg_of i.dst in
    omega (arith, both (cleared m o w Imm i) (mul_div_mod_imm m o w d i.imm) (cleared-most m o w Imm i) (imm-most m o w d i.imm))

by-reg-most : (m : Mode) (o : MulOp) (slot : ℕ) (w : Width) (i : Insn)
    → size (cleared m o w Reg i ++ mul_div_mod_reg m o slot w (reg_of i.src) (reg_of i.dst)) ≤ long_slot
by-reg-most m o slot w i = by o
  where
    s : ℕ
    s = reg_of i.src

    d : ℕ
    d = reg_of i.dst

    -- nothing is put ahead of MUL and DIV
    alone : (o : MulOp) (b : Bool) → size (when (b && false) (lower_half d) ++ mul_div_mod_reg m o slot w s d) ≤ long_slot
    alone o true = reg-most m o slot w s d
    alone o false = reg-most m o slot w s d

    by : (o : MulOp) → size (cleared m o w Reg i ++ mul_div_mod_reg m o slot w s d) ≤ long_slot
    by Mul = alone Mul m.standard
    by Div = alone Div m.standard
    by Mod = omega (arith, both (cleared m Mod w Reg i) (mul_div_mod_reg m Mod slot w s d) (cleared-most m Mod w Reg i) (mod-most m slot w s d))

truncated-most : (d bits : ℕ) → size (truncated d bits) ≤ short_slot
truncated-most d bits =
    chosen (eqb bits 16) (lowest16 d) (pick (eqb bits 32) (lower_half d) []) (listing short_slot (lowest16 d) tt)
    (chosen (eqb bits 32) (lower_half d) [] (omega (arith, lower-most d)) (omega arith))

swap-most : (d bits : ℕ) → size (swap d bits) ≤ short_slot
swap-most d bits =
    chosen (eqb bits 16) (op (rol16 d 8) ∷ op (alu_imm AND W32 d 0xffff) ∷ []) (pick (eqb bits 32) (op (bswap W32 d) ∷ []) (op (bswap W64 d) ∷ []))
    (omega (arith, plain-most (rol16 d 8), plain-most (alu_imm AND W32 d 0xffff)))
    (chosen (eqb bits 32) (op (bswap W32 d) ∷ []) (op (bswap W64 d) ∷ []) (omega (arith, plain-most (bswap W32 d))) (omega (arith, plain-most (bswap W64 d))))

call-most : (m : Mode) (t : Bool) (value target : ℕ) → size (pick t (helper_call m value) (local_call target)) ≤ long_slot
unfolding rex
call-most m t value target = chosen t (helper_call m value) (local_call target) (omega (arith, constant-most m RAX value)) (omega arith)

-- a division and a call are the long ones
abbrev pub most_of : Kind → ℕ
most_of (LdAbs z) = short_slot
most_of (LdInd z) = short_slot
most_of LdDwImm = short_slot
most_of (LdReg z) = short_slot
most_of (StImm z) = short_slot
most_of (StReg z) = short_slot
most_of (Alu o w s) = short_slot
most_of (Shift o w s) = short_slot
most_of (Neg w) = short_slot
most_of (MulDivMod o w s) = long_slot
most_of (Mov w s) = short_slot
most_of Le = short_slot
most_of Be = short_slot
most_of Ja = short_slot
most_of (Jump c w s) = short_slot
most_of Call = long_slot
most_of Exit = short_slot

pub slot-within : (m : Mode) (k : Kind) (slot : ℕ) (i : Insn) (value : ℕ) → size (slot_code m k slot i value) ≤ most_of k
slot-within m (LdAbs z) slot i value = listing short_slot (slot_code m (LdAbs z) slot i value) tt
slot-within m (LdInd z) slot i value = listing short_slot (slot_code m (LdInd z) slot i value) tt
slot-within m LdDwImm slot i value = omega (arith, constant-most m (reg_of i.dst) value)
slot-within m (LdReg z) slot i value = listing short_slot (slot_code m (LdReg z) slot i value) tt
slot-within m (StImm z) slot i value = listing short_slot (slot_code m (StImm z) slot i value) tt
slot-within m (StReg z) slot i value = listing short_slot (slot_code m (StReg z) slot i value) tt
slot-within m (Alu o w Imm) slot i value = listing short_slot (slot_code m (Alu o w Imm) slot i value) tt
slot-within m (Alu o w Reg) slot i value = listing short_slot (slot_code m (Alu o w Reg) slot i value) tt
slot-within m (Shift o w Imm) slot i value = listing short_slot (slot_code m (Shift o w Imm) slot i value) tt
slot-within m (Shift o w Reg) slot i value = listing short_slot (slot_code m (Shift o w Reg) slot i value) tt
slot-within m (Neg w) slot i value = listing short_slot (slot_code m (Neg w) slot i value) tt
slot-within m (MulDivMod o w Imm) slot i value = by-imm-most m o w i
slot-within m (MulDivMod o w Reg) slot i value = by-reg-most m o slot w i
slot-within m (Mov w Imm) slot i value = omega (arith, imm-load-most m w (reg_of i.dst) i.imm)
slot-within m (Mov w Reg) slot i value = listing short_slot (slot_code m (Mov w Reg) slot i value) tt
slot-within m Le slot i value = let d = reg_of i.dst in chosen m.standard (truncated d i.imm) [] (truncated-most d i.imm) (omega arith)
slot-within m Be slot i value = swap-most (reg_of i.dst) i.imm
slot-within m Ja slot i value = listing short_slot (slot_code m Ja slot i value) tt
slot-within m (Jump c w Imm) slot i value = listing short_slot (slot_code m (Jump c w Imm) slot i value) tt
slot-within m (Jump c w Reg) slot i value = listing short_slot (slot_code m (Jump c w Reg) slot i value) tt
slot-within m Call slot i value = call-most m (eqb i.src 0) value (target_of slot i.imm)
slot-within m Exit slot i value = listing short_slot (slot_code m Exit slot i value) tt

pub slot-most : (m : Mode) (k : Kind) (slot : ℕ) (i : Insn) (value : ℕ) → size (slot_code m k slot i value) ≤ long_slot
slot-most m k slot i value = le_trans (slot-within m k slot i value) (by k)
  where
    by : (k : Kind) → most_of k ≤ long_slot
    by (LdAbs z) = omega arith
    by (LdInd z) = omega arith
    by LdDwImm = omega arith
    by (LdReg z) = omega arith
    by (StImm z) = omega arith
    by (StReg z) = omega arith
    by (Alu o w s) = omega arith
    by (Shift o w s) = omega arith
    by (Neg w) = omega arith
    by (MulDivMod o w s) = omega arith
    by (Mov w s) = omega arith
    by Le = omega arith
    by Be = omega arith
    by Ja = omega arith
    by (Jump c w s) = omega arith
    by Call = omega arith
    by Exit = omega arith

-- The listed jumps of a slot: one at most.
abbrev jumps_in : Code → ℕ
jumps_in c = length (targets_of c)

jumps-both : (a b : Code) → jumps_in (a ++ b) ≡ jumps_in a + jumps_in b
jumps-both a b = rw (targets-append a b) (length-append (targets_of a) (targets_of b))

jumps-chosen : (t : Bool) (a b : Code) {k : ℕ} → jumps_in a ≤ k → jumps_in b ≤ k → jumps_in (pick t a b) ≤ k
jumps-chosen true a b h g = h
jumps-chosen false a b h g = g

jumps-unless : (r s : ℕ) (c : Code) → jumps_in c ≤ 0 → jumps_in (unless_is r s c) ≤ 0
jumps-unless r s c h = jumps-chosen (eqb r s) [] c (omega arith) h

restores-none : (o : MulOp) (d : ℕ) → jumps_in (restores o d) ≤ 0
restores-none o d = by (from_rax o)
  where
    each : (r : ℕ) (b : Bool) → jumps_in (restored d r b) ≤ 0
    each r true = jumps-unless d r (op (alu MOV W64 r d) ∷ op (pop r) ∷ []) (omega arith)
    each r false = jumps-unless d r (op (pop r) ∷ []) (omega arith)

    by : (b : Bool) → jumps_in (restored d RDX (not b) ++ restored d RAX b) ≤ 0
    by b = rw (jumps-both (restored d RDX (not b)) (restored d RAX b)) (omega (arith, each RDX (not b), each RAX b))

operate-none : (o : MulOp) (w : Width) → jumps_in (operate o w) ≤ 0
operate-none Mul w = omega arith
operate-none Div w = omega arith
operate-none Mod w = omega arith

pub computed-none : (o : MulOp) (w : Width) (operand : Code) (d : ℕ) → jumps_in operand ≤ 0 → jumps_in (computed o w operand d) ≤ 0
computed-none o w operand d h =
    rw (jumps-both (saves d) (operand ++ operated o w d), jumps-both operand (operated o w d), jumps-both (saved d RAX) (saved d RDX), jumps-both (operate o w) (restores o d))
    (omega (arith, jumps-unless d RAX (op (push RAX) ∷ []) (omega arith), jumps-unless d RDX (op (push RDX) ∷ []) (omega arith), operate-none o w, restores-none o d))

guard-jumps : (m : Mode) (o : MulOp) (slot : ℕ) (w : Width) (s d : ℕ) → jumps_in (guard m o slot w s d) ≤ 1
guard-jumps m Mul slot w s d = omega arith
guard-jumps m Div slot w s d = omega arith
guard-jumps m Mod slot w s d = omega arith

pub zero-none : (o : MulOp) (d : ℕ) → jumps_in (by_zero o d) ≤ 0
zero-none Mul d = omega arith
zero-none Div d = omega arith
zero-none Mod d = omega arith

pub imm-jumps : (m : Mode) (o : MulOp) (w : Width) (d i : ℕ) → length (targets_of (mul_div_mod_imm m o w d i)) ≤ 0
imm-jumps m o w d i =
    jumps-chosen (eqb i 0) (by_zero o d) (computed o w (op (loaded m (alu_imm MOV W64 RCX i)) ∷ []) d) (zero-none o d)
    (computed-none o w (op (loaded m (alu_imm MOV W64 RCX i)) ∷ []) d (omega arith))

pub swap-jumps : (d bits : ℕ) → length (targets_of (swap d bits)) ≤ 0
swap-jumps d bits =
    jumps-chosen (eqb bits 16) (op (rol16 d 8) ∷ op (alu_imm AND W32 d 0xffff) ∷ []) (pick (eqb bits 32) (op (bswap W32 d) ∷ []) (op (bswap W64 d) ∷ []))
    (omega arith)
    (jumps-chosen (eqb bits 32) (op (bswap W32 d) ∷ []) (op (bswap W64 d) ∷ []) (omega arith) (omega arith))

pub cleared-jumps : (m : Mode) (o : MulOp) (w : Width) (s : Source) (i : Insn) → length (targets_of (cleared m o w s i)) ≤ 0
cleared-jumps m o w s i = jumps-chosen (clears m o w s i.imm) (lower_half (reg_of i.dst)) [] (omega arith) (omega arith)

pub truncated-jumps : (m : Mode) (d bits : ℕ) → length (targets_of (when m.standard (truncated d bits))) ≤ 0
truncated-jumps m d bits =
    jumps-chosen m.standard (truncated d bits) []
    (jumps-chosen (eqb bits 16) (lowest16 d) (pick (eqb bits 32) (lower_half d) []) (omega arith)
    (jumps-chosen (eqb bits 32) (lower_half d) [] (omega arith) (omega arith)))
    (omega arith)

pub slot-jumps : (m : Mode) (k : Kind) (slot : ℕ) (i : Insn) (value : ℕ) → length (targets_of (slot_code m k slot i value)) ≤ 1
slot-jumps m (LdAbs z) slot i value = omega arith
slot-jumps m (LdInd z) slot i value = omega arith
slot-jumps m LdDwImm slot i value = omega arith
slot-jumps m (LdReg z) slot i value = omega arith
slot-jumps m (StImm z) slot i value = omega arith
slot-jumps m (StReg z) slot i value = omega arith
slot-jumps m (Alu o w Imm) slot i value = omega arith
slot-jumps m (Alu o w Reg) slot i value = omega arith
slot-jumps m (Shift o w Imm) slot i value = omega arith
slot-jumps m (Shift o w Reg) slot i value = omega arith
slot-jumps m (Neg w) slot i value = omega arith
slot-jumps m (MulDivMod o w Imm) slot i value =
    let d = reg_of i.dst in
    rw (jumps-both (cleared m o w Imm i) (mul_div_mod_imm m o w d i.imm)) (omega (arith, cleared-jumps m o w Imm i, imm-jumps m o w d i.imm))
slot-jumps m (MulDivMod o w Reg) slot i value =
    let s = reg_of i.src in
    let d = reg_of i.dst in
    rw (jumps-both (cleared m o w Reg i) (mul_div_mod_reg m o slot w s d), jumps-both (guard m o slot w s d) (computed o w (op (alu MOV W64 s RCX) ∷ []) d))
    (omega (arith, cleared-jumps m o w Reg i, guard-jumps m o slot w s d, computed-none o w (op (alu MOV W64 s RCX) ∷ []) d (omega arith)))
slot-jumps m (Mov w Imm) slot i value = omega arith
slot-jumps m (Mov w Reg) slot i value = omega arith
slot-jumps m Le slot i value = omega (arith, truncated-jumps m (reg_of i.dst) i.imm)
slot-jumps m Be slot i value = omega (arith, swap-jumps (reg_of i.dst) i.imm)
slot-jumps m Ja slot i value = omega arith
slot-jumps m (Jump c w Imm) slot i value = omega arith
slot-jumps m (Jump c w Reg) slot i value = omega arith
slot-jumps m Call slot i value = jumps-chosen (eqb i.src 0) (helper_call m value) (local_call (target_of slot i.imm)) (omega arith) (omega arith)
slot-jumps m Exit slot i value = omega arith
