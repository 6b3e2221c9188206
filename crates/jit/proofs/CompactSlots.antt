-- With `compact` the code of a slot is its code without, each constant in its shorter form; which is no longer, and has the same jumps
-- (specs/Compact.antt).
use mathlib.Core.Path.{◌≡◌, refl, ap, sym}
use mathlib.Core.Bool.{Bool, true, false, not}
use mathlib.Core.List.{[], ◌∷◌, ◌++◌}
use Prim.Native.Nat.{ℕ, ◌≤◌}
use native.Mathlib.Omega.{arith}
use lib.Dec.{eqb}
use Rattle.base.specs.Pick.{pick}
use Rattle.base.specs.declared.Width.{Width}
use Rattle.base.specs.declared.Width.TheVariants.{W32, W64}
use Rattle.ebpf.specs.declared.insn.Insn.{Insn}
use Rattle.ebpf.specs.declared.kind.Source.{Source}
use Rattle.ebpf.specs.declared.kind.Source.TheVariants.{Imm, Reg}
use Rattle.ebpf.specs.declared.kind.AluOp.{AluOp}
use Rattle.ebpf.specs.declared.kind.AluOp.TheVariants.{Add, Sub, Or, And, Xor}
use Rattle.ebpf.specs.declared.kind.MulOp.{MulOp}
use Rattle.ebpf.specs.declared.kind.MulOp.TheVariants.{Mul, Div, Mod}
use Rattle.ebpf.specs.declared.kind.Condition.{Condition}
use Rattle.ebpf.specs.declared.kind.Condition.TheVariants.{Jeq, Jgt, Jge, Jset, Jne, Jsgt, Jsge, Jlt, Jle, Jslt, Jsle}
use Rattle.ebpf.specs.declared.kind.Kind.{Kind}
use Rattle.ebpf.specs.declared.kind.Kind.TheVariants.{LdAbs, LdInd, LdDwImm, LdReg, StImm, StReg, Alu, Shift, Neg, MulDivMod, Mov, Le, Be, Ja, Jump, Call, Exit}
use Rattle.x86.specs.Registers.{RAX, RCX, RDX}
use Rattle.x86.specs.Instr.{op, push, pop, alu, alu_imm, rol16, bswap, jump, jcc, call_reg, ret, MOV, AND}
use Rattle.x86.specs.Code.{to, size, targets_of, kinds_of}
use Rattle.jit.specs.declared.Mode.{Mode}
use Rattle.jit.specs.Constants.{loaded}
use Rattle.jit.specs.MulDivMod.{Code, unless_is, by_zero, guard, operate, from_rax, saved, restored, saves, restores, operated, computed}
use Rattle.jit.specs.Slots.{reg_of, target_of, cond_of, swap, helper_call, local_call, lower_half, lowest16, clears, cleared, truncated, compare, mul_div_mod_code, slot_code}
use Rattle.jit.specs.Compact.{compact_off, compact_on, shortened, shortened_code}
use Rattle.jit.proofs.Constants.{shorter-length}

-- Lists of instructions.
pub shortened-append : (a b : Code) → shortened_code (a ++ b) ≡ shortened_code a ++ shortened_code b
shortened-append [] b = refl
shortened-append (i ∷ a) b = ap (λ (c : Code). shortened i ∷ c) (shortened-append a b)

pub short : (c : Code) → size (shortened_code c) ≤ size c
short [] = omega arith
short (op p ∷ c) = omega (arith, shorter-length p, short c)
short (jump j d ∷ c) = omega (arith, short c)
short (call_reg r ∷ c) = omega (arith, short c)
short (ret ∷ c) = omega (arith, short c)

pub same-targets : (c : Code) → targets_of (shortened_code c) ≡ targets_of c
same-targets [] = refl
same-targets (op p ∷ c) = same-targets c
same-targets (jump j d ∷ c) = rw (same-targets c)
same-targets (call_reg r ∷ c) = same-targets c
same-targets (ret ∷ c) = same-targets c

pub same-kinds : (c : Code) → kinds_of (shortened_code c) ≡ kinds_of c
same-kinds [] = refl
same-kinds (op p ∷ c) = same-kinds c
same-kinds (jump j d ∷ c) = rw (same-kinds c)
same-kinds (call_reg r ∷ c) = same-kinds c
same-kinds (ret ∷ c) = same-kinds c

-- Code that loads no constant is left as it is.
abbrev Left : Code → Type 0
Left c = shortened_code c ≡ c

left_both : (a b : Code) → Left a → Left b → Left (a ++ b)
left_both a b h g = rw (shortened-append a b, h, g)

left-chosen : (t : Bool) (a b : Code) → Left a → Left b → Left (pick t a b)
left-chosen true a b h g = h
left-chosen false a b h g = g

left-unless : (r s : ℕ) (c : Code) → Left c → Left (unless_is r s c)
left-unless r s c h = left-chosen (eqb r s) [] c refl h

left-saves : (d : ℕ) → Left (saves d)
left-saves d = left_both (saved d RAX) (saved d RDX) (left-unless d RAX (op (push RAX) ∷ []) refl) (left-unless d RDX (op (push RDX) ∷ []) refl)

left-restored : (d r : ℕ) (b : Bool) → Left (restored d r b)
left-restored d r true = left-unless d r (op (alu MOV W64 r d) ∷ op (pop r) ∷ []) refl
left-restored d r false = left-unless d r (op (pop r) ∷ []) refl

left-operate : (o : MulOp) (w : Width) → Left (operate o w)
left-operate Mul w = refl
left-operate Div w = refl
left-operate Mod w = refl

left-operated : (o : MulOp) (w : Width) (d : ℕ) → Left (operated o w d)
left-operated o w d =
    let rest = left_both (restored d RDX (not (from_rax o))) (restored d RAX (from_rax o)) (left-restored d RDX (not (from_rax o))) (left-restored d RAX (from_rax o)) in
    ap (λ (c : Code). op (alu MOV W64 d RAX) ∷ c) (left_both (operate o w) (restores o d) (left-operate o w) rest)

left-zero : (o : MulOp) (d : ℕ) → Left (by_zero o d)
left-zero Mul d = refl
left-zero Div d = refl
left-zero Mod d = refl

left-cleared : (m : Mode) (o : MulOp) (w : Width) (s : Source) (i : Insn) → Left (cleared m o w s i)
left-cleared m o w s i = left-chosen (clears m o w s i.imm) (lower_half (reg_of i.dst)) [] refl refl

left-truncated : (d bits : ℕ) → Left (truncated d bits)
left-truncated d bits = left-chosen (eqb bits 16) (lowest16 d) (pick (eqb bits 32) (lower_half d) []) refl (left-chosen (eqb bits 32) (lower_half d) [] refl refl)

left-swap : (d bits : ℕ) → Left (swap d bits)
left-swap d bits =
    left-chosen (eqb bits 16) (op (rol16 d 8) ∷ op (alu_imm AND W32 d 0xffff) ∷ []) (pick (eqb bits 32) (op (bswap W32 d) ∷ []) (op (bswap W64 d) ∷ [])) refl
    (left-chosen (eqb bits 32) (op (bswap W32 d) ∷ []) (op (bswap W64 d) ∷ []) refl refl)

left-alu : (o : AluOp) (w : Width) (s : Source) (m : Mode) (slot : ℕ) (i : Insn) (value : ℕ) → Left (slot_code m (Alu o w s) slot i value)
left-alu Add w Imm m slot i value = refl
left-alu Sub w Imm m slot i value = refl
left-alu Or w Imm m slot i value = refl
left-alu And w Imm m slot i value = refl
left-alu Xor w Imm m slot i value = refl
left-alu o w Reg m slot i value = refl

left-compare : (c : Condition) (w : Width) (s : Source) (i : Insn) → Left (op (compare c w s i) ∷ [])
left-compare Jeq w Imm i = refl
left-compare Jgt w Imm i = refl
left-compare Jge w Imm i = refl
left-compare Jset w Imm i = refl
left-compare Jne w Imm i = refl
left-compare Jsgt w Imm i = refl
left-compare Jsge w Imm i = refl
left-compare Jlt w Imm i = refl
left-compare Jle w Imm i = refl
left-compare Jslt w Imm i = refl
left-compare Jsle w Imm i = refl
left-compare c w Reg i = refl

-- Multiplication, division and modulo: the second operand, and ahead of it the slot's number.
computed-shortened : (o : MulOp) (w : Width) (operand : Code) (d : ℕ) → computed o w (shortened_code operand) d ≡ shortened_code (computed o w operand d)
computed-shortened o w operand d =
    rw (shortened-append (saves d) (operand ++ operated o w d), shortened-append operand (operated o w d), left-saves d, left-operated o w d)

module _ (m : Mode) (slot : ℕ) (i : Insn) where
  abbrev d : ℕ
  d = reg_of i.dst

  by-imm : (o : MulOp) (w : Width) → mul_div_mod_code (compact_on m) o w Imm slot i ≡ shortened_code (mul_div_mod_code (compact_off m) o w Imm slot i)
  by-imm o w = by (eqb i.imm 0)
    where
      by : (t : Bool) → pick t (by_zero o d) (computed o w (op (loaded (compact_on m) (alu_imm MOV W64 RCX i.imm)) ∷ []) d)
          ≡ shortened_code (pick t (by_zero o d) (computed o w (op (loaded (compact_off m) (alu_imm MOV W64 RCX i.imm)) ∷ []) d))
      by true = sym (left-zero o d)
      by false = computed-shortened o w (op (loaded (compact_off m) (alu_imm MOV W64 RCX i.imm)) ∷ []) d

  guard-shortened : (o : MulOp) (w : Width) (s : ℕ) → guard (compact_on m) o slot w s d ≡ shortened_code (guard (compact_off m) o slot w s d)
  guard-shortened Mul w s = refl
  guard-shortened Div w s = refl
  guard-shortened Mod w s = refl

  by-reg : (o : MulOp) (w : Width) → mul_div_mod_code (compact_on m) o w Reg slot i ≡ shortened_code (mul_div_mod_code (compact_off m) o w Reg slot i)
  by-reg o w =
      let s = reg_of i.src in
      let rest = computed o w (op (alu MOV W64 s RCX) ∷ []) d in
      rw (shortened-append (guard (compact_off m) o slot w s d) rest, guard-shortened o w s, ← computed-shortened o w (op (alu MOV W64 s RCX) ∷ []) d)

  by-source : (o : MulOp) (w : Width) (s : Source) → mul_div_mod_code (compact_on m) o w s slot i ≡ shortened_code (mul_div_mod_code (compact_off m) o w s slot i)
  by-source o w Imm = by-imm o w
  by-source o w Reg = by-reg o w

  divided : (o : MulOp) (w : Width) (s : Source) (value : ℕ)
      → slot_code (compact_on m) (MulDivMod o w s) slot i value ≡ shortened_code (slot_code (compact_off m) (MulDivMod o w s) slot i value)
  divided o w s value =
      rw (shortened-append (cleared m o w s i) (mul_div_mod_code (compact_off m) o w s slot i), left-cleared m o w s i, by-source o w s)

  called : (value : ℕ) → slot_code (compact_on m) Call slot i value ≡ shortened_code (slot_code (compact_off m) Call slot i value)
  called value = by (eqb i.src 0)
    where
      by : (t : Bool) → pick t (helper_call (compact_on m) value) (local_call (target_of slot i.imm))
          ≡ shortened_code (pick t (helper_call (compact_off m) value) (local_call (target_of slot i.imm)))
      by true = refl
      by false = refl

pub slots : (m : Mode) (k : Kind) (slot : ℕ) (i : Insn) (value : ℕ)
    → slot_code (compact_on m) k slot i value ≡ shortened_code (slot_code (compact_off m) k slot i value)
slots m (LdAbs z) slot i value = refl
slots m (LdInd z) slot i value = refl
slots m LdDwImm slot i value = refl
slots m (LdReg z) slot i value = refl
slots m (StImm z) slot i value = refl
slots m (StReg z) slot i value = refl
slots m (Alu o w s) slot i value = sym (left-alu o w s m slot i value)
slots m (Shift o w Imm) slot i value = refl
slots m (Shift o w Reg) slot i value = refl
slots m (Neg w) slot i value = refl
slots m (MulDivMod o w s) slot i value = divided m slot i o w s value
slots m (Mov w Imm) slot i value = refl
slots m (Mov w Reg) slot i value = refl
slots m Le slot i value = let d = reg_of i.dst in sym (left-chosen m.standard (truncated d i.imm) [] (left-truncated d i.imm) refl)
slots m Be slot i value = sym (left-swap (reg_of i.dst) i.imm)
slots m Ja slot i value = refl
slots m (Jump c w s) slot i value =
    sym (ap (λ (l : Code). l ++ jump (jcc (cond_of c)) (to (target_of slot i.off)) ∷ []) (left-compare c w s i))
slots m Call slot i value = called m slot i value
slots m Exit slot i value = refl
