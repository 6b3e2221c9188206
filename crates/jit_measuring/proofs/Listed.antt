-- The targets that each kind of slot lists, and what comes behind it.
use Rattle.std.proofs.Common.{Some, None}
use mathlib.Core.Path.{◌≡◌, ◌∙◌, refl}
use mathlib.Core.Bool.{Bool, true, false}
use mathlib.Core.List.{[], ◌∷◌, append-nil}
use Prim.Native.Nat.{ℕ, ◌+◌, ◌<◌, ◌≤◌}
use native.Mathlib.Omega.{arith}
use borrow.Author.Tests.{le-leb, eq-eqb, ne_eqb}
use Rattle.base.specs.Pick.{pick}
use Rattle.base.proofs.Lists.{empty}
use Rattle.base.specs.declared.Width.{Width}
use Rattle.base.specs.declared.Width.TheVariants.{W64}
use Rattle.ebpf.specs.declared.insn.Insn.{Insn}
use Rattle.ebpf.specs.declared.kind.Source.{Source}
use Rattle.ebpf.specs.declared.kind.Source.TheVariants.{Imm, Reg}
use Rattle.ebpf.specs.declared.kind.MulOp.{MulOp}
use Rattle.ebpf.specs.declared.kind.MulOp.TheVariants.{Mul, Div, Mod}
use Rattle.ebpf.specs.declared.kind.Condition.{Condition}
use Rattle.ebpf.specs.declared.kind.Kind.TheVariants.{MulDivMod}
use Rattle.x86.specs.Registers.{RCX}
use Rattle.x86.specs.Instr.{op, alu, MOV}
use Rattle.x86.specs.Code.{targets_of}
use Rattle.x86.proofs.CodeLaws.{targets-append}
use Rattle.jit.specs.declared.Mode.{Mode}
use Rattle.jit.specs.MulDivMod.{Code, when, guard, computed}
use Rattle.jit.specs.Slots.{reg_of, target_of, mul_div_mod_code, cleared, truncated, jump_code, swap, call_code, slot_code}
use Rattle.jit.specs.Translation.{at, bad_in, good_target}
use Rattle.jit.proofs.SlotSize.{computed-none, imm-jumps, swap-jumps, cleared-jumps, truncated-jumps}
use Rattle.jit_measuring.specs.declared.measure.Next.TheVariants.{Following, Lost}
use Rattle.jit_measuring.specs.Looks.{wide_of, bad_of}

pub jump-lists : (c : Condition) (w : Width) (s : Source) (slot : ℕ) (i : Insn) → targets_of (jump_code c w s slot i) ≡ target_of slot i.off ∷ []
jump-lists c w Imm slot i = refl
jump-lists c w Reg slot i = refl

pub le-lists : (m : Mode) (i : Insn) → targets_of (when m.standard (truncated (reg_of i.dst) i.imm)) ≡ []
le-lists m i = empty _ (truncated-jumps m (reg_of i.dst) i.imm)

pub swap-lists : (i : Insn) → targets_of (swap (reg_of i.dst) i.imm) ≡ []
swap-lists i = empty _ (swap-jumps (reg_of i.dst) i.imm)

pub helper-lists : (m : Mode) (slot : ℕ) (i : Insn) (v : ℕ) → i.src ≡ 0 → targets_of (call_code m slot i v) ≡ []
helper-lists m slot i v e = rw (eq-eqb _ _ e)

pub local-lists : (m : Mode) (slot : ℕ) (i : Insn) (v : ℕ) → ¬ (i.src ≡ 0) → targets_of (call_code m slot i v) ≡ target_of slot i.imm ∷ []
local-lists m slot i v e = rw (ne_eqb _ _ e)

-- what the guard of a divisor lists, all of the slot does
guarded : (m : Mode) (o : MulOp) (w : Width) (slot : ℕ) (i : Insn)
    → targets_of (mul_div_mod_code m o w Reg slot i) ≡ targets_of (guard m o slot w (reg_of i.src) (reg_of i.dst))
guarded m o w slot i =
    let s = reg_of i.src in
    let d = reg_of i.dst in
    let operand = op (alu MOV W64 s RCX) ∷ [] in
    let none = empty (targets_of (computed o w operand d)) (computed-none o w operand d (omega arith)) in
    targets-append (guard m o slot w s d) (computed o w operand d) ∙ rw none (append-nil (targets_of (guard m o slot w s d)))

-- a target up to n is good
pub near-good : (n slot t : ℕ) (c : Code) → targets_of c ≡ t ∷ [] → t ≤ n → bad_in n slot (targets_of c) ≡ None
unfolding good_target
near-good n slot t c e h = rw (e, le-leb _ _ h)

pub none-good : (n slot : ℕ) (c : Code) → targets_of c ≡ [] → bad_in n slot (targets_of c) ≡ None
none-good n slot c e = rw e

-- multiplication and division list no jump, or one to the next slot
operation-good : (m : Mode) (n slot : ℕ) (o : MulOp) (w : Width) (s : Source) (i : Insn) → slot < n
    → bad_in n slot (targets_of (mul_div_mod_code m o w s slot i)) ≡ None
operation-good m n slot o w Imm i h = none-good n slot (mul_div_mod_code m o w Imm slot i) (empty _ (imm-jumps m o w (reg_of i.dst) i.imm))
operation-good m n slot Mul w Reg i h = none-good n slot (mul_div_mod_code m Mul w Reg slot i) (guarded m Mul w slot i)
operation-good m n slot Div w Reg i h = near-good n slot (slot + 1) (mul_div_mod_code m Div w Reg slot i) (guarded m Div w slot i) (omega (arith, h))
operation-good m n slot Mod w Reg i h = near-good n slot (slot + 1) (mul_div_mod_code m Mod w Reg slot i) (guarded m Mod w slot i) (omega (arith, h))

-- .. and what standard mode puts ahead of them none
pub divide-good : (m : Mode) (n slot : ℕ) (o : MulOp) (w : Width) (s : Source) (i : Insn) → slot < n
    → bad_in n slot (targets_of (slot_code m (MulDivMod o w s) slot i 0)) ≡ None
divide-good m n slot o w s i h =
    let none = empty (targets_of (cleared m o w s i)) (cleared-jumps m o w s i) in
    rw (targets-append (cleared m o w s i) (mul_div_mod_code m o w s slot i), none) (operation-good m n slot o w s i h)

-- a slot with one target is followed by the next one, well or not
pub next-jump : (n slot t : ℕ)
    → (false ≡ wide_of (pick (good_target n t) Following Lost)) × (bad_in n slot (t ∷ []) ≡ bad_of (pick (good_target n t) Following Lost) slot)
next-jump n slot t = by (good_target n t)
  where
    by : (b : Bool) → (false ≡ wide_of (pick b Following Lost)) × (pick b None (Some (at slot)) ≡ bad_of (pick b Following Lost) slot)
    by true = (refl, refl)
    by false = (refl, refl)
