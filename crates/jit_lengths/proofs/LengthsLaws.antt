-- Lengths of instructions, put together from those of their parts.
use Rattle.std.proofs.Common.{◌≡◌, ℕ, ◌+◌, ◌%◌, ◌^◌, ◌<◌, ◌≤◌, Bool, true, false, ◌&&◌, ltb, List, [], ◌∷◌, ◌++◌, length, refl, arith, length-append, lt-ltb, eq-eqb, ne_eqb}
use Rattle.base.specs.Pick.{pick}
use Rattle.base.specs.Bytes.{le32}
use Rattle.base.specs.declared.Width.{Width}
use Rattle.base.specs.declared.Width.TheVariants.{W32, W64}
use Rattle.base.specs.declared.Size.{Size}
use Rattle.x86.specs.Instr.{MOV, alu_imm, mov_imm, load, store, store_imm}
use Rattle.x86.specs.Encode.{wide, alu_opcode, alu_imm_opcode, alu_extension, shift_extension, rex_bits, rex, modrm, bare, short, memory, wide_size}
use Rattle.x86.specs.Encode.{load_opcode, prefix66, store_rex, store_opcode, store_imm_opcode, imm_bytes, encode_plain}
use Rattle.base.specs.Bytes.{le64}
use Rattle.ebpf.specs.declared.insn.Insn.{Insn}
use Rattle.ebpf.specs.declared.kind.Source.{Source}
use Rattle.ebpf.specs.declared.kind.Source.TheVariants.{Imm, Reg}
use Rattle.ebpf.specs.declared.kind.AluOp.{AluOp}
use Rattle.ebpf.specs.declared.kind.ShiftOp.{ShiftOp}
use Rattle.ebpf.specs.declared.kind.MulOp.{MulOp}
use Rattle.ebpf.specs.declared.kind.MulOp.TheVariants.{Mul, Div, Mod}
use Rattle.ebpf.specs.declared.kind.Condition.{Condition}
use Rattle.ebpf.specs.declared.kind.Kind.TheVariants.{LdInd, Neg, MulDivMod}
use Rattle.x86.specs.Registers.{RAX, RCX, RDX, R10, R11}
use Rattle.x86.specs.Instr as x86
use Rattle.x86.specs.Instr.{alu, op, TEST, XOR}
use Rattle.x86.specs.Code.{size}
use Rattle.x86.proofs.CodeLaws.{size-append}
use Rattle.jit.specs.Constants.{load_imm, loaded}
use Rattle.jit.specs.MulDivMod.{Code, saves, restores, from_rax, operate, operated, computed, by_zero, tested, guard}
use Rattle.jit.specs.Slots.{reg_of, target_of, alu_of, shift_of, test_of, alu_code, shift_code, mov_code, mul_div_mod_code, jump_code}
use Rattle.jit.specs.Slots.{lower_half, cleared, copy_width, truncated, swap, helper_call, local_call, call_code, slot_code}
use Rattle.jit.specs.declared.Mode.{Mode}
use Rattle.jit.proofs.Constants.{load-short, load-long, loaded-low, loaded-high, loaded-positive, loaded-negative, loaded-half}
use Rattle.jit_lengths.specs.Lengths.{Rexed, kept, operands}

-- with REX.W the prefix always is there
pub rex-wide : (r b : ℕ) → 1 ≡ length (rex 1 r b)
unfolding rex
rex-wide r b = rw (ne_eqb (rex_bits 1 r b) 0 (λ e. omega (arith, e)))

pub rexed : (w r b : ℕ) (xs : List ℕ) {k m : ℕ} → k ≡ length (rex w r b) → length xs ≡ m → k + m ≡ length (rex w r b ++ xs)
rexed w r b xs h g = omega (arith, h, g, length-append (rex w r b) xs)

-- the three forms of a displacement
pub memory-bare : (r b x : ℕ) → bare b x ≡ true → 1 ≡ length (memory r b x)
unfolding memory
memory-bare r b x e = rw e

pub memory-short : (r b x : ℕ) → bare b x ≡ false → short x ≡ true → 2 ≡ length (memory r b x)
unfolding memory
memory-short r b x e f = rw (e, f)

pub memory-long : (r b x : ℕ) → bare b x ≡ false → short x ≡ false → 5 ≡ length (memory r b x)
unfolding memory
memory-long r b x e f = rw (e, f)

pub load-length : (z : Size) (b d x : ℕ) {k o m : ℕ} → k ≡ length (rex (wide_size z) d b) → o ≡ length (load_opcode z) → m ≡ length (memory d b x)
    → k + (o + m) ≡ length (encode_plain (load z b d x))
load-length z b d x h g e =
    let tail = load_opcode z ++ memory d b x in
    omega (arith, h, g, e, length-append (rex (wide_size z) d b) tail, length-append (load_opcode z) (memory d b x))

pub store_length : (z : Size) (s b x : ℕ) {p k m : ℕ} → p ≡ length (prefix66 z) → k ≡ length (store_rex z s b) → m ≡ length (memory s b x)
    → p + (k + (1 + m)) ≡ length (encode_plain (store z s b x))
store_length z s b x h g e =
    let tail = store_opcode z ∷ memory s b x in
    omega (arith, h, g, e, length-append (prefix66 z) (store_rex z s b ++ tail), length-append (store_rex z s b) tail)

pub store-imm-length : (z : Size) (b x i : ℕ) {p k m j : ℕ} → p ≡ length (prefix66 z) → k ≡ length (rex (wide_size z) 0 b) → m ≡ length (memory 0 b x)
    → j ≡ length (imm_bytes z i) → p + (k + (1 + (m + j))) ≡ length (encode_plain (store_imm z b x i))
store-imm-length z b x i h g e f =
    let tail = memory 0 b x ++ imm_bytes z i in
    let body = rex (wide_size z) 0 b ++ (store_imm_opcode z ∷ tail) in
    let inner = length-append (rex (wide_size z) 0 b) (store_imm_opcode z ∷ tail) in
    omega (arith, h, g, e, f, length-append (prefix66 z) body, inner, length-append (memory 0 b x) (imm_bytes z i))

-- a constant: the two forms of the Rust, and the shorter one
extended : (d x : ℕ) → 7 ≡ length (encode_plain (alu_imm MOV W64 d x))
extended d x = rexed 1 0 d (0xc7 ∷ modrm 3 0 d ∷ le32 x) (rex-wide 0 d) refl

whole : (d v : ℕ) → 10 ≡ length (encode_plain (mov_imm W64 d v))
whole d v = rexed 1 0 d ((0xb8 + d % 8) ∷ le64 v) (rex-wide 0 d) refl

pub low-size : (d v : ℕ) {k : ℕ} → k ≡ length (rex 0 0 d) → k + 5 ≡ length (encode_plain (mov_imm W32 d v))
low-size d v h = rexed 0 0 d ((0xb8 + d % 8) ∷ le32 v) h refl

-- which of them a constant of 64 bits has, by the tests of its range
module _ (m : Mode) (d v : ℕ) where
  pub load-imm-short : {k : ℕ} → (v + 2 ^ 31) % 2 ^ 64 < 2 ^ 32 → k ≡ length (encode_plain (loaded m (alu_imm MOV W64 d (v % 2 ^ 32))))
      → k ≡ length (encode_plain (loaded m (load_imm d v)))
  load-imm-short e h = rw (← load-short d v e) h

  module _ (e : 2 ^ 32 ≤ (v + 2 ^ 31) % 2 ^ 64) where
    pub load-imm-low : {k : ℕ} → (m.compact && ltb v (2 ^ 32)) ≡ true → k ≡ length (encode_plain (mov_imm W32 d v))
        → k ≡ length (encode_plain (loaded m (load_imm d v)))
    load-imm-low f h = rw (← load-long d v e, ← loaded-low m d v f) h

    pub load-imm-long : (m.compact && ltb v (2 ^ 32)) ≡ false → 10 ≡ length (encode_plain (loaded m (load_imm d v)))
    load-imm-long f = rw (← load-long d v e, ← loaded-high m d v f) (whole d v)

-- .. and an immediate, which is extended by its sign
module _ (m : Mode) (d x : ℕ) where
  pub load-positive : {k : ℕ} → (m.compact && ltb x (2 ^ 31)) ≡ true → k ≡ length (encode_plain (mov_imm W32 d x))
      → k ≡ length (encode_plain (loaded m (alu_imm MOV W64 d x)))
  load-positive e h = rw (← loaded-positive m d x e) h

  pub load-negative : (m.compact && ltb x (2 ^ 31)) ≡ false → 7 ≡ length (encode_plain (loaded m (alu_imm MOV W64 d x)))
  load-negative e = rw (← loaded-negative m d x e) (extended d x)

pub operands-imm : (o : x86.Alu) (w : Width) (i : Insn) {k : ℕ} → Rexed w 0 (reg_of i.dst) 6 k → k ≡ length (encode_plain (operands o w Imm i))
operands-imm o w i h = h (alu_imm_opcode o ∷ modrm 3 (alu_extension o) (reg_of i.dst) ∷ le32 i.imm) refl

pub operands-reg : (o : x86.Alu) (w : Width) (i : Insn) {k : ℕ} → Rexed w (reg_of i.src) (reg_of i.dst) 2 k
    → k ≡ length (encode_plain (operands o w Reg i))
operands-reg o w i h = h (alu_opcode o ∷ modrm 3 (reg_of i.src) (reg_of i.dst) ∷ []) refl

pub alu-size : (o : AluOp) (w : Width) (s : Source) (i : Insn) → length (encode_plain (operands (alu_of o) w s i)) ≡ size (alu_code o w s i)
alu-size o w Imm i = omega arith
alu-size o w Reg i = omega arith

pub jump-size : (c : Condition) (w : Width) (s : Source) (slot : ℕ) (i : Insn)
    → length (encode_plain (operands (test_of c) w s i)) + 6 ≡ size (jump_code c w s slot i)
jump-size c w Imm slot i = omega arith
jump-size c w Reg slot i = omega arith

-- two 64-bit moves ahead of a load
pub ind-size : (m : Mode) (z : Size) (slot : ℕ) (i : Insn) (v : ℕ) {k : ℕ} → k ≡ length (encode_plain (load z R11 RAX i.imm))
    → 6 + k ≡ size (slot_code m (LdInd z) slot i v)
ind-size m z slot i v h =
    let src = reg_of i.src in
    let base = rexed 1 R10 R11 (0x89 ∷ modrm 3 R10 R11 ∷ []) (rex-wide R10 R11) refl in
    let index = rexed 1 src R11 (0x01 ∷ modrm 3 src R11 ∷ []) (rex-wide src R11) refl in
    omega (arith, h, base, index)

helper-size : (m : Mode) (v : ℕ) {k : ℕ} → k ≡ length (encode_plain (loaded m (load_imm RAX v))) → 5 + k ≡ size (helper_call m v)
unfolding rex
helper-size m v h = omega (arith, h)

local-size : (t : ℕ) → 19 ≡ size (local_call t)
unfolding rex
local-size t = refl

moved : (r d : ℕ) → 3 ≡ length (encode_plain (alu MOV W64 r d))
moved r d = rexed 1 r d (0x89 ∷ modrm 3 r d ∷ []) (rex-wide r d) refl

pub kept-rax : (b : Bool) (d : ℕ) → d ≡ 0 → pick b 2 5 ≡ kept b d
unfolding rex
kept-rax true d e = rw e
kept-rax false d e = rw e

pub kept-rdx : (b : Bool) (d : ℕ) → d ≡ 2 → pick b 5 2 ≡ kept b d
unfolding rex
kept-rdx true d e = rw e
kept-rdx false d e = rw e

pub kept-other : (b : Bool) (d : ℕ) → ¬ (d ≡ 0) → ¬ (d ≡ 2) → 7 ≡ kept b d
unfolding rex
kept-other true d h g = rw (ne_eqb d 0 h, ne_eqb d 2 g) (omega (arith, moved RAX d))
kept-other false d h g = rw (ne_eqb d 0 h, ne_eqb d 2 g) (omega (arith, moved RDX d))

-- without REX
abbrev operated-length : MulOp → ℕ
operated-length Mul = 2
operated-length Div = 4
operated-length Mod = 4

operate-size : (o : MulOp) (w : Width) → size (operate o w) ≡ operated-length o + wide w
unfolding rex
operate-size Mul W32 = refl
operate-size Mul W64 = refl
operate-size Div W32 = refl
operate-size Div W64 = refl
operate-size Mod W32 = refl
operate-size Mod W64 = refl

pub computed-size : (o : MulOp) (w : Width) (d : ℕ) (operand : Code) {k v : ℕ} → k ≡ kept (from_rax o) d → v ≡ wide w
    → k + (3 + operated-length o + v) + size operand ≡ size (computed o w operand d)
computed-size o w d operand h g =
    let all = size-append (saves d) (operand ++ operated o w d) in
    let rest = size-append operand (operated o w d) in
    omega (arith, h, g, all, rest, size-append (operate o w) (restores o d), operate-size o w, moved d RAX)

xored : (d : ℕ) {k : ℕ} → Rexed W32 d d 2 k → k ≡ length (encode_plain (alu XOR W32 d d))
xored d h = h (0x31 ∷ modrm 3 d d ∷ []) refl

tested-is : (w : Width) (s : ℕ) {k : ℕ} → Rexed w s s 2 k → k ≡ length (encode_plain (alu TEST w s s))
tested-is w s h = h (0x85 ∷ modrm 3 s s ∷ []) refl

pub zero-mul : (d : ℕ) {k : ℕ} → Rexed W32 d d 2 k → k ≡ size (by_zero Mul d)
zero-mul d h = omega (arith, xored d h)

pub zero-div : (d : ℕ) {k : ℕ} → Rexed W32 d d 2 k → k ≡ size (by_zero Div d)
zero-div d h = omega (arith, xored d h)

-- the slot's number, and the test of the divisor
pub tested_low : (m : Mode) (slot : ℕ) (w : Width) (s : ℕ) {k : ℕ} → m.compact ≡ true → slot < 2 ^ 16 → Rexed w s s 2 k
    → 5 + k ≡ size (tested m slot w s)
unfolding rex
tested_low m slot w s e below h =
    let low : slot < 2 ^ 31 = omega (arith, below) in
    let number = load-positive m RCX slot (rw (e, lt-ltb _ _ low) refl) (low-size RCX slot refl) in
    omega (arith, tested-is w s h, number)

pub tested-as-ever : (m : Mode) (slot : ℕ) (w : Width) (s : ℕ) {k : ℕ} → m.compact ≡ false → Rexed w s s 2 k → 7 + k ≡ size (tested m slot w s)
tested-as-ever m slot w s e h = omega (arith, tested-is w s h, load-negative m RCX slot (rw e refl))

pub guard-div : (m : Mode) (slot : ℕ) (w : Width) (s d : ℕ) {j k : ℕ} → j ≡ size (tested m slot w s) → Rexed W32 d d 2 k
    → 11 + j + k ≡ size (guard m Div slot w s d)
guard-div m slot w s d h g = omega (arith, h, xored d g)

pub guard-mod : (m : Mode) (slot : ℕ) (w : Width) (s d : ℕ) {j : ℕ} → j ≡ size (tested m slot w s) → 6 + j ≡ size (guard m Mod slot w s d)
guard-mod m slot w s d h = omega (arith, h)

pub imm-zero : (m : Mode) (o : MulOp) (w : Width) (slot : ℕ) (i : Insn) {k : ℕ} → i.imm ≡ 0
    → k ≡ size (by_zero o (reg_of i.dst)) → k ≡ size (mul_div_mod_code m o w Imm slot i)
imm-zero m o w slot i e h = rw (eq-eqb _ _ e) h

pub imm-some : (m : Mode) (o : MulOp) (w : Width) (slot : ℕ) (i : Insn) (k j : ℕ) → ¬ (i.imm ≡ 0)
    → ((operand : Code) → k + size operand ≡ size (computed o w operand (reg_of i.dst)))
    → j ≡ length (encode_plain (loaded m (alu_imm MOV W64 RCX i.imm))) → k + j ≡ size (mul_div_mod_code m o w Imm slot i)
imm-some m o w slot i k j e h g = rw (ne_eqb _ _ e) (omega (arith, h (op (loaded m (alu_imm MOV W64 RCX i.imm)) ∷ []), g))

pub reg-size : (m : Mode) (o : MulOp) (w : Width) (slot : ℕ) (i : Insn) (g k : ℕ) → g ≡ size (guard m o slot w (reg_of i.src) (reg_of i.dst))
    → ((operand : Code) → k + size operand ≡ size (computed o w operand (reg_of i.dst))) → g + (k + 3) ≡ size (mul_div_mod_code m o w Reg slot i)
reg-size m o w slot i g k e h =
    let s = reg_of i.src in
    let d = reg_of i.dst in
    let operand = op (alu MOV W64 s RCX) ∷ [] in
    omega (arith, e, h operand, moved s RCX, size-append (guard m o slot w s d) (computed o w operand d))

-- shifts, moves, byte swaps, calls
pub shift-imm : (o : ShiftOp) (w : Width) (i : Insn) {k : ℕ} → Rexed w 0 (reg_of i.dst) 3 k → k ≡ size (shift_code o w Imm i)
shift-imm o w i h = omega (arith, h (0xc1 ∷ modrm 3 (shift_extension (shift_of o)) (reg_of i.dst) ∷ (i.imm % 256) ∷ []) refl)

pub shift-reg : (o : ShiftOp) (w : Width) (i : Insn) {k : ℕ} → Rexed w 0 (reg_of i.dst) 2 k → 3 + k ≡ size (shift_code o w Reg i)
shift-reg o w i h = omega (arith, h (0xd3 ∷ modrm 3 (shift_extension (shift_of o)) (reg_of i.dst) ∷ []) refl, moved (reg_of i.src) RCX)

-- MOV32_IMM has its form in every mode
pub mov-imm-half : (m : Mode) (i : Insn) {k : ℕ} → Rexed W32 0 (reg_of i.dst) 6 k → k ≡ size (mov_code m W32 Imm i)
mov-imm-half m i h = rw (← loaded-half m (reg_of i.dst) i.imm) (omega (arith, operands-imm MOV W32 i h))

pub mov-imm-whole : (m : Mode) (i : Insn) {k : ℕ} → k ≡ length (encode_plain (loaded m (alu_imm MOV W64 (reg_of i.dst) i.imm)))
    → k ≡ size (mov_code m W64 Imm i)
mov-imm-whole m i h = omega (arith, h)

pub mov-half : (m : Mode) (w : Width) (i : Insn) {k : ℕ} → copy_width m w ≡ W32 → Rexed W32 (reg_of i.src) (reg_of i.dst) 2 k
    → k ≡ size (mov_code m w Reg i)
mov-half m w i e h = rw e (omega (arith, operands-reg MOV W32 i h))

pub mov-whole : (m : Mode) (w : Width) (i : Insn) → copy_width m w ≡ W64 → 3 ≡ size (mov_code m w Reg i)
mov-whole m w i e = rw e (omega (arith, moved (reg_of i.src) (reg_of i.dst)))

pub neg-size : (m : Mode) (w : Width) (slot : ℕ) (i : Insn) (v : ℕ) {k : ℕ} → Rexed w 0 (reg_of i.dst) 2 k
    → k ≡ size (slot_code m (Neg w) slot i v)
neg-size m w slot i v h = omega (arith, h (0xf7 ∷ modrm 3 3 (reg_of i.dst) ∷ []) refl)

pub swap-16 : (d bits : ℕ) {k m : ℕ} → bits ≡ 16 → Rexed W32 0 d 3 k → Rexed W32 0 d 6 m → 1 + k + m ≡ size (swap d bits)
swap-16 d bits e h g = rw e (omega (arith, h (0xc1 ∷ modrm 3 0 d ∷ 8 ∷ []) refl, g (0x81 ∷ modrm 3 4 d ∷ le32 0xffff) refl))

pub swap_32 : (d bits : ℕ) {k : ℕ} → bits ≡ 32 → Rexed W32 0 d 2 k → k ≡ size (swap d bits)
swap_32 d bits e h = rw e (omega (arith, h (0x0f ∷ (0xc8 + d % 8) ∷ []) refl))

pub swap_64 : (d bits : ℕ) → ¬ (bits ≡ 16) → ¬ (bits ≡ 32) → 3 ≡ size (swap d bits)
swap_64 d bits e f = rw (ne_eqb _ _ e, ne_eqb _ _ f) (omega (arith, rexed 1 0 d (0x0f ∷ (0xc8 + d % 8) ∷ []) (rex-wide 0 d) refl))

-- standard mode
pub lower-size : (d : ℕ) {k : ℕ} → Rexed W32 d d 2 k → k ≡ size (lower_half d)
lower-size d h = omega (arith, h (0x89 ∷ modrm 3 d d ∷ []) refl)

pub cut-16 : (d bits : ℕ) {k : ℕ} → bits ≡ 16 → Rexed W32 0 d 6 k → k ≡ size (truncated d bits)
cut-16 d bits e h = rw e (omega (arith, h (0x81 ∷ modrm 3 4 d ∷ le32 0xffff) refl))

pub cut-32 : (d bits : ℕ) {k : ℕ} → bits ≡ 32 → k ≡ size (lower_half d) → k ≡ size (truncated d bits)
cut-32 d bits e h = rw e h

pub cut-none : (d bits : ℕ) → ¬ (bits ≡ 16) → ¬ (bits ≡ 32) → 0 ≡ size (truncated d bits)
cut-none d bits e f = rw (ne_eqb _ _ e, ne_eqb _ _ f)

pub ahead-size : (m : Mode) (o : MulOp) (w : Width) (s : Source) (slot : ℕ) (i : Insn) (v : ℕ) {j k : ℕ} → j ≡ size (cleared m o w s i)
    → k ≡ size (mul_div_mod_code m o w s slot i) → j + k ≡ size (slot_code m (MulDivMod o w s) slot i v)
ahead-size m o w s slot i v h g = omega (arith, h, g, size-append (cleared m o w s i) (mul_div_mod_code m o w s slot i))

pub call-helper : (m : Mode) (slot : ℕ) (i : Insn) (v : ℕ) {k : ℕ} → i.src ≡ 0 → k ≡ length (encode_plain (loaded m (load_imm RAX v)))
    → 5 + k ≡ size (call_code m slot i v)
call-helper m slot i v e h = rw (eq-eqb _ _ e) (helper-size m v h)

pub call-local : (m : Mode) (slot : ℕ) (i : Insn) (v : ℕ) → ¬ (i.src ≡ 0) → 19 ≡ size (call_code m slot i v)
call-local m slot i v e = rw (ne_eqb _ _ e) (local-size (target_of slot i.imm))
