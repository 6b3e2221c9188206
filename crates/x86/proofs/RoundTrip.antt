-- The round trip: what Encode.antt writes for a well-formed instruction, the reader of Decode.antt reads as that instruction, whatever
-- bytes follow. So no two instructions share their bytes, and a wrong byte in either of the two is found here. First REX, then numbers,
-- then ModRM, each over what reads on from there, and last the instructions.
use mathlib.Core.Path.{◌≡◌, refl, ap, ◌∙◌}
use mathlib.Core.Logic.{◌≢◌}
use mathlib.Core.Bool.{Bool, true, false, not, ◌&&◌}
use mathlib.Core.List.{List, ◌∷◌, ◌++◌, append_assoc}
use Prim.Native.Nat.{ℕ, suc, ◌+◌, ◌*◌, ◌/◌, ◌%◌, ◌<◌, ◌^◌}
use native.Mathlib.Nat.{add-zero}
use native.Mathlib.Omega.{arith}
use lib.Dec.{T, T_not, ltb, eqb, eqb→eq, ltb→lt}
use Rattle.base.proofs.Tests.{true-T, and_l, and_r, eqb-false, leb-true, leb-false, leb_no, not-true}
use Rattle.base.specs.Bytes.{le16, le32, le64}
use Rattle.base.proofs.BytesLaws.{join-le16, join-le32, join-le64}
use Rattle.base.specs.declared.Width.{Width}
use Rattle.base.specs.declared.Width.TheVariants.{W32, W64}
use Rattle.base.specs.declared.Size.{Size}
use Rattle.base.specs.declared.Size.TheVariants.{S8, S16, S32, S64}
use Rattle.x86.specs.Instr.{imm_bits, Alu, ADD, OR, AND, SUB, XOR, CMP, MOV, TEST, Shift, SHL, SHR, SAR, Unary, NEG, MUL, DIV, Cond, JB, JAE, JE, JNE, JBE}
use Rattle.x86.specs.Instr.{JA, JL, JGE, JLE, JG, push, pop, alu, alu_imm, shift_imm, shift_cl, unary, mov_imm, rol16, bswap, load, store, store_imm, jmp}
use Rattle.x86.specs.Instr.{call, jcc, Instr, op, jump, call_reg, ret}
use Rattle.x86.proofs.WellFormed.{Base, Wf}
use Rattle.x86.specs.Encode.{wide, rex_bits, rex, modrm, bare, short, memory, encode}
use Rattle.x86.specs.Decode.{got, Next, Rex, no_rex, rex_of, with_rex, reg_number, low_number, Operand, in_register, in_memory, signed8, with_modrm, number, opcode, opcode16, decode}

-- what is read of the REX with the width w for the registers s in reg and d in r/m, where t says whether it is written
abbrev seen : Bool → Width → ℕ → ℕ → Rex
seen t w s d = record { there = t; width = w; R = s / 8; B = d / 8 }

-- a REX is written where it says something
abbrev needed : Width → ℕ → ℕ → Bool
needed w s d = not (eqb (rex_bits (wide w) s d) 0)

rex_bits-lt : (w : Width) (s d : ℕ) → s < 16 → d < 16 → rex_bits (wide w) s d < 16
rex_bits-lt W32 s d hs hd = omega arith
rex_bits-lt W64 s d hs hd = omega arith

rex_of-back : (w : Width) (s d : ℕ) → s < 16 → d < 16 → rex_of (rex_bits (wide w) s d) ≡ seen true w s d
unfolding rex_of
rex_of-back W32 s d hs hd =
    let r : rex_bits 0 s d / 4 % 2 ≡ s / 8 = omega arith in
    let b : rex_bits 0 s d % 2 ≡ d / 8 = omega arith in
    rw (leb-false 8 (rex_bits 0 s d) (omega arith), r, b)
rex_of-back W64 s d hs hd =
    let r : rex_bits 1 s d / 4 % 2 ≡ s / 8 = omega arith in
    let b : rex_bits 1 s d % 2 ≡ d / 8 = omega arith in
    rw (leb-true 8 (rex_bits 1 s d) (omega arith), r, b)

-- a REX that is there, and one that is left out where its bits are 0
rex-there : (k : Rex → ℕ → Next) (w : Width) (s d o : ℕ) (r : List ℕ) → s < 16 → d < 16
    → with_rex k ((0x40 + rex_bits (wide w) s d) ∷ o ∷ r) ≡ k (seen true w s d) o r
unfolding with_rex
rex-there k w s d o r hs hd =
    let h = rex_bits-lt w s d hs hd in
    let t : (0x40 + rex_bits (wide w) s d) / 16 ≡ 4 = omega arith in
    let x : (0x40 + rex_bits (wide w) s d) % 16 ≡ rex_bits (wide w) s d = omega arith in
    rw (t, x, rex_of-back)

rex-none : (w : Width) (s d : ℕ) → rex_bits (wide w) s d ≡ 0 → no_rex ≡ seen false w s d
rex-none W32 s d e =
    let r : s / 8 ≡ 0 = omega arith in
    let b : d / 8 ≡ 0 = omega arith in
    rw (r, b)
rex-none W64 s d e = absurd (omega arith)

-- the register numbers that a REX extends, and an opcode, which is neither 66 nor a REX
abbrev Fits : ℕ → ℕ → ℕ → Type 0
Fits s d o = (s < 16) × (d < 16) × (o ≢ 0x66) × (o / 16 ≢ 4)

rex-back : (k : Rex → ℕ → Next) (w : Width) (s d o : ℕ) (r : List ℕ) → Fits s d o
    → with_rex k (rex (wide w) s d ++ (o ∷ r)) ≡ k (seen (needed w s d) w s d) o r
unfolding rex with_rex
rex-back k w s d o r h = go (eqb (rex_bits (wide w) s d) 0) refl
  where
    go : (b : Bool) → eqb (rex_bits (wide w) s d) 0 ≡ b
        → with_rex k (rex (wide w) s d ++ (o ∷ r)) ≡ k (seen (needed w s d) w s d) o r
    go true e = rw (e, eqb-false (o / 16) 4 h.3) (ap (λ (x : Rex). k x o r) (rex-none w s d (eqb→eq _ 0 (true-T _ e))))
    go false e = rw e (rex-there k w s d o r h.0 h.1)

-- the start of an instruction: REX, if any, and the opcode
no-66 : (o : ℕ) (r : List ℕ) → o ≢ 0x66 → decode (o ∷ r) ≡ with_rex opcode (o ∷ r)
unfolding decode
no-66 o r h = rw (eqb-false o 0x66 h)

start : (w : Width) (s d o : ℕ) (t r : List ℕ) → Fits s d o
    → decode ((rex (wide w) s d ++ (o ∷ t)) ++ r) ≡ opcode (seen (needed w s d) w s d) o (t ++ r)
unfolding rex
start w s d o t r h = rw append_assoc (go (eqb (rex_bits (wide w) s d) 0) refl ∙ rex-back opcode w s d o (t ++ r) h)
  where
    go : (b : Bool) → eqb (rex_bits (wide w) s d) 0 ≡ b
        → decode (rex (wide w) s d ++ (o ∷ t ++ r)) ≡ with_rex opcode (rex (wide w) s d ++ (o ∷ t ++ r))
    go true e = rw e (no-66 o _ h.2)
    go false e = let l = rex_bits-lt w s d h.0 h.1 in rw e (no-66 (0x40 + rex_bits (wide w) s d) _ (omega arith))

start16 : (s d o : ℕ) (t r : List ℕ) → Fits s d o
    → decode (0x66 ∷ (rex 0 s d ++ (o ∷ t)) ++ r) ≡ opcode16 (seen (needed W32 s d) W32 s d) o (t ++ r)
unfolding decode
start16 s d o t r h = rw append_assoc (rex-back opcode16 W32 s d o (t ++ r) h)

-- numbers of one, two, four and eight bytes
module _ (k : ℕ → Next) (x : ℕ) (r : List ℕ) where
  number1 : number 1 k (x ∷ r) ≡ k x r
  unfolding number
  number1 = rw add-zero

  number2 : x < 2 ^ 16 → number 2 k (le16 x ++ r) ≡ k x r
  unfolding number
  number2 h = ap (λ (v : ℕ). k v r) (join-le16 x h)

  number4 : x < 2 ^ 32 → number 4 k (le32 x ++ r) ≡ k x r
  unfolding number
  number4 h = ap (λ (v : ℕ). k v r) (join-le32 x h)

  number8 : x < 2 ^ 64 → number 8 k (le64 x ++ r) ≡ k x r
  unfolding number
  number8 h = ap (λ (v : ℕ). k v r) (join-le64 x h)

-- ModRM's fields
mod-back : (m s d : ℕ) → modrm m s d / 64 ≡ m
unfolding modrm
mod-back m s d = omega arith

rm-back : (m s d : ℕ) → modrm m s d % 8 ≡ d % 8
unfolding modrm
rm-back m s d = omega arith

reg-back : (t : Bool) (w : Width) (m s d : ℕ) → reg_number (seen t w s d) (modrm m s d) ≡ s
unfolding reg_number modrm
reg-back t w m s d =
    let b : (64 * m + 8 * (s % 8) + d % 8) / 8 ≡ 8 * m + s % 8 = omega arith in
    rw b (omega arith)

-- a register in the low three bits, below the upper ones of an opcode or of ModRM
upper : (d k : ℕ) → k % 8 ≡ 0 → (k + d % 8) / 8 ≡ k / 8
upper d k h = omega arith

low-back : (t : Bool) (w : Width) (s d k : ℕ) → k % 8 ≡ 0 → low_number (seen t w s d) (k + d % 8) ≡ d
unfolding low_number
low-back t w s d k h = omega arith

modrm-low : (t : Bool) (w : Width) (m s d : ℕ) → low_number (seen t w s d) (modrm m s d) ≡ d
unfolding modrm
modrm-low t w m s d = low-back t w s d (64 * m + 8 * (s % 8)) (omega arith)

signed8-back : (x : ℕ) → short x ≡ true → x < 2 ^ 32 → signed8 (x % 256) ≡ x
unfolding short
signed8-back x e h = go (ltb (x % 256) 128) refl
  where
    near : (x + 128) % 2 ^ 32 < 256
    near = ltb→lt _ 256 (true-T _ e)

    go : (b : Bool) → ltb (x % 256) 128 ≡ b → signed8 (x % 256) ≡ x
    go true q = let l = ltb→lt (x % 256) 128 (true-T _ q) in rw q (omega (arith, near))
    go false q = let l = leb_no (suc (x % 256)) 128 q in rw q (omega (arith, near))

-- where mod 0 is used, it does not mean RIP-relative
bare-back : (b x : ℕ) → bare b x ≡ true → (x ≡ 0) × (eqb (b % 8) 5 ≡ false)
unfolding bare
bare-back b x e =
    let is_zero = eqb x 0 in
    let is_rip = eqb (b % 8) 5 in
    let both : T (is_zero && not is_rip) = true-T _ e in
    (eqb→eq x 0 (and_l is_zero (not is_rip) both), not-true is_rip (T_not is_rip (and_r is_zero (not is_rip) both)))

-- ModRM with a register, and with memory, in each of the three forms of a displacement
module _ (s d : ℕ) (t : Bool) (w : Width) (k : ℕ → Operand → Next) where
  register-back : (r : List ℕ) → with_modrm (seen t w s d) k (modrm 3 s d ∷ r) ≡ k s (in_register d) r
  unfolding with_modrm
  register-back r = rw (mod-back, reg-back, modrm-low)

  memory-back : (x : ℕ) (r : List ℕ) → d % 8 ≢ 4 → x < 2 ^ 32 → with_modrm (seen t w s d) k (memory s d x ++ r) ≡ k s (in_memory d x) r
  unfolding with_modrm memory
  memory-back x r h4 hx = go (bare d x) (short x) refl refl
    where
      sib : eqb (d % 8) 4 ≡ false
      sib = eqb-false _ _ h4

      go : (p q : Bool) → bare d x ≡ p → short x ≡ q → with_modrm (seen t w s d) k (memory s d x ++ r) ≡ k s (in_memory d x) r
      go true q e f = rw (e, mod-back, rm-back, sib, (bare-back d x e).1, reg-back, modrm-low, (bare-back d x e).0)
      go false true e f = rw (e, f, mod-back, rm-back, sib, number1, reg-back, modrm-low, signed8-back)
      go false false e f = rw (e, f, mod-back, rm-back, sib, number4, reg-back, modrm-low)

-- The instructions. An extension stands where s does, and is below 8, so that it asks for no REX.R.
abbrev Back : Instr ℕ → Type 0
Back i = (r : List ℕ) → decode (encode i ++ r) ≡ got i r

alu-back : (o : Alu) (w : Width) (s d : ℕ) → s < 16 → d < 16 → Back (op (alu o w s d))
unfolding opcode
alu-back ADD w s d hs hd r = start w s d _ _ r (omega arith) ∙ rw register-back
alu-back OR w s d hs hd r = start w s d _ _ r (omega arith) ∙ rw register-back
alu-back AND w s d hs hd r = start w s d _ _ r (omega arith) ∙ rw register-back
alu-back SUB w s d hs hd r = start w s d _ _ r (omega arith) ∙ rw register-back
alu-back XOR w s d hs hd r = start w s d _ _ r (omega arith) ∙ rw register-back
alu-back CMP w s d hs hd r = start w s d _ _ r (omega arith) ∙ rw register-back
alu-back MOV w s d hs hd r = start w s d _ _ r (omega arith) ∙ rw register-back
alu-back TEST w s d hs hd r = start w s d _ _ r (omega arith) ∙ rw register-back

alu_imm-back : (o : Alu) (w : Width) (d i : ℕ) → d < 16 → i < 2 ^ 32 → Back (op (alu_imm o w d i))
unfolding opcode
alu_imm-back ADD w d i hd hi r = start w 0 d _ _ r (omega arith) ∙ rw (register-back 0 d, number4)
alu_imm-back OR w d i hd hi r = start w 0 d _ _ r (omega arith) ∙ rw (register-back 1 d, number4)
alu_imm-back AND w d i hd hi r = start w 0 d _ _ r (omega arith) ∙ rw (register-back 4 d, number4)
alu_imm-back SUB w d i hd hi r = start w 0 d _ _ r (omega arith) ∙ rw (register-back 5 d, number4)
alu_imm-back XOR w d i hd hi r = start w 0 d _ _ r (omega arith) ∙ rw (register-back 6 d, number4)
alu_imm-back CMP w d i hd hi r = start w 0 d _ _ r (omega arith) ∙ rw (register-back 7 d, number4)
alu_imm-back MOV w d i hd hi r = start w 0 d _ _ r (omega arith) ∙ rw (register-back 0 d, number4)
alu_imm-back TEST w d i hd hi r = start w 0 d _ _ r (omega arith) ∙ rw (register-back 0 d, number4)

shift_imm-back : (o : Shift) (w : Width) (d i : ℕ) → d < 16 → Back (op (shift_imm o w d i))
unfolding opcode
shift_imm-back SHL w d i hd r = start w 0 d _ _ r (omega arith) ∙ rw (register-back 4 d, number1)
shift_imm-back SHR w d i hd r = start w 0 d _ _ r (omega arith) ∙ rw (register-back 5 d, number1)
shift_imm-back SAR w d i hd r = start w 0 d _ _ r (omega arith) ∙ rw (register-back 7 d, number1)

shift_cl-back : (o : Shift) (w : Width) (d : ℕ) → d < 16 → Back (op (shift_cl o w d))
unfolding opcode
shift_cl-back SHL w d hd r = start w 0 d _ _ r (omega arith) ∙ rw (register-back 4 d)
shift_cl-back SHR w d hd r = start w 0 d _ _ r (omega arith) ∙ rw (register-back 5 d)
shift_cl-back SAR w d hd r = start w 0 d _ _ r (omega arith) ∙ rw (register-back 7 d)

unary-back : (o : Unary) (w : Width) (d : ℕ) → d < 16 → Back (op (unary o w d))
unfolding opcode
unary-back NEG w d hd r = start w 0 d _ _ r (omega arith) ∙ rw (register-back 3 d)
unary-back MUL w d hd r = start w 0 d _ _ r (omega arith) ∙ rw (register-back 4 d)
unary-back DIV w d hd r = start w 0 d _ _ r (omega arith) ∙ rw (register-back 6 d)

load-back : (z : Size) (b d x : ℕ) → Base b → d < 16 → x < 2 ^ 32 → Back (op (load z b d x))
unfolding opcode
load-back S8 b d x hb hd hx r = start W32 d b _ _ r (omega arith) ∙ rw (memory-back d b, hb.1)
load-back S16 b d x hb hd hx r = start W32 d b _ _ r (omega arith) ∙ rw (memory-back d b, hb.1)
load-back S32 b d x hb hd hx r = start W32 d b _ _ r (omega arith) ∙ rw (memory-back d b, hb.1)
load-back S64 b d x hb hd hx r = start W64 d b _ _ r (omega arith) ∙ rw (memory-back d b, hb.1)

store-back : (z : Size) (s b x : ℕ) → s < 16 → Base b → x < 2 ^ 32 → Back (op (store z s b x))
unfolding opcode opcode16
store-back S8 s b x hs hb hx r =
    no-66 _ _ (omega arith) ∙ rex-there opcode W32 s b _ _ hs hb.0 ∙ rw (memory-back s b, hb.1)
store-back S16 s b x hs hb hx r = start16 s b _ _ r (omega arith) ∙ rw (memory-back s b, hb.1)
store-back S32 s b x hs hb hx r = start W32 s b _ _ r (omega arith) ∙ rw (memory-back s b, hb.1)
store-back S64 s b x hs hb hx r = start W64 s b _ _ r (omega arith) ∙ rw (memory-back s b, hb.1)

store_imm-back : (z : Size) (b x i : ℕ) → Base b → x < 2 ^ 32 → i < 2 ^ imm_bits z → Back (op (store_imm z b x i))
unfolding opcode opcode16
store_imm-back S8 b x i hb hx hi r =
    let byte : i % 256 ≡ i = omega arith in
    start W32 0 b _ _ r (omega arith) ∙ rw (append_assoc, memory-back 0 b, hb.1, number1, byte)
store_imm-back S16 b x i hb hx hi r = start16 0 b _ _ r (omega arith) ∙ rw (append_assoc, memory-back 0 b, hb.1, number2)
store_imm-back S32 b x i hb hx hi r = start W32 0 b _ _ r (omega arith) ∙ rw (append_assoc, memory-back 0 b, hb.1, number4)
store_imm-back S64 b x i hb hx hi r = start W64 0 b _ _ r (omega arith) ∙ rw (append_assoc, memory-back 0 b, hb.1, number4)

jcc-back : (c : Cond) (x : ℕ) → x < 2 ^ 32 → Back (jump (jcc c) x)
unfolding decode with_rex opcode
jcc-back JB x h r = rw number4
jcc-back JAE x h r = rw number4
jcc-back JE x h r = rw number4
jcc-back JNE x h r = rw number4
jcc-back JBE x h r = rw number4
jcc-back JA x h r = rw number4
jcc-back JL x h r = rw number4
jcc-back JGE x h r = rw number4
jcc-back JLE x h r = rw number4
jcc-back JG x h r = rw number4

pub trip : (i : Instr ℕ) (r : List ℕ) → Wf i → decode (encode i ++ r) ≡ got i r
unfolding decode with_rex opcode opcode16
trip (op (push d)) r h = start W32 0 d _ _ r (omega arith) ∙ rw (upper, low-back)
trip (op (pop d)) r h = start W32 0 d _ _ r (omega arith) ∙ rw (upper, low-back)
trip (op (alu o w s d)) r h = alu-back o w s d h.0 h.1 r
trip (op (alu_imm o w d i)) r h = alu_imm-back o w d i h.0 h.1 r
trip (op (shift_imm o w d i)) r h = shift_imm-back o w d i h.0 r
trip (op (shift_cl o w d)) r h = shift_cl-back o w d h r
trip (op (unary o w d)) r h = unary-back o w d h r
trip (op (mov_imm W32 d i)) r h = start W32 0 d _ _ r (omega arith) ∙ rw (upper, low-back, number4, h.1)
trip (op (mov_imm W64 d i)) r h = start W64 0 d _ _ r (omega arith) ∙ rw (upper, low-back, number8, h.1)
trip (op (rol16 d i)) r h = start16 0 d _ _ r (omega arith) ∙ rw (register-back 0 d, number1)
trip (op (bswap w d)) r h =
    let no_jump : (0xc8 + d % 8) / 16 ≡ 12 = omega arith in
    start w 0 d _ _ r (omega arith) ∙ rw (no_jump, upper, low-back)
trip (op (load z b d x)) r h = load-back z b d x h.0 h.1.0 h.1.1 r
trip (op (store z s b x)) r h = store-back z s b x h.0 h.1.0 h.1.1 r
trip (op (store_imm z b x i)) r h = store_imm-back z b x i h.0 h.1.0 h.1.1 r
trip (jump jmp x) r h = rw number4
trip (jump call x) r h = rw number4
trip (jump (jcc c) x) r h = jcc-back c x h r
trip (call_reg d) r h = start W32 0 d _ _ r (omega arith) ∙ rw (register-back 2 d)
trip ret r h = refl
