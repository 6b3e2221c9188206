-- Wrong meanings that the definitions shut out: of every slot and all registers where it can be said so, and else of one that shows it.
use mathlib.Core.Path.{◌≡◌, refl, sym}
use mathlib.Core.Logic.{◌≢◌}
use mathlib.Core.Bool.{true, false}
use mathlib.Core.List.{List, [], ◌∷◌}
use Prim.Native.Nat.{ℕ, ◌+◌, ◌%◌, ◌^◌, ◌≤◌, ◌<◌}
use native.Mathlib.Omega.{arith}
use lib.ListN.{get_or}
use Rattle.base.specs.Widths.{bits}
use Rattle.base.specs.declared.Width.{Width}
use Rattle.base.specs.declared.Width.TheVariants.{W32, W64}
use Rattle.ebpf.specs.declared.insn.Insn.{Insn}
use Rattle.ebpf.specs.declared.kind.Source.{Source}
use Rattle.ebpf.specs.declared.kind.Source.TheVariants.{Imm, Reg}
use Rattle.ebpf.specs.declared.kind.ShiftOp.TheVariants.{Lsh, Rsh, Arsh}
use Rattle.ebpf.specs.declared.kind.MulOp.{MulOp}
use Rattle.ebpf.specs.declared.kind.MulOp.TheVariants.{Mul, Div, Mod}
use Rattle.ebpf.specs.declared.kind.Condition.TheVariants.{Jgt, Jsgt}
use Rattle.ebpf.specs.declared.kind.Kind.{Kind}
use Rattle.ebpf.specs.declared.kind.Kind.TheVariants.{MulDivMod, Mov, Le, Be}
use Rattle.ebpf_meaning.specs.Values.{immediate, mul_value, shift_value, le_value, reversed, be_value, met}
use Rattle.ebpf_meaning.specs.Step.{dst_of, src_of, writes, branches, act, next_slot}
use Rattle.ebpf_meaning.proofs.MeaningLaws.{width_of, result-below}

written : {v u : ℕ} → writes v ≡ writes u → v ≡ u
written e = cc

-- any operation at 32 bits that leaves something in the upper half of dst
pub upper-half-left : (k : Kind) (i : Insn) (r : List ℕ) (v : ℕ) → width_of k ≡ W32 → i.imm < 2 ^ 32 → act k i r ≡ writes v → 2 ^ 32 ≤ v → ⊥
upper-half-left k i r v e h a u = let b : v < 2 ^ 32 = rw (a, e) at (result-below k i r h (λ q. absurd (no-swap q))) in omega arith
  where
    no-swap : k ≡ Be → ⊥
    no-swap q = let w : W64 ≡ W32 = rw q at e in let z : ◌≡◌ {A = ℕ} 0 1 = cc in omega arith

module _ (i : Insn) (r : List ℕ) where
  -- MOD by zero leaves dst, at 32 bits too; MOV32_REG copies all of src
  pub mod32-leaves-dst : (s : Source) → i.imm < 2 ^ 32 → 2 ^ 32 ≤ get_or r i.dst 0 → act (MulDivMod Mod W32 s) i r ≡ writes (get_or r i.dst 0) → ⊥
  mod32-leaves-dst s h u e = upper-half-left (MulDivMod Mod W32 s) i r _ refl h e u

  pub mov32-copies-all : i.imm < 2 ^ 32 → 2 ^ 32 ≤ get_or r i.src 0 → act (Mov W32 Reg) i r ≡ writes (get_or r i.src 0) → ⊥
  mov32-copies-all h u e = upper-half-left (Mov W32 Reg) i r _ refl h e u

  -- MOD by zero gives 0, as DIV does
  pub mod-by-zero-clears : (w : Width) (s : Source) → src_of w s i r ≡ 0 → dst_of w i r ≢ 0 → act (MulDivMod Mod w s) i r ≡ writes 0 → ⊥
  unfolding mul_value
  mod-by-zero-clears w s z n e = n (rw z at (written e))

  -- DIV by zero leaves dst
  pub div-by-zero-leaves-dst : (w : Width) (s : Source) → src_of w s i r ≡ 0 → get_or r i.dst 0 ≢ 0
      → act (MulDivMod Div w s) i r ≡ writes (get_or r i.dst 0) → ⊥
  unfolding mul_value
  div-by-zero-leaves-dst w s z n e = n (sym (rw z at (written e)))

  -- LE has nothing to do on a little-endian host
  pub le16-leaves-dst : i.imm ≡ 16 → 2 ^ 16 ≤ get_or r i.dst 0 → act Le i r ≡ writes (get_or r i.dst 0) → ⊥
  unfolding le_value
  le16-leaves-dst h u e = let q : get_or r i.dst 0 % 2 ^ 64 % 2 ^ 16 ≡ get_or r i.dst 0 = rw h at (written e) in omega arith

-- a jump from its own slot
pub jump-one-short : (slot x : ℕ) → next_slot slot (branches true x) ≡ (slot + x) % 2 ^ 32 → ⊥
jump-one-short slot x e = omega arith

-- a jump that is not taken goes on by its distance all the same
pub always-taken : (slot x : ℕ) → x ≢ 0 → next_slot slot (branches false x) ≡ slot + 1 + x → ⊥
always-taken slot x n e = n (omega (arith, e))

-- MUL, DIV and MOD by register that take imm in src's place: r0 is 7, r1 is 3, imm is 5
abbrev r0-by-r1 : Insn
r0-by-r1 = record { opc = 0; dst = 0; src = 1; off = 0; imm = 5 }

pub imm-for-src : (o : MulOp) (w : Width) → ((i : Insn) (r : List ℕ) → act (MulDivMod o w Reg) i r ≡ act (MulDivMod o w Imm) i r) → ⊥
unfolding mul_value
imm-for-src Mul W32 f = omega (arith, written (f r0-by-r1 (7 ∷ 3 ∷ [])))
imm-for-src Mul W64 f = omega (arith, written (f r0-by-r1 (7 ∷ 3 ∷ [])))
imm-for-src Div W32 f = omega (arith, written (f r0-by-r1 (7 ∷ 3 ∷ [])))
imm-for-src Div W64 f = omega (arith, written (f r0-by-r1 (7 ∷ 3 ∷ [])))
imm-for-src Mod W32 f = omega (arith, written (f r0-by-r1 (7 ∷ 3 ∷ [])))
imm-for-src Mod W64 f = omega (arith, written (f r0-by-r1 (7 ∷ 3 ∷ [])))

-- an immediate that is not extended by its sign
pub imm-unsigned : ((x : ℕ) → immediate W64 x ≡ x) → ⊥
imm-unsigned f = omega (arith, f 0xffff_ffff)

-- a count that is not masked, so that all bits go; ARSH that fills with zeros
pub count-unmasked : (w : Width) → shift_value Lsh w 1 (bits w) ≡ 0 → ⊥
unfolding shift_value
count-unmasked W32 e = omega arith
count-unmasked W64 e = omega arith

pub arsh-unsigned : (w : Width) → ((a b : ℕ) → shift_value Arsh w a b ≡ shift_value Rsh w a b) → ⊥
unfolding shift_value
arsh-unsigned W32 f = omega (arith, f 0xffff_ffff 1)
arsh-unsigned W64 f = omega (arith, f 0xffff_ffff_ffff_ffff 1)

-- JSGT that compares as unsigned
pub jsgt-unsigned : (w : Width) → ((a b : ℕ) → met Jsgt w a b ≡ met Jgt w a b) → ⊥
unfolding met
jsgt-unsigned W32 f = let q : false ≡ true = f 0xffff_ffff 0 in let z : ◌≡◌ {A = ℕ} 0 1 = cc in omega arith
jsgt-unsigned W64 f = let q : false ≡ true = f 0xffff_ffff_ffff_ffff 0 in let z : ◌≡◌ {A = ℕ} 0 1 = cc in omega arith

-- BE that turns nothing round; BE 16 that keeps what is above
pub be-turns-nothing : ((a : ℕ) → be_value 16 a ≡ le_value 16 a) → ⊥
unfolding be_value reversed le_value
be-turns-nothing f = omega (arith, f 1)

pub be16-keeps-the-rest : (a : ℕ) → 2 ^ 16 ≤ be_value 16 a → ⊥
unfolding be_value reversed
be16-keeps-the-rest a h = omega arith
