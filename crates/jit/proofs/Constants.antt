-- A constant is loaded in one of two forms, by its range; compact, in one of three. No form is longer than the one that it stands for.
use mathlib.Core.Path.{◌≡◌, refl}
use mathlib.Core.Bool.{Bool, true, false, ◌&&◌}
use mathlib.Core.List.{◌∷◌}
use Prim.Native.Nat.{ℕ, ◌+◌, ◌%◌, ◌^◌, ◌<◌, ◌≤◌}
use native.Mathlib.Omega.{arith}
use lib.Dec.{ltb}
use lib.ListN.{length, length-append}
use borrow.Author.Tests.{lt-ltb, le-ltb, ltb-true}
use Rattle.base.specs.Pick.{pick}
use Rattle.base.specs.Bytes.{le32, le64}
use Rattle.base.specs.declared.Width.{Width}
use Rattle.base.specs.declared.Width.TheVariants.{W32, W64}
use Rattle.x86.specs.Instr.{Alu, MOV}
use Rattle.x86.specs.Instr.{Plain, push, pop, alu, alu_imm, shift_imm, shift_cl, unary, mov_imm, rol16, bswap, load, store, store_imm}
use Rattle.x86.specs.Encode.{wide, rex, modrm, alu_imm_opcode, alu_extension, encode_plain}
use Rattle.x86.proofs.Lengths.{behind}
use Rattle.jit.specs.declared.Mode.{Mode}
use Rattle.jit.specs.Constants.{load_imm, extends, shorter, loaded}

pub load-short : (dst value : ℕ) → (value + 2 ^ 31) % 2 ^ 64 < 2 ^ 32 → alu_imm MOV W64 dst (value % 2 ^ 32) ≡ load_imm dst value
unfolding load_imm
load-short dst value h = rw (lt-ltb _ _ h)

pub load-long : (dst value : ℕ) → 2 ^ 32 ≤ (value + 2 ^ 31) % 2 ^ 64 → mov_imm W64 dst value ≡ load_imm dst value
unfolding load_imm
load-long dst value h = rw (le-ltb _ _ h)

-- Five or six bytes stand for seven or ten.
no_longer : (o : Alu) (w : Width) (d x : ℕ) (t : Bool)
    → length (encode_plain (pick t (mov_imm W32 d x) (alu_imm o w d x))) ≤ length (encode_plain (alu_imm o w d x))
no_longer o w d x true =
    omega (arith, behind 0 0 d ((0xb8 + d % 8) ∷ le32 x), length-append (rex (wide w) 0 d) (alu_imm_opcode o ∷ modrm 3 (alu_extension o) d ∷ le32 x))
no_longer o w d x false = omega arith

no-longer-whole : (d x : ℕ) (t : Bool) → length (encode_plain (pick t (mov_imm W32 d x) (mov_imm W64 d x))) ≤ length (encode_plain (mov_imm W64 d x))
no-longer-whole d x true = omega (arith, behind 0 0 d ((0xb8 + d % 8) ∷ le32 x), length-append (rex 1 0 d) ((0xb8 + d % 8) ∷ le64 x))
no-longer-whole d x false = omega arith

pub shorter-length : (p : Plain) → length (encode_plain (shorter p)) ≤ length (encode_plain p)
shorter-length (push r) = omega arith
shorter-length (pop r) = omega arith
shorter-length (alu o w s d) = omega arith
shorter-length (alu_imm o w d x) = no_longer o w d x (extends o w && ltb x (2 ^ 31))
shorter-length (shift_imm o w d x) = omega arith
shorter-length (shift_cl o w d) = omega arith
shorter-length (unary o w r) = omega arith
shorter-length (mov_imm W32 d x) = omega arith
shorter-length (mov_imm W64 d x) = no-longer-whole d x (ltb x (2 ^ 32))
shorter-length (rol16 d x) = omega arith
shorter-length (bswap w d) = omega arith
shorter-length (load z b d x) = omega arith
shorter-length (store z s b x) = omega arith
shorter-length (store_imm z b x i) = omega arith

pub loaded-length : (m : Mode) (p : Plain) → length (encode_plain (loaded m p)) ≤ length (encode_plain p)
loaded-length m p = by m.compact
  where
    by : (t : Bool) → length (encode_plain (pick t (shorter p) p)) ≤ length (encode_plain p)
    by true = shorter-length p
    by false = omega arith

-- What is loaded, by the test of its range: eight bytes of constant, or four.
never : {A : Type 0} → false ≡ true → A
never e = let z : ◌≡◌ {A = ℕ} 0 1 = cc in absurd (omega arith)

pub low_below : (c : Bool) (value : ℕ) → (c && ltb value (2 ^ 32)) ≡ true → value < 2 ^ 32
low_below true value e = ltb-true value (2 ^ 32) e
low_below false value e = never e

module _ (m : Mode) (dst value : ℕ) where
  pub loaded-low : (m.compact && ltb value (2 ^ 32)) ≡ true → mov_imm W32 dst value ≡ loaded m (mov_imm W64 dst value)
  loaded-low e = by m.compact e
    where
      by : (c : Bool) → (c && ltb value (2 ^ 32)) ≡ true → mov_imm W32 dst value ≡ pick c (shorter (mov_imm W64 dst value)) (mov_imm W64 dst value)
      by true e = rw e
      by false e = never e

  pub loaded-high : (m.compact && ltb value (2 ^ 32)) ≡ false → mov_imm W64 dst value ≡ loaded m (mov_imm W64 dst value)
  loaded-high e = by m.compact e
    where
      by : (c : Bool) → (c && ltb value (2 ^ 32)) ≡ false → mov_imm W64 dst value ≡ pick c (shorter (mov_imm W64 dst value)) (mov_imm W64 dst value)
      by true e = rw e
      by false e = refl

-- the same of an immediate of 32 bits, which is extended by its sign
module _ (m : Mode) (dst imm : ℕ) where
  pub loaded-positive : (m.compact && ltb imm (2 ^ 31)) ≡ true → mov_imm W32 dst imm ≡ loaded m (alu_imm MOV W64 dst imm)
  loaded-positive e = by m.compact e
    where
      by : (c : Bool) → (c && ltb imm (2 ^ 31)) ≡ true → mov_imm W32 dst imm ≡ pick c (shorter (alu_imm MOV W64 dst imm)) (alu_imm MOV W64 dst imm)
      by true e = rw e
      by false e = never e

  pub loaded-negative : (m.compact && ltb imm (2 ^ 31)) ≡ false → alu_imm MOV W64 dst imm ≡ loaded m (alu_imm MOV W64 dst imm)
  loaded-negative e = by m.compact e
    where
      by : (c : Bool) → (c && ltb imm (2 ^ 31)) ≡ false → alu_imm MOV W64 dst imm ≡ pick c (shorter (alu_imm MOV W64 dst imm)) (alu_imm MOV W64 dst imm)
      by true e = rw e
      by false e = refl

-- at 32 bits the form is left as it is
pub loaded-half : (m : Mode) (dst imm : ℕ) → alu_imm MOV W32 dst imm ≡ loaded m (alu_imm MOV W32 dst imm)
loaded-half m dst imm = by m.compact
  where
    by : (c : Bool) → alu_imm MOV W32 dst imm ≡ pick c (shorter (alu_imm MOV W32 dst imm)) (alu_imm MOV W32 dst imm)
    by true = refl
    by false = refl
