-- The forms that go by REX: 89 to memory, 8B and C7 to memory, which move a word of the width that REX.W says, and B8+r, which has a
-- constant of it; those behind 66, which are read at 32 bits alone; 88, which is read behind a REX alone. The definition's own continuations fit what the readers promise of any.
use mathlib.Core.Path.{◌≡◌, refl}
use mathlib.Core.Bool.{Bool, true, false}
use mathlib.Core.List.{List, ◌∷◌}
use Prim.Native.Nat.{ℕ, ◌/◌, ◌%◌}
use native.Mathlib.Omega.{arith}
use lib.ListN.{drop}
use lib.Dec.{eqb}
use Rattle.base.specs.Pick.{pick}
use Rattle.base.specs.Widths.{bits}
use Rattle.base.specs.declared.Size.{Size}
use Rattle.base.specs.declared.Size.TheVariants.{S8, S16}
use Rattle.base.specs.declared.Width.{Width}
use Rattle.base.specs.declared.Width.TheVariants.{W32, W64}
use Rattle.x86.specs.Instr.{op, load, store, store_imm, mov_imm}
use Rattle.x86.specs.Decode.{Rex, Read, bad, got, Next, number, low_number, Operand, in_memory, with_modrm, opcode, opcode16}
use Rattle.x86_instructions.specs.Instructions.{word_of}
use Rattle.x86_forms.specs.Forms.{OnMemory, Stores, Rotates}

abbrev pub rex : Bool → Width → ℕ → ℕ → Rex
rex t w R B = record { there = t; width = w; R = R; B = B }

-- what `with_modrm` is at the memory b + v and reg n
abbrev pub AtMemory : Rex → (l : List ℕ) → (n b v : ℕ) → (r : List ℕ) → Type 0
AtMemory x l n b v r = (k : ℕ → Operand → Next) → with_modrm x k l ≡ k n (in_memory b v) r

module _ (t : Bool) (R B : ℕ) where
  pub mov-to-memory : (w : Width) (l r : List ℕ) (n b v : ℕ) → AtMemory (rex t w R B) l n b v r
      → opcode (rex t w R B) 0x89 l ≡ got (op (store (word_of w) n b v)) r
  unfolding opcode
  mov-to-memory W32 l r n b v h = h _
  mov-to-memory W64 l r n b v h = h _

  pub load_word : (w : Width) (s : List ℕ) (at : ℕ) (z : Size) (r : Read) → z ≡ word_of w
      → OnMemory (rex t w R B) s at (λ d b v. op (load z b d v)) r → opcode (rex t w R B) 0x8b (drop at s) ≡ r
  unfolding opcode
  load_word W32 s at z r e h = h _ (λ n b v l. rw e) (λ n d l. refl)
  load_word W64 s at z r e h = h _ (λ n b v l. rw e) (λ n d l. refl)

  pub store_word : (w : Width) (l r : List ℕ) (n b v : ℕ) (z : Size) (q : Read) → z ≡ word_of w → AtMemory (rex t w R B) l n b v r → n % 8 ≡ 0
      → number 4 (λ i. got (op (store_imm z b v i))) r ≡ q → opcode (rex t w R B) 0xc7 l ≡ q
  unfolding opcode
  store_word W32 l r n b v z q e h m c = rw (h, m, ← e) c
  store_word W64 l r n b v z q e h m c = rw (h, m, ← e) c

  -- B8+r
  pub constant : (w : Width) (o d : ℕ) (l : List ℕ) (r : Read) → o / 8 ≡ 23 → d ≡ low_number (rex t w R B) o
      → number (bits w / 8) (λ i. got (op (mov_imm w d i))) l ≡ r → opcode (rex t w R B) o l ≡ r
  unfolding opcode
  constant W32 o d l r p q h = rw (p, ← q) h
  constant W64 o d l r p q h = rw (p, ← q) h

-- refused whether the extension fits or not
pub only_none : (e n : ℕ) (l : List ℕ) → pick {A = Next} (eqb e n) (λ r. bad) (λ r. bad) l ≡ bad
only_none e n l = go (eqb e n)
  where
    go : (b : Bool) → pick {A = Next} b (λ r. bad) (λ r. bad) l ≡ bad
    go true = refl
    go false = refl

pub store_byte : (x : Rex) (s : List ℕ) (at : ℕ) (r : Read) → Stores 1 S8 x s at r → opcode x 0xc6 (drop at s) ≡ r
unfolding opcode
store_byte x s at r h = h _ (λ n b v l. refl) (λ n d l. only_none (n % 8) 0 l)

-- behind 66, where the width is 32 bits
module _ (t : Bool) (R B : ℕ) where
  pub store16 : (w : Width) (s : List ℕ) (at : ℕ) (r : Read) → w ≡ W32 → OnMemory (rex t w R B) s at (λ n b v. op (store S16 n b v)) r
      → opcode16 (rex t w R B) 0x89 (drop at s) ≡ r
  unfolding opcode16
  store16 W32 s at r e h = h _ (λ n b v l. refl) (λ n d l. refl)
  store16 W64 s at r e h = let z : ◌≡◌ {A = ℕ} 0 1 = cc in absurd (omega arith)

  pub rotate16 : (w : Width) (s : List ℕ) (at : ℕ) (r : Read) → w ≡ W32 → Rotates (rex t w R B) s at r
      → opcode16 (rex t w R B) 0xc1 (drop at s) ≡ r
  unfolding opcode16
  rotate16 W32 s at r e h = h _ (λ n d l. refl) (λ n b v l. refl)
  rotate16 W64 s at r e h = let z : ◌≡◌ {A = ℕ} 0 1 = cc in absurd (omega arith)

  pub store_two : (w : Width) (s : List ℕ) (at : ℕ) (r : Read) → w ≡ W32 → Stores 2 S16 (rex t w R B) s at r
      → opcode16 (rex t w R B) 0xc7 (drop at s) ≡ r
  unfolding opcode16
  store_two W32 s at r e h = h _ (λ n b v l. refl) (λ n d l. only_none (n % 8) 0 l)
  store_two W64 s at r e h = let z : ◌≡◌ {A = ℕ} 0 1 = cc in absurd (omega arith)

  -- 0F B6 and 0F B7, at 32 bits alone too
  pub load_byte : (w : Width) (s : List ℕ) (at : ℕ) (r : Read) → w ≡ W32 → OnMemory (rex t w R B) s at (λ d b v. op (load S8 b d v)) r
      → opcode (rex t w R B) 0x0f (0xb6 ∷ drop at s) ≡ r
  unfolding opcode
  load_byte W32 s at r e h = h _ (λ n b v l. refl) (λ n d l. refl)
  load_byte W64 s at r e h = let z : ◌≡◌ {A = ℕ} 0 1 = cc in absurd (omega arith)

  pub load-two : (w : Width) (s : List ℕ) (at : ℕ) (r : Read) → w ≡ W32 → OnMemory (rex t w R B) s at (λ d b v. op (load S16 b d v)) r
      → opcode (rex t w R B) 0x0f (0xb7 ∷ drop at s) ≡ r
  unfolding opcode
  load-two W32 s at r e h = h _ (λ n b v l. refl) (λ n d l. refl)
  load-two W64 s at r e h = let z : ◌≡◌ {A = ℕ} 0 1 = cc in absurd (omega arith)

-- 88, behind a REX alone
module _ (w : Width) (R B : ℕ) where
  pub store-register-byte : (t : Bool) (s : List ℕ) (at : ℕ) (r : Read) → t ≡ true → OnMemory (rex t w R B) s at (λ n b v. op (store S8 n b v)) r
      → opcode (rex t w R B) 0x88 (drop at s) ≡ r
  unfolding opcode
  store-register-byte true s at r e h = h _ (λ n b v l. refl) (λ n d l. refl)
  store-register-byte false s at r e h = let z : ◌≡◌ {A = ℕ} 0 1 = cc in absurd (omega arith)
