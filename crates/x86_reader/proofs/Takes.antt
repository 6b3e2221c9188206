-- An instruction takes at least one byte: what `decode` leaves is shorter than what it is given.
use mathlib.Core.Path.{◌≡◌, ◌∙◌, refl, ap, sym}
use mathlib.Core.Bool.{Bool, true, false}
use mathlib.Core.List.{List, [], ◌∷◌}
use Prim.Native.Nat.{ℕ, zero, suc, ◌+◌, ◌*◌, ◌/◌, ◌%◌, ◌≤◌, ◌<◌}
use native.Mathlib.Omega.{arith}
use lib.Dec.{eqb, leb, eqb→eq, leb→le}
use Rattle.std.proofs.Math.Nat.{min-eq_left, min-eq_right, min-le_right}
use lib.ListN.{length, drop, length-drop, drop_of_length-le}
use Rattle.base.specs.Pick.{pick}
use Rattle.base.proofs.Tests.{true-T, leb_no}
use Rattle.base.specs.declared.Width.{Width}
use Rattle.base.specs.declared.Width.TheVariants.{W32, W64}
use Rattle.x86.specs.Instr.{Instr}
use Rattle.x86.specs.Decode.{bad, got, Next, number, Rex, no_rex, rex_of, with_rex, Operand, in_register, in_memory, with_modrm, opcode, opcode16, decode}
use Rattle.x86_instructions.specs.declared.Instruction.{Instruction}
use Rattle.x86_instructions.specs.Instructions.{instr_of, read_is}
use Rattle.x86_forms.proofs.ByRex.{rex}
use Rattle.std.specs.Prelude.{Option, Some, min}

-- leaves no more than it is given
abbrev Leaves : Next → Type 0
Leaves k = (l : List ℕ) (i : Instr ℕ) (r : List ℕ) → k l ≡ got i r → length r ≤ length l

never : (i : Instr ℕ) (r : List ℕ) → bad ≡ got i r → ⊥
never i r e = let z : ◌≡◌ {A = ℕ} 0 1 = cc in omega arith

nothing : Leaves (λ r. bad)
nothing l i r e = absurd (never i r e)

ends : (j : Instr ℕ) → Leaves (got j)
ends j l i r e = let h : l ≡ r = cc in omega (arith, ap length h)

either : (b : Bool) (x y : Next) → Leaves x → Leaves y → Leaves (pick b x y)
either true x y h g = h
either false x y h g = g

numbers : (n : ℕ) (k : ℕ → Next) → ((v : ℕ) → Leaves (k v)) → Leaves (number n k)
unfolding number
numbers zero k h l i r e = h 0 l i r e
numbers (suc n) k h [] i r e = nothing [] i r e
numbers (suc n) k h (b ∷ l) i r e = let z = numbers n (λ v. k (b + 256 * v)) (λ v. h (b + 256 * v)) l i r e in omega arith

operands : (x : Rex) (k : ℕ → Operand → Next) → ((n : ℕ) (a : Operand) → Leaves (k n a)) → Leaves (with_modrm x k)
unfolding with_modrm
operands x k h [] i r e = nothing [] i r e
operands x k h (m ∷ l) i r e =
    let z = either (eqb (m / 64) 3) _ _ (h _ _)
    (either (eqb (m % 8) 4) _ _ nothing
    (either (eqb (m / 64) 0) _ _ (either (eqb (m % 8) 5) _ _ nothing (h _ _))
    (either (eqb (m / 64) 1) _ _ (numbers 1 _ (λ v. h _ _))
    (either (eqb (m / 64) 2) _ _ (numbers 4 _ (λ v. h _ _)) nothing))))
    l i r e in
    omega arith

-- by the operand
by_operand : (k : ℕ → Operand → Next) → ((n d : ℕ) → Leaves (k n (in_register d))) → ((n b v : ℕ) → Leaves (k n (in_memory b v)))
    → (n : ℕ) (a : Operand) → Leaves (k n a)
by_operand k h g n (in_register d) = h n d
by_operand k h g n (in_memory b v) = g n b v

forms : (x : Rex) (k : ℕ → Operand → Next) → ((n d : ℕ) → Leaves (k n (in_register d))) → ((n b v : ℕ) → Leaves (k n (in_memory b v)))
    → Leaves (with_modrm x k)
forms x k h g = operands x k (by_operand k h g)

-- a constant behind which the instruction ends
constant : (n : ℕ) (f : ℕ → Instr ℕ) → Leaves (number n (λ v. got (f v)))
constant n f = numbers n (λ v. got (f v)) (λ v. ends (f v))

module _ (t : Bool) (R B : ℕ) where
  -- 0F
  conditions : (o : ℕ) → o / 16 ≡ 8 → (l : List ℕ) (i : Instr ℕ) (r : List ℕ) (w : Width) → opcode (rex t w R B) 0x0f (o ∷ l) ≡ got i r → length r ≤ length l
  unfolding opcode
  conditions o p l i r w e =
      either t _ _ nothing
      (either (eqb (o % 16) 2) _ _ (constant 4 _)
      (either (eqb (o % 16) 3) _ _ (constant 4 _)
      (either (eqb (o % 16) 4) _ _ (constant 4 _)
      (either (eqb (o % 16) 5) _ _ (constant 4 _)
      (either (eqb (o % 16) 6) _ _ (constant 4 _)
      (either (eqb (o % 16) 7) _ _ (constant 4 _)
      (either (eqb (o % 16) 12) _ _ (constant 4 _)
      (either (eqb (o % 16) 13) _ _ (constant 4 _)
      (either (eqb (o % 16) 14) _ _ (constant 4 _)
      (either (eqb (o % 16) 15) _ _ (constant 4 _)
      nothing))))))))))
      l i r (rw p at e)

  second : (w : Width) → Leaves (opcode (rex t w R B) 0x0f)
  unfolding opcode
  second w [] i r e = nothing [] i r e
  second w (o ∷ l) i r e = go (eqb (o / 16) 8) refl
    where
      others : (w : Width) → eqb (o / 16) 8 ≡ false → opcode (rex t w R B) 0x0f (o ∷ l) ≡ got i r → length r ≤ length l
      others W32 q e =
          either (eqb (o / 8) 25) _ _ (ends _)
          (either (eqb o 0xb6) _ _ (forms _ _ (λ n d. nothing) (λ n b v. ends _))
          (either (eqb o 0xb7) _ _ (forms _ _ (λ n d. nothing) (λ n b v. ends _)) nothing))
          l i r (rw q at e)
      others W64 q e = either (eqb (o / 8) 25) _ _ (ends _) nothing l i r (rw q at e)

      go : (c : Bool) → eqb (o / 16) 8 ≡ c → length r ≤ suc (length l)
      go true q = let z = conditions o (eqb→eq _ 8 (true-T _ q)) l i r w e in omega arith
      go false q = let z = others w q e in omega arith

  -- B8+r
  moves : (w : Width) (o : ℕ) → o / 8 ≡ 23 → Leaves (opcode (rex t w R B) o)
  unfolding opcode
  moves W32 o p = rw p (constant 4 _)
  moves W64 o p = rw p (constant 8 _)

  -- each opcode in the definition's order
  usual : (w : Width) (o : ℕ) → Leaves (opcode (rex t w R B) o)
  unfolding opcode
  usual w o = go (eqb (o / 8) 23) refl
    where
      go : (c : Bool) → eqb (o / 8) 23 ≡ c → Leaves (opcode (rex t w R B) o)
      go true q = moves w o (eqb→eq _ 23 (true-T _ q))
      go false q =
          rw q
          (either (eqb (o / 8) 10) _ _ (ends _)
          (either (eqb (o / 8) 11) _ _ (ends _)
          (either (eqb o 0x01) _ _ (forms _ _ (λ n d. ends _) (λ n b v. nothing))
          (either (eqb o 0x09) _ _ (forms _ _ (λ n d. ends _) (λ n b v. nothing))
          (either (eqb o 0x0f) _ _ (second w)
          (either (eqb o 0x21) _ _ (forms _ _ (λ n d. ends _) (λ n b v. nothing))
          (either (eqb o 0x29) _ _ (forms _ _ (λ n d. ends _) (λ n b v. nothing))
          (either (eqb o 0x31) _ _ (forms _ _ (λ n d. ends _) (λ n b v. nothing))
          (either (eqb o 0x39) _ _ (forms _ _ (λ n d. ends _) (λ n b v. nothing))
          (either (eqb o 0x81) _ _ (forms _ _
          (λ n d. (either (eqb (n % 8) 0) _ _ (constant 4 _)
          (either (eqb (n % 8) 1) _ _ (constant 4 _)
          (either (eqb (n % 8) 4) _ _ (constant 4 _)
          (either (eqb (n % 8) 5) _ _ (constant 4 _)
          (either (eqb (n % 8) 6) _ _ (constant 4 _)
          (either (eqb (n % 8) 7) _ _ (constant 4 _)
          nothing))))))) (λ n b v. nothing))
          (either (eqb o 0x85) _ _ (forms _ _ (λ n d. ends _) (λ n b v. nothing))
          (either (eqb o 0x88) _ _ (either t _ _ (forms _ _ (λ n d. nothing) (λ n b v. ends _)) nothing)
          (either (eqb o 0x89) _ _ (forms _ _ (λ n d. ends _) (λ n b v. ends _))
          (either (eqb o 0x8b) _ _ (forms _ _ (λ n d. nothing) (λ n b v. ends _))
          (either (eqb o 0xc1) _ _ (forms _ _
          (λ n d. (either (eqb (n % 8) 4) _ _ (constant 1 _)
          (either (eqb (n % 8) 5) _ _ (constant 1 _)
          (either (eqb (n % 8) 7) _ _ (constant 1 _)
          nothing)))) (λ n b v. nothing))
          (either (eqb o 0xc3) _ _ (either t _ _ nothing (ends _))
          (either (eqb o 0xc6) _ _ (forms _ _
          (λ n d. either (eqb (n % 8) 0) _ _ nothing nothing)
          (λ n b v. either (eqb (n % 8) 0) _ _ (constant 1 _) nothing))
          (either (eqb o 0xc7) _ _ (forms _ _
          (λ n d. either (eqb (n % 8) 0) _ _ (constant 4 _) nothing)
          (λ n b v. either (eqb (n % 8) 0) _ _ (constant 4 _) nothing))
          (either (eqb o 0xd3) _ _ (forms _ _
          (λ n d. (either (eqb (n % 8) 4) _ _ (ends _)
          (either (eqb (n % 8) 5) _ _ (ends _)
          (either (eqb (n % 8) 7) _ _ (ends _)
          nothing)))) (λ n b v. nothing))
          (either (eqb o 0xe8) _ _ (either t _ _ nothing (constant 4 _))
          (either (eqb o 0xe9) _ _ (either t _ _ nothing (constant 4 _))
          (either (eqb o 0xf7) _ _ (forms _ _
          (λ n d. (either (eqb (n % 8) 0) _ _ (constant 4 _)
          (either (eqb (n % 8) 3) _ _ (ends _)
          (either (eqb (n % 8) 4) _ _ (ends _)
          (either (eqb (n % 8) 6) _ _ (ends _)
          nothing))))) (λ n b v. nothing))
          (either (eqb o 0xff) _ _ (forms _ _
          (λ n d. (either (eqb (n % 8) 2) _ _ (ends _)
          nothing)) (λ n b v. nothing))
          nothing)))))))))))))))))))))))

  narrow : (w : Width) (o : ℕ) → Leaves (opcode16 (rex t w R B) o)
  unfolding opcode16
  narrow W64 o = nothing
  narrow W32 o =
      either (eqb o 0x89) _ _ (forms _ _ (λ n d. nothing) (λ n b v. ends _))
      (either (eqb o 0xc1) _ _ (forms _ _ (λ n d. either (eqb (n % 8) 0) _ _ (constant 1 _) nothing) (λ n b v. nothing))
      (either (eqb o 0xc7) _ _
      (forms _ _ (λ n d. either (eqb (n % 8) 0) _ _ nothing nothing) (λ n b v. either (eqb (n % 8) 0) _ _ (constant 2 _) nothing)) nothing))

-- a byte is gone behind the opcode
headed : (k : Rex → ℕ → Next) → ((x : Rex) (o : ℕ) → Leaves (k x o)) → (l : List ℕ) (i : Instr ℕ) (r : List ℕ) → with_rex k l ≡ got i r → length r < length l
unfolding with_rex
headed k h [] i r e = absurd (never i r e)
headed k h (b ∷ l) i r e = go (eqb (b / 16) 4) refl l e
  where
    go : (c : Bool) → eqb (b / 16) 4 ≡ c → (l : List ℕ) → with_rex k (b ∷ l) ≡ got i r → length r < suc (length l)
    go false q l e = let z = h no_rex b l i r (rw q at e) in omega arith
    go true q [] e = absurd (never i r (rw q at e))
    go true q (o ∷ l) e = let z = h (rex_of (b % 16)) o l i r (rw q at e) in omega arith

pub takes : (l : List ℕ) (i : Instr ℕ) (r : List ℕ) → decode l ≡ got i r → length r < length l
unfolding decode
takes [] i r e = absurd (never i r e)
takes (b ∷ l) i r e = go (eqb b 0x66) e
  where
    go : (c : Bool) → pick c (with_rex opcode16 l) (with_rex opcode (b ∷ l)) ≡ got i r → length r < suc (length l)
    go true e = let z = headed opcode16 (λ x o. narrow x.there x.R x.B x.width o) l i r e in omega arith
    go false e = headed opcode (λ x o. usual x.there x.R x.B x.width o) (b ∷ l) i r e

-- So an answer goes on.
pub drop-min : (s : List ℕ) (p : ℕ) → drop (min p (length s)) s ≡ drop p s
drop-min s p = go (leb p (length s)) refl
  where
    go : (b : Bool) → leb p (length s) ≡ b → drop (min p (length s)) s ≡ drop p s
    go true e = rw (min-eq_left (leb→le p (length s) (true-T _ e)))
    go false e =
        let h = leb_no p (length s) e in
        let m : min p (length s) ≡ length s = min-eq_right (omega arith) in
        drop_of_length-le s {i = min p (length s)} (omega arith) ∙ sym (drop_of_length-le s {i = p} (omega arith))

pub onward : (s : List ℕ) (at : ℕ) {r : Option (Instruction × ℕ)} {i : Instruction} {p : ℕ} → decode (drop at s) ≡ read_is s r → r ≡ Some (i, p)
    → (at < min p (length s)) × (min p (length s) ≤ length s)
onward s at {r} {i} {p} e g =
    let h = takes (drop at s) (instr_of i) (drop p s) (rw g at e) in
    let m = min-le_right p (length s) in
    (omega (arith, length-drop at s, length-drop (min p (length s)) s, ap length (drop-min s p)), m)
