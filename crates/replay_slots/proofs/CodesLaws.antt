-- The laws of specs/Codes.antt: a code by its kind's number is that of its kind; where there is no slot, the code is 0; and entry behind entry.
use mathlib.Core.Path.{◌≡◌, refl, ◌∙◌, sym}
use mathlib.Core.Bool.{Bool, true, false, ◌&&◌}
use mathlib.Core.List.{List}
use Prim.Native.Nat.{ℕ, ◌+◌, ◌≤◌, ◌<◌}
use native.Mathlib.Numerals.{add-one}
use native.Mathlib.Omega.{arith}
use borrow.Author.Tests.{lt-ltb, le-ltb, lt-leb, le-leb}
use lib.Dec.{ltb, leb}
use lib.ListN.{length, get_or, set}
use lib.Seq.{get_or-set_same, get_or-set_other}
use Rattle.base.specs.Pick.{pick}
use Rattle.ebpf.specs.Insn.{insn_at}
use Rattle.ebpf.specs.Kinds.{numbers, number_of}
use Rattle.ebpf.specs.Opcode.{kind_of}
use Rattle.ebpf.specs.declared.insn.Insn.{Insn}
use Rattle.ebpf.specs.declared.kind.Kind.{Kind}
use Rattle.ebpf.specs.declared.kind.Kind.TheVariants.{LdAbs, LdInd, LdDwImm, LdReg, StImm, StReg, Alu, Shift, Neg, MulDivMod, Mov, Le, Be, Ja, Jump, Call, Exit}
use Rattle.ebpf.specs.declared.kind.Lookup.{Lookup}
use Rattle.ebpf.specs.declared.kind.Lookup.TheVariants.{Known, Unimplemented, Unknown}
use Rattle.ebpf.proofs.KindsLaws.{number-at}
use Rattle.jit.specs.Translation.{slots_of, swap_bits}
use Rattle.replay.specs.Run.{kind_at, kind_in, runnable, is_second, opcode_at}
use Rattle.replay_slots.specs.Codes.{absent_code, code_of, code_at, code_by, opened}

module _ (more : Bool) (i : Insn) where
  only_if : (k : Kind) (t : Bool) → code_of (Known k) i.opc ≡ i.opc → pick t i.opc absent_code ≡ code_of (pick t (Known k) Unknown) i.opc
  only_if k true e = sym e
  only_if k false e = refl

  pub by_number : (l : Lookup) → code_by (number_of l) more i ≡ code_of (runnable more i l) i.opc
  by_number Unknown = refl
  by_number Unimplemented = refl
  by_number (Known (LdAbs z)) = refl
  by_number (Known (LdInd z)) = refl
  by_number (Known LdDwImm) = only_if LdDwImm more refl
  by_number (Known (LdReg z)) = refl
  by_number (Known (StImm z)) = refl
  by_number (Known (StReg z)) = refl
  by_number (Known (Alu p w x)) = refl
  by_number (Known (Shift p w x)) = refl
  by_number (Known (Neg w)) = refl
  by_number (Known (MulDivMod p w x)) = refl
  by_number (Known (Mov w x)) = refl
  by_number (Known Le) = only_if Le (swap_bits i.imm) refl
  by_number (Known Be) = only_if Be (swap_bits i.imm) refl
  by_number (Known Ja) = refl
  by_number (Known (Jump c w x)) = refl
  by_number (Known Call) = refl
  by_number (Known Exit) = refl

  -- with good registers, and with one that is none
  pub good : i.opc < 256 → i.dst ≤ 10 → i.src ≤ 10 → code_by (get_or numbers i.opc 0) more i ≡ code_of (kind_in more i) i.opc
  good o d s = rw (number-at i.opc o, le-leb i.dst 10 d, le-leb i.src 10 s) (by_number (kind_of i.opc))

  pub bad-dst : 10 < i.dst → absent_code ≡ code_of (kind_in more i) i.opc
  bad-dst h = rw (lt-leb i.dst 10 h)

  pub bad-src : 10 < i.src → absent_code ≡ code_of (kind_in more i) i.opc
  bad-src h = by (leb i.dst 10) (lt-leb i.src 10 h)
    where
      by : (t : Bool) → leb i.src 10 ≡ false → absent_code ≡ code_of (pick (t && leb i.src 10) (runnable more i (kind_of i.opc)) Unknown) i.opc
      by true e = rw e
      by false e = refl

module _ (program : List ℕ) (slot : ℕ) where
  -- a second half, and another slot
  pub second : is_second program slot ≡ true → absent_code ≡ code_at program slot
  unfolding kind_at
  second e = rw e (by (ltb slot (slots_of program)))
    where
      by : (t : Bool) → absent_code ≡ code_of (pick (t && false) (kind_in (ltb (slot + 1) (slots_of program)) (insn_at program slot)) Unknown) (opcode_at program slot)
      by true = refl
      by false = refl

  pub first : slot < slots_of program → is_second program slot ≡ false
      → code_of (kind_in (ltb (slot + 1) (slots_of program)) (insn_at program slot)) (insn_at program slot).opc ≡ code_at program slot
  unfolding kind_at insn_at
  first h e = rw (lt-ltb slot (slots_of program) h, e)

  pub opens-next : opened (is_second program slot) (opcode_at program slot) ≡ is_second program (slot + 1)
  unfolding is_second
  opens-next = rw add-one

-- the entries below a place
abbrev pub Below : (program codes : List ℕ) → (slot : ℕ) → Type 0
Below program codes slot = (k : ℕ) → k < slot → get_or codes k 0 ≡ code_at program k

pub one_more : (program codes : List ℕ) (slot : ℕ) → slot < length codes → Below program codes slot
    → Below program (set codes slot (code_at program slot)) (slot + 1)
one_more program codes slot h below k l = by (ltb k slot) refl
  where
    by : (t : Bool) → ltb k slot ≡ t → get_or (set codes slot (code_at program slot)) k 0 ≡ code_at program k
    by true e =
        let g : k < slot = borrow.Author.Tests.ltb-true k slot e in
        get_or-set_other codes slot k (code_at program slot) 0 (λ q. absurd (omega (arith, q))) ∙ below k g
    by false e =
        let g : k ≡ slot = omega (arith, borrow.Author.Tests.ltb-false k slot e) in
        rw g (get_or-set_same codes slot (code_at program slot) 0 h)
