-- What the contracts of the two passes rule out.
use Rattle.std.proofs.Common.{Some, None, Result, Ok, Err}
use mathlib.Core.Path.{◌≡◌, ◌∙◌, ap, sym}
use mathlib.Core.List.{List}
use Prim.Native.Nat.{ℕ, ◌+◌, ◌<◌}
use native.Mathlib.Omega.{arith}
use Rattle.base.specs.declared.Slot.{Slot}
use Rattle.base.specs.declared.Width.TheVariants.{W64}
use Rattle.jit.specs.declared.Refusal.{Refusal}
use Rattle.x86.specs.Encode.{rex}
use Rattle.x86.specs.Code.{size}
use Rattle.jit.specs.Constants.{load_imm}
use Rattle.jit.specs.Room.{epilogue_size}
use Rattle.jit.specs.Slots.{reg_of}
use Rattle.jit.specs.Modes.{rust, standard, compact}
use Rattle.jit.specs.Translation.{at, Block, le_bits, swap_value, has, taken, Walk, refused, done, flat, first_bad}
use Rattle.ebpf.specs.declared.insn.Insn.{Insn}
use Rattle.ebpf.specs.declared.kind.Kind.TheVariants.{LdDwImm, Mov, Le, Call}
use Rattle.ebpf.specs.declared.kind.Source.TheVariants.{Imm}
use Rattle.jit_measuring.specs.declared.measure.Look.{Look}
use Rattle.jit_measuring.specs.declared.measure.Next.TheVariants.{Wide}
use Rattle.jit_measuring.specs.Looks.{plainly, Finds}
use Rattle.jit_walk.specs.Acceptable.{Acceptable}
use Rattle.jit_measuring.specs.declared.fits.Fit.TheVariants.{Sure}
use Rattle.jit_measuring.specs.declared.measure.Measured.{Measured}
use Rattle.jit_measuring.specs.Fits.{Settles}
use Rattle.jit_measuring.specs.Measures.{Answers}

-- A look at LE of 8 bits: it is taken in standard mode; it is refused with the mode off.
module _ (n slot : ℕ) (i : Insn) (eight : i.imm ≡ 8) where
  pub le-8-taken : (bytes : ℕ) → Finds n slot (taken standard Le slot i (swap_value (le_bits standard i.imm) slot)) (Ok (plainly bytes)) → ⊥
  le-8-taken bytes h =
      let e : Ok (plainly bytes) ≡ Err (Refusal.BadSwap (at slot)) = rw eight at h in
      let z : ◌≡◌ {A = ℕ} 0 1 = cc in
      absurd (omega arith)

  pub le-8-refused : (r : Refusal) → Finds n slot (taken rust Le slot i (swap_value (le_bits rust i.imm) slot)) (Err r) → ⊥
  le-8-refused r h = h

-- A look at a constant that is loaded.
abbrev insn : (dst imm : ℕ) → Insn
insn dst imm = record { opc = 0; dst = dst; src = 0; off = 0; imm = imm }

abbrev widely : (bytes : ℕ) → Result Look Refusal
widely bytes = Ok (record { size = bytes; next = Wide })

module _ (n slot : ℕ) where
  -- A wide load, compact: 2 ^ 32 in four bytes; 2 ^ 32 - 1 in eight; R13 without its REX. With the flag off: 5 without REX.W.
  pub wide-lengths :
      (Finds n slot (taken compact LdDwImm slot (insn 1 0) (has 0x100000000)) (widely 5) → ⊥)
      × ((Finds n slot (taken compact LdDwImm slot (insn 1 0xffffffff) (has 0xffffffff)) (widely 10) → ⊥)
      × ((Finds n slot (taken compact LdDwImm slot (insn 7 5) (has 5)) (widely 5) → ⊥)
      × (Finds n slot (taken rust LdDwImm slot (insn 1 5) (has 5)) (widely 5) → ⊥)))
  unfolding rex reg_of load_imm
  wide-lengths = (λ h. omega (arith, h.0), (λ h. omega (arith, h.0), (λ h. omega (arith, h.0), λ h. omega (arith, h.0))))

  -- MOV64_IMM of -1 and a helper at 2 ^ 32, compact, both without REX.W.
  pub compact-lengths :
      (Finds n slot (taken compact (Mov W64 Imm) slot (insn 1 0xffffffff) (has 0)) (Ok (plainly 5)) → ⊥)
      × (Finds n slot (taken compact Call slot (insn 0 3) (has 0x100000000)) (Ok (plainly 10)) → ⊥)
  unfolding rex reg_of load_imm
  compact-lengths = (λ h. omega (arith, h.0), λ h. omega (arith, h.0))

abbrev blocks_in : Walk → List Block → List Block
blocks_in (refused r) bs = bs
blocks_in (done cs) bs = cs

abbrev refusal_in : Walk → Refusal → Refusal
refusal_in (refused r) s = r
refusal_in (done bs) s = s

module _ (n page start : ℕ) where
  -- the blocks that a sure check has are the walk's
  same : {bs : List Block} (a : Acceptable n page start (done bs)) → bs ≡ a.bs
  same {bs} a = ap (λ (w : Walk). blocks_in w bs) a.walk

  -- The quick check: sure of a program that is refused, ..
  pub sure-of-a-refused : (r : Refusal) → Settles n page start (refused r) (Ok Sure) → ⊥
  sure-of-a-refused r a = let e : refused r ≡ done a.bs = a.walk in let z : ◌≡◌ {A = ℕ} 0 1 = cc in absurd (omega arith)

  -- .. of one that has no room, ..
  pub sure-without-room : (bs : List Block) → page < start + size (flat bs) + epilogue_size → Settles n page start (done bs) (Ok Sure) → ⊥
  sure-without-room bs h a = let room = rw (← same a) at a.room in absurd (omega (arith, room, h))

  -- .. or of one with a bad target;
  pub sure-of-a-bad-target : (bs : List Block) (s : Slot) → first_bad n 0 bs ≡ Some s → Settles n page start (done bs) (Ok Sure) → ⊥
  sure-of-a-bad-target bs s h a =
      let e : Some s ≡ None = sym h ∙ rw (same a) a.targets in let z : ◌≡◌ {A = ℕ} 0 1 = cc in absurd (omega arith)

  -- it refuses what the slots do not, or with another refusal
  pub refuses-a-good-walk : (bs : List Block) (r : Refusal) → Settles n page start (done bs) (Err r) → ⊥
  refuses-a-good-walk bs r e = let z : ◌≡◌ {A = ℕ} 0 1 = cc in absurd (omega arith)

  pub another-refusal : (r s : Refusal) → ¬ (r ≡ s) → Settles n page start (refused r) (Err s) → ⊥
  another-refusal r s h e = h (ap (λ (w : Walk). refusal_in w r) e)

  -- Measuring: it admits one answer only.
  pub one_answer : {w : Walk} {r s : Result Measured Refusal} → Answers n page start w r → Answers n page start w s → r ≡ s
  one_answer a b = a.answer ∙ sym b.answer
