-- What the statement asks is needed: without it, pages that are accepted do otherwise. Each page here but those of `last-spoiled` and
-- `jump-astray`, which are wrong, is one that `translation_of` gives, and is written out. The mode: in the Rust's, MOD32_REG, MOV32_REG and
-- LE 16 do not do what RFC 9669 says. The run: a pop that gives another word than was pushed, and a push that faults. The slot: one that goes
-- to location 0, and one whose own location that is. The registers: that they are eleven, and words.
use Rattle.std.proofs.Common.{Some}
use mathlib.Core.Path.{◌≡◌, refl}
use mathlib.Core.Logic.{◌≢◌}
use mathlib.Core.Bool.{true, false}
use mathlib.Core.List.{List, [], ◌∷◌, ◌++◌}
use Prim.Native.Nat.{ℕ, ◌^◌, ◌<◌}
use native.Mathlib.Omega.{arith}
use lib.Dec.{T, eqb}
use lib.ListN.{length, get_or, replicate}
use Rattle.base.specs.Pick.{pick}
use Rattle.base.proofs.Table.{agree}
use Rattle.base.specs.declared.Width.TheVariants.{W32, W64}
use Rattle.ebpf.specs.Insn.{insn_at, read_at}
use Rattle.ebpf.specs.Opcode.{kind_of}
use Rattle.ebpf.specs.declared.insn.Insn.{Insn}
use Rattle.ebpf.specs.declared.kind.Source.TheVariants.{Imm, Reg}
use Rattle.ebpf.specs.declared.kind.MulOp.TheVariants.{Div, Mod}
use Rattle.ebpf.specs.declared.kind.Kind.{Kind}
use Rattle.ebpf.specs.declared.kind.Kind.TheVariants.{MulDivMod, Mov, Le, Ja}
use Rattle.ebpf.specs.declared.kind.Lookup.TheVariants.{Known}
use Rattle.ebpf_meaning.specs.Values.{mul_value, le_value}
use Rattle.ebpf_meaning.specs.Step.{other, act}
use Rattle.x86.specs.Registers.{RDX, RSP}
use Rattle.x86.specs.Encode.{rex, modrm}
use Rattle.x86.specs.Decode.{decode, with_rex, rex_of, opcode, with_modrm, reg_number, low_number, number}
use Rattle.jit.specs.Limits.{anchor}
use Rattle.jit.specs.Constants.{load_imm}
use Rattle.jit.specs.Slots.{reg_of, target_of}
use Rattle.jit.specs.Frame.{saves, argument, enter, prologue, epilogue}
use Rattle.jit.specs.Translation.{Inputs, yes, step_at, rest, good_target, sizes_of, translation_of}
use Rattle.jit.specs.declared.Mode.{Mode}
use Rattle.jit.specs.Modes.{rust, standard}
use Rattle.x86_machine.specs.Machine.{Regs, State, running, faulted, rd, result, divides, follow, step, run}
use Rattle.x86_machine.proofs.WorkedRun.{input}
use Rattle.jit_agrees.specs.Runs.{Leads}
use Rattle.jit_agrees.specs.Agrees.{Mapped, Behind, may_be_empty, Does, Agrees}
use Rattle.jit_agrees.proofs.Starts.{start_at, holding}
use Rattle.jit_agrees.proofs.Elsewhere.{Part, place, elsewhere, acts-other, inputs, inputs-fair, not-led, refutes, refuted}

abbrev pub asking : Mode → (program : List ℕ) → Inputs
asking m program =
    record {
      filter = record { program = program; mode = m; ids = []; addresses = [] };
      flags = record { use_mbuff = false; update_data_ptr = false };
      page = 4096;
      locations = 9;
      fields = 9;
      targets = 9;
      kinds = 9;
      makers = 9;
    }

-- a slot whose offset is 0: opcode; registers, src · 16 + dst; the immediate's lowest byte
abbrev pub slot : (o r x : ℕ) → List ℕ
slot o r x = o ∷ r ∷ 0 ∷ 0 ∷ x ∷ 0 ∷ 0 ∷ 0 ∷ []

-- .. and behind it EXIT
abbrev slot_and_exit : (o r x : ℕ) → List ℕ
slot_and_exit o r x = slot o r x ++ slot 0x95 0 0

-- the slots' code, between the prologue, whose last is the distance to the exit, and the epilogue
abbrev pub page : List ℕ → List ℕ
page slots =
    0x55 ∷ 0x53 ∷ 0x41 ∷ 0x55 ∷ 0x41 ∷ 0x56 ∷ 0x41 ∷ 0x57 ∷ 0x49 ∷ 0x89 ∷ 0xd2 ∷ 0x48 ∷ 0x89 ∷ 0xd7 ∷ 0x48 ∷ 0x89 ∷ 0xe5
    ∷ 0x48 ∷ 0x81 ∷ 0xec ∷ 0x00 ∷ 0x02 ∷ 0x00 ∷ 0x00 ∷ 0xe8 ∷ 0x05 ∷ 0x00 ∷ 0x00 ∷ 0x00 ∷ 0xe9 ∷ length slots ∷ 0x00 ∷ 0x00 ∷ 0x00
    ∷ (slots ++ (0x48 ∷ 0x81 ∷ 0xc4 ∷ 0x00 ∷ 0x02 ∷ 0x00 ∷ 0x00 ∷ 0x41 ∷ 0x5f ∷ 0x41 ∷ 0x5e ∷ 0x41 ∷ 0x5d ∷ 0x5b ∷ 0x5d ∷ 0xc3 ∷ []))

-- EXIT's code
abbrev exit : List ℕ
exit = 0xc3 ∷ []

-- a slot as it is read, dst being r0
abbrev fields : (o src x : ℕ) → Insn
fields o r x = record { opc = o; dst = 0; src = r; off = 0; imm = x }

-- what is accepted, its locations, fields and targets
abbrev pub Gives : Mode → (program slots locs fields targets : List ℕ) → Type 0
Gives m program slots l f t = translation_of (asking m program) ≡ yes (page slots) l f t

-- THE MODE. Slot 0 and EXIT, in the Rust's: the page is accepted, and does not agree.
module _ (program slots locs : List ℕ) (k : Kind) (i : Insn) (r : List ℕ) where
  disagrees : read_at program 0 ≡ Some i → kind_of i.opc ≡ Known k → get_or locs 0 0 ≢ 0 → T (refutes (page slots) locs 0 k i r true)
      → Agrees program (page slots) locs → ⊥
  disagrees a b c t h = refuted (page slots) locs 0 k i r true t (h 0 i k a b c)

-- MOD32_REG r0, r1: 2 ^ 32 + 7 modulo 0
abbrev mod32 : List ℕ
mod32 =
    0x48 ∷ 0xc7 ∷ 0xc1 ∷ 0x00 ∷ 0x00 ∷ 0x00 ∷ 0x00 ∷ 0x85 ∷ 0xff ∷ 0x0f ∷ 0x84 ∷ 0x0f ∷ 0x00 ∷ 0x00 ∷ 0x00
    ∷ 0x52 ∷ 0x48 ∷ 0x89 ∷ 0xf9 ∷ 0x48 ∷ 0x89 ∷ 0xc0 ∷ 0x31 ∷ 0xd2 ∷ 0xf7 ∷ 0xf1 ∷ 0x48 ∷ 0x89 ∷ 0xd0 ∷ 0x5a ∷ 0xc3 ∷ []

pub mod32-in-rust : Gives rust (slot_and_exit 0x9c 0x10 0) mod32 (34 ∷ 64 ∷ 0 ∷ []) (30 ∷ 45 ∷ []) (anchor ∷ 1 ∷ [])
    × (Agrees (slot_and_exit 0x9c 0x10 0) (page mod32) (34 ∷ 64 ∷ 0 ∷ []) → ⊥)
unfolding insn_at read_at kind_of reg_of target_of rex modrm saves argument enter prologue epilogue step_at rest good_target sizes_of translation_of mul_value
    decode with_rex rex_of opcode with_modrm reg_number low_number number rd result divides follow step
mod32-in-rust = (
  refl,
  disagrees (slot_and_exit 0x9c 0x10 0) mod32 (34 ∷ 64 ∷ 0 ∷ []) (MulDivMod Mod W32 Reg) (fields 0x9c 1 0) (holding 0x1_0000_0007 0) refl refl
      (λ e. omega arith) tt,
)

-- MOV32_REG r0, r1: 2 ^ 32 + 7
abbrev mov32 : List ℕ
mov32 = 0x48 ∷ 0x89 ∷ 0xf8 ∷ 0xc3 ∷ []

pub mov32-in-rust : Gives rust (slot_and_exit 0xbc 0x10 0) mov32 (34 ∷ 37 ∷ 0 ∷ []) (30 ∷ []) (anchor ∷ [])
    × (Agrees (slot_and_exit 0xbc 0x10 0) (page mov32) (34 ∷ 37 ∷ 0 ∷ []) → ⊥)
unfolding insn_at read_at kind_of reg_of target_of rex modrm saves argument enter prologue epilogue step_at rest good_target sizes_of translation_of
    decode with_rex rex_of opcode with_modrm reg_number low_number number rd result follow step
mov32-in-rust = (
  refl,
  disagrees (slot_and_exit 0xbc 0x10 0) mov32 (34 ∷ 37 ∷ 0 ∷ []) (Mov W32 Reg) (fields 0xbc 1 0) (holding 0 0x1_0000_0007) refl refl
      (λ e. omega arith) tt,
)

-- LE 16 of r0, which has no code: 0x10007
pub le16-in-rust : Gives rust (slot_and_exit 0xd4 0 16) exit (34 ∷ 34 ∷ 0 ∷ []) (30 ∷ []) (anchor ∷ [])
    × (Agrees (slot_and_exit 0xd4 0 16) (page exit) (34 ∷ 34 ∷ 0 ∷ []) → ⊥)
unfolding insn_at read_at kind_of reg_of target_of rex modrm saves argument enter prologue epilogue step_at rest good_target sizes_of translation_of le_value
    decode with_rex rex_of opcode with_modrm reg_number low_number number rd result follow step
le16-in-rust = (
  refl,
  disagrees (slot_and_exit 0xd4 0 16) exit (34 ∷ 34 ∷ 0 ∷ []) Le (fields 0xd4 0 16) (holding 0x1_0007 0) refl refl (λ e. omega arith) tt,
)

-- THE RUN. DIV64_REG r0, r1 and EXIT, in standard mode, of 7 by 2; r3, which is RDX, is 103.
abbrev div64 : List ℕ
div64 =
    0x48 ∷ 0xc7 ∷ 0xc1 ∷ 0x00 ∷ 0x00 ∷ 0x00 ∷ 0x00 ∷ 0x48 ∷ 0x85 ∷ 0xff ∷ 0x0f ∷ 0x85 ∷ 0x07 ∷ 0x00 ∷ 0x00 ∷ 0x00 ∷ 0x31 ∷ 0xc0
    ∷ 0xe9 ∷ 0x0d ∷ 0x00 ∷ 0x00 ∷ 0x00 ∷ 0x52 ∷ 0x48 ∷ 0x89 ∷ 0xf9 ∷ 0x48 ∷ 0x89 ∷ 0xc0 ∷ 0x31 ∷ 0xd2 ∷ 0x48 ∷ 0xf7 ∷ 0xf1 ∷ 0x5a ∷ 0xc3 ∷ []

abbrev div_locs : List ℕ
div_locs = 34 ∷ 70 ∷ 0 ∷ []

pub div64-accepted : Gives standard (slot_and_exit 0x3f 0x10 0) div64 div_locs (30 ∷ 53 ∷ []) (anchor ∷ 1 ∷ [])
unfolding insn_at read_at kind_of reg_of target_of rex modrm saves argument enter prologue epilogue step_at rest good_target sizes_of translation_of
div64-accepted = refl

abbrev dividing : State
dividing = start_at 34 (holding 7 2)

abbrev Divided : State → Type 0
Divided = Behind (page div64) div_locs 0 (fields 0x3f 1 0) (holding 7 2) (act (MulDivMod Div W64 Reg) (fields 0x3f 1 0) (holding 7 2)) dividing

rdx-lost : (t : State) → t.regs RDX ≡ 7 → Divided t → ⊥
unfolding reg_of
rdx-lost t e b = let q : t.regs RDX ≡ 103 = b.registers.each 3 (omega arith) in omega arith

-- a pop that gives 7 where 103 was pushed: slot 1 is reached all the same, with RDX lost
abbrev Pops7 : (State → Type 0) → Type 0
Pops7 P = (t : State) × ((run (page div64) (replicate 9 (input true 0)) dividing ≡ running t) × ((t.pos ≡ get_or div_locs 1 0) × P t))

pops-7 : Pops7 (λ t. t.regs RDX ≡ 7)
unfolding decode with_rex rex_of opcode with_modrm reg_number low_number number rd result divides follow step run
pops-7 = (_, (refl, (refl, refl)))

pub popped-otherwise : Pops7 (λ t. Divided t → ⊥)
popped-otherwise = let p = pops-7 in (p.0, (p.1.0, (p.1.1.0, rdx-lost p.0 p.1.1.1)))

-- a push that is not allowed
pub push-faults : run (page div64) (replicate 9 (input false 0)) dividing ≡ faulted
unfolding decode with_rex rex_of opcode with_modrm reg_number low_number number rd result divides follow step run
push-faults = refl

-- THE SLOT. MOV64_IMM r0, 1 alone, in standard mode: slot 1 has the location 0, and a run from slot 0 ends without having been there.
abbrev mov64 : List ℕ
mov64 = 0x48 ∷ 0xc7 ∷ 0xc0 ∷ 0x01 ∷ 0x00 ∷ 0x00 ∷ 0x00 ∷ []

pub mov64-accepted : Gives standard (slot 0xb7 0 1) mov64 (34 ∷ 0 ∷ []) (30 ∷ []) (anchor ∷ [])
unfolding insn_at read_at kind_of reg_of target_of rex modrm saves argument enter prologue epilogue step_at rest good_target sizes_of translation_of
mov64-accepted = refl

abbrev not_at : (p : ℕ) → State → List Part
not_at p t = pick (eqb t.pos p) [] (place ∷ [])

pub fall-claimed : Leads (page mov64) (λ t. t.pos ≡ get_or (34 ∷ 0 ∷ []) 1 0) 0 true [] (start_at 34 (holding 0 0)) → ⊥
unfolding decode with_rex rex_of opcode with_modrm reg_number low_number number rd result follow step
fall-claimed leads =
    elsewhere (page mov64) (inputs 0 true) (not_at 0) (λ t. t.pos ≡ 0) 0 (λ t e. rw e) (inputs-fair 0 true) 10 leads refl

-- .. and code that leaves 1 in r0 and then takes it back is not excused by that: the fall is to the epilogue, and there r0 is 0
pub last-spoiled : Does (page (mov64 ++ (0x31 ∷ 0xc0 ∷ []))) (34 ∷ 0 ∷ []) 0 (Mov W64 Imm) (fields 0xb7 0 1) → ⊥
unfolding reg_of epilogue load_imm rex modrm decode with_rex rex_of opcode with_modrm reg_number low_number number rd result follow step
last-spoiled = refuted (page (mov64 ++ (0x31 ∷ 0xc0 ∷ []))) (34 ∷ 0 ∷ []) 0 (Mov W64 Imm) (fields 0xb7 0 1) (holding 0 0) true tt

-- JA to slot 1, which begins nowhere, by code that copies RAX to itself and returns: it neither goes to the page's first byte nor falls
pub jump-astray : Does (page (0x48 ∷ 0x89 ∷ 0xc0 ∷ 0xc3 ∷ [])) (34 ∷ 0 ∷ []) 0 Ja (fields 0x05 0 0) → ⊥
unfolding reg_of epilogue rex modrm decode with_rex rex_of opcode with_modrm reg_number low_number number rd result follow step
jump-astray = refuted (page (0x48 ∷ 0x89 ∷ 0xc0 ∷ 0xc3 ∷ [])) (34 ∷ 0 ∷ []) 0 Ja (fields 0x05 0 0) (holding 0 0) true tt

-- A wide load's second half that can be read as MOV64_IMM r0, 0, and EXIT: its location is 0 too, where the prologue is.
abbrev wide : List ℕ
wide = slot 0x18 0 0 ++ (slot 0xb7 0 0 ++ slot 0x95 0 0)

abbrev wide_slots : List ℕ
wide_slots = 0x48 ∷ 0xc7 ∷ 0xc0 ∷ 0x00 ∷ 0x00 ∷ 0x00 ∷ 0x00 ∷ 0xc3 ∷ []

pub second-half : Gives standard wide wide_slots (34 ∷ 0 ∷ 41 ∷ 0 ∷ []) (30 ∷ []) (anchor ∷ [])
    × ((read_at wide 1 ≡ Some (fields 0xb7 0 0)) × (Does (page wide_slots) (34 ∷ 0 ∷ 41 ∷ 0 ∷ []) 1 (Mov W64 Imm) (fields 0xb7 0 0) → ⊥))
unfolding insn_at read_at kind_of reg_of target_of rex modrm saves argument enter prologue epilogue step_at rest good_target sizes_of translation_of
    load_imm decode with_rex rex_of opcode with_modrm reg_number low_number number rd result follow step
second-half = (refl, (refl, refuted (page wide_slots) (34 ∷ 0 ∷ 41 ∷ 0 ∷ []) 1 (Mov W64 Imm) (fields 0xb7 0 0) (holding 0 0) true tt))

-- THE REGISTERS. Does, with another premise in Mapped's place.
abbrev DoesOf : (List ℕ → Regs → Type 0) → (code locs : List ℕ) → (slot : ℕ) → Kind → Insn → Type 0
DoesOf M code locs slot k i =
    (r : List ℕ) (s : State) → act k i r ≢ other → M r s.regs → s.pos ≡ get_or locs slot 0
    → Leads code (Behind code locs slot i r (act k i r) s) (s.regs RSP) (may_be_empty (act k i r)) [] s

pub does-of-mapped : (code locs : List ℕ) (slot : ℕ) (k : Kind) (i : Insn) → Does code locs slot k i ≡ DoesOf Mapped code locs slot k i
does-of-mapped code locs slot k i = refl

abbrev Each : List ℕ → Regs → Type 0
Each r g = (k : ℕ) → k < 11 → g (reg_of k) ≡ get_or r k 0

each-at-start : (p : ℕ) (r : List ℕ) → Each r (start_at p r).regs
unfolding reg_of
each-at-start p r = agree (λ k. (start_at p r).regs (reg_of k)) (λ k. get_or r k 0) 11 refl

-- LE 64 of r0 and EXIT, in standard mode, has no code: r0 of 2 ^ 64 would have to become 0
pub words-needed : Gives standard (slot_and_exit 0xd4 0 64) exit (34 ∷ 34 ∷ 0 ∷ []) (30 ∷ []) (anchor ∷ [])
    × (DoesOf (λ r g. (length r ≡ 11) × Each r g) (page exit) (34 ∷ 34 ∷ 0 ∷ []) 0 Le (fields 0xd4 0 64) → ⊥)
unfolding insn_at read_at kind_of reg_of target_of rex modrm saves argument enter prologue epilogue step_at rest good_target sizes_of translation_of le_value
    decode with_rex rex_of opcode with_modrm reg_number low_number number rd result follow step
words-needed = (
  refl,
  λ does. not-led (page exit) (34 ∷ 34 ∷ 0 ∷ []) 0 Le (fields 0xd4 0 64) (holding (2 ^ 64) 0) true tt
      (does (holding (2 ^ 64) 0) (start_at 34 (holding (2 ^ 64) 0)) (acts-other _ tt) (refl, each-at-start 34 (holding (2 ^ 64) 0)) refl),
)

-- MOV64_IMM r0, 1 and EXIT, of no registers at all: the list has no r0 to become 1, and its register does
pub eleven-needed : Gives standard (slot_and_exit 0xb7 0 1) (mov64 ++ exit) (34 ∷ 41 ∷ 0 ∷ []) (30 ∷ []) (anchor ∷ [])
    × (DoesOf (λ r g. Each r g × ((m : ℕ) → g m < 2 ^ 64)) (page (mov64 ++ exit)) (34 ∷ 41 ∷ 0 ∷ []) 0 (Mov W64 Imm) (fields 0xb7 0 1) → ⊥)
unfolding insn_at read_at kind_of reg_of target_of rex modrm saves argument enter prologue epilogue step_at rest good_target sizes_of translation_of
    decode with_rex rex_of opcode with_modrm reg_number low_number number rd result follow step
eleven-needed = (
  refl,
  λ does. not-led (page (mov64 ++ exit)) (34 ∷ 41 ∷ 0 ∷ []) 0 (Mov W64 Imm) (fields 0xb7 0 1) [] true tt
      (does [] (start_at 34 []) (acts-other _ tt) (each-at-start 34 [], λ m. omega arith) refl),
)
