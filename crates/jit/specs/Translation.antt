-- The whole translation: for every program, mode, pair of flags, helper lists, and lengths of the code buffer and the five tables either the
-- finished code with the first entries of three tables, or one refusal; what the other two hold is said by JumpTables.antt. Document 01
-- gives the order: the sizes, then the slots from 0 upward, then the epilogue, then the targets.
use Rattle.std.specs.Prelude.{Bool, true, false, ◌&&◌, ◌||◌, not, List, [], ◌∷◌, ◌++◌, ℕ, zero, suc, ◌+◌, ◌*◌, ◌/◌, ◌^◌, leb, ltb, eqb, length, Option, Some, None}
use Rattle.base.specs.Pick.{pick}
use Rattle.base.specs.declared.Slot.{Slot}
use Rattle.ebpf.specs.Insn.{read_at}
use Rattle.ebpf.specs.Opcode.{kind_of}
use Rattle.ebpf.specs.declared.insn.Insn.{Insn}
use Rattle.ebpf.specs.declared.kind.Kind.{Kind}
use Rattle.ebpf.specs.declared.kind.Kind.TheVariants.{LdAbs, LdInd, LdDwImm, LdReg, StImm, StReg, Alu, Shift, Neg, MulDivMod, Mov, Le, Be, Ja, Jump as JumpIf, Call, Exit}
use Rattle.ebpf.specs.declared.kind.Lookup.{Lookup}
use Rattle.ebpf.specs.declared.kind.Lookup.TheVariants.{Known, Unimplemented, Unknown}
use Rattle.jit.specs.declared.Flags.{Flags}
use Rattle.jit.specs.declared.Mode.{Mode}
use Rattle.jit.specs.declared.Refusal.{Refusal}
use Rattle.x86.specs.Instr.{Plain, Jump}
use Rattle.x86.specs.Encode.{isa}
use Rattle.x86.specs.Code.{size, targets_of}
use Rattle.code.specs.Page as pages
pub use Rattle.code.specs.Page.{slots_wide, slots_in, flat, entries, place_of}
unfoldable pub use Rattle.code.specs.Page.{good_target}
use Rattle.jit.specs.Limits.{shortest_page, longest_page, longest_program, most_helpers}
use Rattle.jit.specs.MulDivMod.{Code}
use Rattle.jit.specs.Slots.{slot_code}
use Rattle.jit.specs.Frame.{prologue, epilogue}

-- A filter: the program, the mode that it is translated in, and the helpers' ids and addresses.
pub record Filter : Type 0 where
  pub program : List ℕ
  pub mode : Mode
  pub ids : List ℕ
  pub addresses : List ℕ

-- What is asked: a filter, the flags, and the lengths of the code buffer and of the tables.
pub record Inputs : Type 0 where
  pub filter : Filter
  pub flags : Flags
  pub page : ℕ
  pub locations : ℕ
  pub fields : ℕ
  pub targets : ℕ
  pub kinds : ℕ
  pub makers : ℕ

-- n, the program's length divided by 8, rounded down
abbrev pub slots_of : List ℕ → ℕ
slots_of program = length program / 8

abbrev pub at : ℕ → Slot
at s = record { number = s }

-- the address that is listed beside an id
abbrev pub found : Bool → ℕ → Option ℕ → Option ℕ
found true a h = Some a
found false a h = h

unfoldable pub helper_of : (ids addresses : List ℕ) → (id : ℕ) → Option ℕ
helper_of [] addresses id = None
helper_of (x ∷ ids) [] id = None
helper_of (x ∷ ids) (a ∷ addresses) id = found (eqb x id) a (helper_of ids addresses id)

-- One slot: the instructions of one slot, or of two.
abbrev pub Block : Type 0
Block = pages.Block Plain Jump

abbrev pub wide_kind : Kind → Bool
wide_kind (LdAbs z) = false
wide_kind (LdInd z) = false
wide_kind LdDwImm = true
wide_kind (LdReg z) = false
wide_kind (StImm z) = false
wide_kind (StReg z) = false
wide_kind (Alu o w s) = false
wide_kind (Shift o w s) = false
wide_kind (Neg w) = false
wide_kind (MulDivMod o w s) = false
wide_kind (Mov w s) = false
wide_kind Le = false
wide_kind Be = false
wide_kind Ja = false
wide_kind (JumpIf c w s) = false
wide_kind Call = false
wide_kind Exit = false

abbrev pub block_of : Mode → Kind → ℕ → Insn → ℕ → Block
block_of m k slot i value = record { code = slot_code m k slot i value; wide = wide_kind k }

-- What a slot takes from elsewhere: the second half of a wide load's constant, the address of a helper. Or what is wrong with it.
pub data Operand : Type 0 where
  lacks : Refusal → Operand
  has : (value : ℕ) → Operand

abbrev pub wide_value : ℕ → Insn → Option Insn → Operand
wide_value slot i None = lacks (Refusal.Torn (at slot))
wide_value slot i (Some j) = has (i.imm + 2 ^ 32 * j.imm)

abbrev pub swap_bits : ℕ → Bool
swap_bits bits = eqb bits 16 || (eqb bits 32 || eqb bits 64)

-- BE has to have 16, 32 or 64 bits, and so has LE in standard mode; the Rust takes LE of any
abbrev pub le_bits : Mode → ℕ → Bool
le_bits m bits = pick m.standard (swap_bits bits) true

abbrev pub swap_value : Bool → ℕ → Operand
swap_value known slot = pick known (has 0) (lacks (Refusal.BadSwap (at slot)))

abbrev pub helper_value : ℕ → Option ℕ → Operand
helper_value slot (Some a) = has a
helper_value slot None = lacks (Refusal.UnknownHelper (at slot))

-- src 0 is a helper by its id, src 1 a call within the program
abbrev pub call_value : (ids addresses : List ℕ) → ℕ → Insn → Operand
call_value ids addresses slot i =
    pick (eqb i.src 0) (helper_value slot (helper_of ids addresses i.imm))
    (pick (eqb i.src 1) (has 0) (lacks (Refusal.BadCall (at slot))))

-- `next` is what reading the next slot gives
abbrev pub operand_of : Filter → Kind → ℕ → Insn → (next : Option Insn) → Operand
operand_of filter (LdAbs z) slot i next = has 0
operand_of filter (LdInd z) slot i next = has 0
operand_of filter LdDwImm slot i next = wide_value slot i next
operand_of filter (LdReg z) slot i next = has 0
operand_of filter (StImm z) slot i next = has 0
operand_of filter (StReg z) slot i next = has 0
operand_of filter (Alu o w s) slot i next = has 0
operand_of filter (Shift o w s) slot i next = has 0
operand_of filter (Neg w) slot i next = has 0
operand_of filter (MulDivMod o w s) slot i next = has 0
operand_of filter (Mov w s) slot i next = has 0
operand_of filter Le slot i next = swap_value (le_bits filter.mode i.imm) slot
operand_of filter Be slot i next = swap_value (swap_bits i.imm) slot
operand_of filter Ja slot i next = has 0
operand_of filter (JumpIf c w s) slot i next = has 0
operand_of filter Call slot i next = call_value filter.ids filter.addresses slot i
operand_of filter Exit slot i next = has 0

pub data Step : Type 0 where
  stop : Refusal → Step
  go : Block → Step

abbrev pub taken : Mode → Kind → ℕ → Insn → Operand → Step
taken m k slot i (lacks r) = stop r
taken m k slot i (has value) = go (block_of m k slot i value)

abbrev pub known : Filter → Lookup → ℕ → Insn → (next : Option Insn) → Step
known filter Unknown slot i next = stop (Refusal.UnknownOpcode (at slot))
known filter Unimplemented slot i next = stop (Refusal.Unimplemented (at slot))
known filter (Known k) slot i next = taken filter.mode k slot i (operand_of filter k slot i next)

abbrev pub good_registers : Insn → Bool
good_registers i = leb i.dst 10 && leb i.src 10

-- in this order: its bytes (6), its registers (7), its opcode (8, 9) and what that brings (10, 11, 12, or 6 for the second half)
abbrev pub step_read : Filter → ℕ → Option Insn → (next : Option Insn) → Step
step_read filter slot None next = stop (Refusal.Torn (at slot))
step_read filter slot (Some i) next =
    pick (good_registers i) (known filter (kind_of i.opc) slot i next) (stop (Refusal.BadRegister (at slot)))

unfoldable pub step_at : (filter : Filter) → ℕ → Step
step_at filter slot = step_read filter slot (read_at filter.program slot) (read_at filter.program (slot + 1))

-- All slots: a refusal, or the block of each.
pub data Walk : Type 0 where
  refused : Refusal → Walk
  done : List Block → Walk

abbrev pub joined : List Block → Walk → Walk
joined bs (refused r) = refused r
joined bs (done cs) = done (bs ++ cs)

-- a slot's code has to end within the buffer (13)
abbrev pub within : Bool → ℕ → Block → Walk → Walk
within true slot b w = joined (b ∷ []) w
within false slot b w = refused (Refusal.NoRoom (at slot))

abbrev pub after : (page slot place : ℕ) → Step → (ℕ → ℕ → Walk) → Walk
after page slot place (stop r) k = refused r
after page slot place (go b) k = within (leb (place + size b.code) page) slot b (k (slot + slots_wide b.wide) (place + size b.code))

-- the slots from one on, its code at a place; the fuel is at least the number of slots left
unfoldable pub rest : (fuel : ℕ) → (filter : Filter) → (page slot place : ℕ) → Walk
rest zero filter page slot place = done []
rest (suc fuel) filter page slot place =
    pick (ltb (8 * slot) (length filter.program))
    (after page slot place (step_at filter slot) (λ s p. rest fuel filter page s p))
    (done [])

-- A recorded target is a slot, or n, or the anchor. The first that is none of these is refused at the slot of its jump (14).
abbrev pub or_else : Option Slot → Option Slot → Option Slot
or_else None b = b
or_else (Some s) b = Some s

abbrev pub bad_in : (n slot : ℕ) → (targets : List ℕ) → Option Slot
bad_in n slot [] = None
bad_in n slot (t ∷ ts) = pick (good_target n t) (bad_in n slot ts) (Some (at slot))

abbrev pub first_bad : (n slot : ℕ) → List Block → Option Slot
first_bad n slot [] = None
first_bad n slot (b ∷ bs) = or_else (bad_in n slot (targets_of b.code)) (first_bad n (slot + slots_wide b.wide) bs)

-- The finished code, the locations 0 to n, and the fields and targets of the jumps in the order emitted, the prologue's first.
pub data Outcome : Type 0 where
  no : Refusal → Outcome
  yes : (code locations fields targets : List ℕ) → Outcome

-- The page: its code, and the location of each slot.
abbrev pub page_of : Flags → List Block → pages.Page Plain Jump
page_of f bs = record { prologue = prologue f; blocks = bs; epilogue = epilogue }

abbrev pub whole : Flags → List Block → Code
whole f bs = pages.whole (page_of f bs)

abbrev pub locations : Flags → List Block → List ℕ
locations f bs = pages.locations isa (page_of f bs)

abbrev pub accepted : Flags → List Block → Outcome
accepted f bs = let page = page_of f bs in yes (pages.page_code isa page) (locations f bs) (pages.field_table isa page) (pages.target_table isa page)

abbrev pub unless_bad : Option Slot → Outcome → Outcome
unless_bad None o = o
unless_bad (Some s) o = no (Refusal.BadTarget s)

abbrev pub finish : Flags → (n page : ℕ) → Walk → Outcome
finish f n page (refused r) = no r
finish f n page (done bs) = pick (leb (size (whole f bs)) page) (unless_bad (first_bad n 0 bs) (accepted f bs)) (no (Refusal.NoRoom (at n)))

abbrev pub walk_of : Inputs → Walk
walk_of x = rest (suc (slots_of x.filter.program)) x.filter x.page 0 (size (prologue x.flags))

-- Sizes (1 to 5), before anything is read of the program.
abbrev pub listed : ℕ → List ℕ → Bool
listed id [] = false
listed id (x ∷ xs) = eqb x id || listed id xs

abbrev pub twice : List ℕ → Bool
twice [] = false
twice (x ∷ xs) = listed x xs || twice xs

abbrev pub bad_helpers : (ids addresses : List ℕ) → Bool
bad_helpers ids addresses = not (eqb (length ids) (length addresses)) || (ltb most_helpers (length ids) || twice ids)

-- a table has fewer entries than n slots, and one
abbrev pub short_table : (n locations fields targets kinds makers : ℕ) → Bool
short_table n locations fields targets kinds makers = leb locations n || (leb fields n || (leb targets n || (leb kinds n || leb makers n)))

unfoldable pub sizes_of : Inputs → Outcome → Outcome
sizes_of x o =
    let n = slots_of x.filter.program in
    pick (ltb x.page shortest_page) (no Refusal.PageTooShort)
    (pick (ltb longest_page x.page) (no Refusal.PageTooLong)
    (pick (ltb longest_program (length x.filter.program)) (no Refusal.ProgramTooLong)
    (pick (short_table n x.locations x.fields x.targets x.kinds x.makers) (no Refusal.TableTooShort)
    (pick (bad_helpers x.filter.ids x.filter.addresses) (no Refusal.BadHelpers) o))))

unfoldable pub translation_of : Inputs → Outcome
translation_of x = sizes_of x (finish x.flags (slots_of x.filter.program) x.page (walk_of x))
