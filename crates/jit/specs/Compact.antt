-- What `compact` changes: in the code of a slot each constant that is loaded is put in its shorter form (Constants.antt), instruction by
-- instruction, and nothing else differs. So the slots and their order stay, and so do their jumps: targets, kinds and makers; no slot gets
-- longer; what was accepted is accepted, and what was refused for another reason than room is refused for that reason. `Compact` says it, and
-- proofs/CompactLaws.antt proves it.
use Rattle.std.specs.Prelude.{◌≡◌, true, false, List, [], ◌∷◌, ℕ, ◌<◌, ◌≤◌, length}
use Rattle.ebpf.specs.declared.insn.Insn.{Insn}
use Rattle.ebpf.specs.declared.kind.Kind.{Kind}
use Rattle.x86.specs.Instr.{Instr, op, jump, call_reg, ret}
use Rattle.x86.specs.Code.{Dest, targets_of, kinds_of}
use Rattle.x86.specs.Code as x86
use Rattle.jit.specs.declared.Mode.{Mode}
use Rattle.jit.specs.declared.Refusal.{Refusal}
use Rattle.jit.specs.Refusals.{number_of, slot_of}
use Rattle.jit.specs.Constants.{shorter}
use Rattle.jit.specs.MulDivMod.{Code}
use Rattle.jit.specs.Slots.{slot_code}
use Rattle.jit.specs.Translation.{Inputs, Block, done, walk_of, Outcome, no, yes, translation_of}
use Rattle.jit.specs.JumpTables.{kinds_in, makers_in}
use Rattle.jit.specs.Modes.{asked_in}

abbrev pub compact_off : Mode → Mode
compact_off m = record { standard = m.standard; compact = false }

abbrev pub compact_on : Mode → Mode
compact_on m = record { standard = m.standard; compact = true }

-- what is asked, without `compact` and with it
abbrev pub plainly : Inputs → Inputs
plainly x = asked_in compact_off x

abbrev pub compactly : Inputs → Inputs
compactly x = asked_in compact_on x

-- each constant in its shorter form: of an instruction, of code, of the blocks of a program
abbrev pub shortened : Instr Dest → Instr Dest
shortened (op p) = op (shorter p)
shortened (jump j d) = jump j d
shortened (call_reg r) = call_reg r
shortened ret = ret

abbrev pub shortened_code : Code → Code
shortened_code [] = []
shortened_code (i ∷ c) = shortened i ∷ shortened_code c

abbrev pub shortened_blocks : List Block → List Block
shortened_blocks [] = []
shortened_blocks (b ∷ bs) = record { code = shortened_code b.code; wide = b.wide } ∷ shortened_blocks bs

-- accepted too, with no more code and the same targets
abbrev pub Keeps : (code targets : List ℕ) → Outcome → Type 0
Keeps code targets (no r) = ⊥
Keeps code targets (yes c l f t) = (length c ≤ length code) × (t ≡ targets)

-- q in the place of r, which is 13: 13 again, at that slot or behind it; another refusal of a slot, behind it; or 14, which comes after all slots
pub record Later (r q : Refusal) : Type 0 where
  pub sizes : 6 ≤ number_of q
  pub room : number_of q ≡ 13 → slot_of r ≤ slot_of q
  pub slots : number_of q < 13 → slot_of r < slot_of q

pub record Compact : Type 0 where
  -- the code of a slot: nothing but its constants
  pub slots : (m : Mode) (k : Kind) (slot : ℕ) (i : Insn) (value : ℕ)
      → slot_code (compact_on m) k slot i value ≡ shortened_code (slot_code (compact_off m) k slot i value)
  -- it gets no longer, and keeps its jumps with their kinds
  pub short : (c : Code) → x86.size (shortened_code c) ≤ x86.size c
  pub jumps : (c : Code) → (targets_of (shortened_code c) ≡ targets_of c) × (kinds_of (shortened_code c) ≡ kinds_of c)
  -- the slots of a program, in their order
  pub blocks : (x : Inputs) (bs : List Block) → walk_of (plainly x) ≡ done bs → walk_of (compactly x) ≡ done (shortened_blocks bs)
  -- what was accepted, with its two further tables
  pub accepts : (x : Inputs) (code locations fields targets : List ℕ) → translation_of (plainly x) ≡ yes code locations fields targets
      → Keeps code targets (translation_of (compactly x))
  pub names : (x : Inputs) (code locations fields targets : List ℕ) → translation_of (plainly x) ≡ yes code locations fields targets
      → (kinds_in (compactly x) (translation_of (compactly x)) ≡ kinds_in (plainly x) (translation_of (plainly x)))
      × (makers_in (compactly x) (translation_of (compactly x)) ≡ makers_in (plainly x) (translation_of (plainly x)))
  -- what was refused, but for want of room; and what was refused for that
  pub refuses : (x : Inputs) (r : Refusal) → translation_of (plainly x) ≡ no r → ¬ (number_of r ≡ 13) → translation_of (compactly x) ≡ no r
  pub later : (x : Inputs) (r q : Refusal) → translation_of (plainly x) ≡ no r → number_of r ≡ 13 → translation_of (compactly x) ≡ no q → Later r q
