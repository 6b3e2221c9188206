-- THE THEOREM: what is proved of `translate`, on one page, from the definitions alone:
--
--   translation_of   which code, which tables or which refusal belong to what is asked      crates/jit/specs/Translation.antt
--   kinds_in,        what each jump is, and which slot made it                              crates/jit/specs/JumpTables.antt
--   makers_in
--   Modes,          what standard mode leaves as it is, and what compact constants change  crates/jit/specs/Modes.antt, Compact.antt
--   Compact
--   Translated,     how the answer and what was lent hold an outcome                       crates/jit_translate/specs/Translated.antt
--   Named
--   Machine         the processor: what an instruction does, what a run is                 crates/x86_machine/specs/Machine.antt
--   Demand3         reading, landing, staying, the stack pointer, over that processor      crates/jit_safety/specs/Demand3.antt
--   act             what a slot of arithmetic, a move, a swap or a jump does, by RFC 9669  crates/ebpf_meaning/specs/Step.antt
--   Agrees,         that the slot's code does so on that processor, slot after slot        crates/jit_agrees/specs/Agrees.antt,
--   FollowsAll                                                                             Runs.antt, Follows.antt
--
-- `Promise` says of one call the three demands, and that the code does what its slots say. `Theorem` says that every call keeps it, and that it
-- can always be kept, in one way only.
-- proofs/Proved.antt proves `Theorem`; `ndakoleem_translate_4`, which a loader calls, has `Promise` in its contract and asks nothing.
-- That `translate` ends, and touches only what it was lent, Rattle proves of every function.
use Rattle.std.specs.Prelude.{◌≡◌, true, List, ℕ, ◌+◌, take, Ok, Err}
use Rattle.jit.specs.declared.Refusal.{Refusal}
use Rattle.jit.specs.Translation.{Inputs, slots_of, no, translation_of}
use Rattle.jit.specs.Modes.{Modes}
use Rattle.jit.specs.Compact.{Compact}
use Rattle.x86_machine.specs.Machine.{State, Input, divided, run}
use Rattle.jit_safety.specs.Demand3.{Given, Begins, Demand3}
use Rattle.jit_agrees.specs.Agrees.{Agrees}
use Rattle.jit_agrees.specs.Follows.{FollowsAll}
use Rattle.jit_translate.specs.Translated.{Answer, Translated, Named}

-- What is lent, at one moment: the code buffer and the five tables.
pub record Buffers : Type 0 where
  pub code : List ℕ
  pub locations : List ℕ
  pub fields : List ℕ
  pub targets : List ℕ
  pub kinds : List ℕ
  pub makers : List ℕ

-- the locations 0 to n
abbrev pub locations_of : Inputs → Buffers → List ℕ
locations_of x b = take (slots_of x.filter.program + 1) b.locations

-- DEMAND 1. Whatever is asked has an answer, one only: finished code, or one refusal, and then nothing that was lent is changed.
-- (That there is one, and one only, is `answered` and `only` below.)
abbrev pub RefusalChangesNothing : Inputs → (before after : Buffers) → Answer → Type 0
RefusalChangesNothing x before after r = (q : Refusal) → r ≡ Err q → (translation_of x ≡ no q) × (after ≡ before)

-- DEMAND 2. The answer, the bytes and the tables are `translation_of`'s, at the head of what was lent; behind them all is as it was. This,
-- with `Names`, is `translate`'s own contract.
abbrev pub Translates : Inputs → (before after : Buffers) → Answer → Type 0
Translates x before after r =
    Translated (translation_of x)
    before.code after.code before.locations after.locations before.fields after.fields before.targets after.targets r

-- .. and the two further tables hold, in the same way, the kind of each listed jump and the slot that made it.
abbrev pub Names : Inputs → (before after : Buffers) → Type 0
Names x before after = Named x before.kinds after.kinds before.makers after.makers

-- DEMAND 3. With L bytes of code and J jumps accepted, those L bytes, the first n + 1 locations and the first J entries of the others
--   read:  from the first byte, by Intel's rules, they are the instructions that demand 2 names, the last one a return;
--   land:  each listed jump and call goes to the start of the slot that is meant, to the exit, or, where no slot begins by that number, to
--          the first byte; it is of the kind that its record names, within the code of the slot that its record names; every other one is
--          the prologue's call, which goes behind the prologue, or a division's skip within its slot;
--   stay:  no run, for all registers, flags and all that loads, pops and helpers give, leaves these instructions, and no division faults;
--   stack: each return finds the stack pointer where its call left it, and the last one where the run began.
-- The premises are in the statements: a memory fault ends a run, a return that does not go behind its call is followed no further, and
-- the stack pointer is promised in runs that come to the epilogue by the prologue's jump alone.
abbrev pub PageIsSafe : Inputs → (after : Buffers) → Answer → Type 0
PageIsSafe x after r =
    (L J : ℕ) → r ≡ Ok (record { length = L; jumps = J })
    → Demand3 x (take L after.code) (locations_of x after) (take J after.fields) (take J after.targets) (take J after.kinds)
    (take J after.makers)

-- .. of which one thing by itself: no run of an accepted page raises #DE.
abbrev pub NoDivisionFaults : (after : Buffers) → Answer → Type 0
NoDivisionFaults after r =
    (L J : ℕ) → r ≡ Ok (record { length = L; jumps = J }) → (us : List Input) (s : State) → Begins s
    → run (take L after.code) us s ≡ divided → ⊥

-- THE CODE DOES WHAT THE SLOT SAYS. In standard mode, compact or not, every slot of arithmetic, a move, a byte swap, JA or a conditional jump
-- leaves what RFC 9669's step leaves, and goes where it goes, if that slot has a location: of those L bytes, from the slot's location in
-- those n + 1 entries on.
abbrev pub PageAgrees : Inputs → (after : Buffers) → Answer → Type 0
PageAgrees x after r =
    (L J : ℕ) → r ≡ Ok (record { length = L; jumps = J }) → x.filter.mode.standard ≡ true
    → Agrees x.filter.program (take L after.code) (locations_of x after)

pub record Promise (x : Inputs) (before after : Buffers) (r : Answer) : Type 0 where
  pub refusal : RefusalChangesNothing x before after r
  pub bytes : Translates x before after r
  pub names : Names x before after
  pub safe : PageIsSafe x after r
  pub division : NoDivisionFaults after r
  pub agrees : PageAgrees x after r

-- THE THEOREM. Its one premise is `Given`: the program's bytes are below 2 ^ 8 and the helpers' addresses below 2 ^ 64, which Rattle says
-- of every slice. Nothing else is asked: of the program, the mode, the flags, the helpers, the lengths or the contents of what is lent.
pub record Theorem : Type 0 where
  -- whatever `translate`'s contract admits keeps the promise
  pub kept : (x : Inputs) → Given x → (before after : Buffers) (r : Answer) → Translates x before after r → Names x before after
      → Promise x before after r
  -- all that can be asked has an answer that keeps it ..
  pub answered : (x : Inputs) → Given x → (before : Buffers) → (r : Answer) × ((after : Buffers) × Promise x before after r)
  -- .. and one only
  pub only : (x : Inputs) (before after other : Buffers) (r s : Answer) → Promise x before after r → Promise x before other s
      → (r ≡ s) × (after ≡ other)
  -- standard mode changes the code of three kinds of slots, and a program without them has the same answer with it and without
  pub modes : Modes
  -- compact constants are all that their flag changes; what was accepted is accepted, and 13 comes later or not at all
  pub compact : Compact
  -- code that agrees with RFC 9669's steps slot by slot agrees with them along every path of such slots
  pub paths : (program code locs : List ℕ) → Agrees program code locs → FollowsAll program code locs
