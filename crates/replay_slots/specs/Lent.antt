-- The table of codes, of the parameters by their names (base/specs/Lent.antt).
use Rattle.std.specs.Prelude.{ℕ, Result, Ok, Err}
use Rattle.base.specs.Lent.{Slice, Lent, MutLent}
use Rattle.jit.specs.Translation.{slots_of}
use Rattle.replay.specs.declared.Refusal.{Refusal}
use Rattle.replay.specs.Report.{Verdict, runs, refused, first_from}
use Rattle.replay_slots.specs.Codes as C

abbrev pub code_in : (prog : Lent) → (slot : ℕ) → ℕ
code_in prog slot = C.code_at prog.entry.now slot

-- what is left in a lent table; and what is lent is such a table
abbrev pub Coded : (prog : Lent) (codes : MutLent) → Type 0
Coded prog codes = C.Coded prog.entry.now codes.exit.now

abbrev pub IsCoded : (prog codes : Slice) → Type 0
IsCoded prog codes = C.Coded prog.now codes.now

-- the verdict that an answer tells, and that on the slots of a program (replay's Report.antt)
abbrev pub told : Result (Unit {0}) Refusal → Verdict
told (Ok u) = runs
told (Err r) = refused r

abbrev pub first_of : (prog : Lent) → Verdict
first_of prog = first_from prog.entry.now (slots_of prog.entry.now) 0
