-- What the contracts say of the parameters by their names (base/specs/Lent.antt): the records and definitions of Stored.antt, Answers.antt
-- and Cases.antt, each under its own name.
use Rattle.std.specs.Prelude.{◌≡◌, Bool, List, ℕ, ◌+◌, ◌*◌, ◌≤◌, length, Result, Ok, Err}
use Rattle.std.specs.declared.ops.ControlFlow.{ControlFlow}
use Rattle.std.specs.declared.ops.ControlFlow.TheVariants.{Break, Continue}
use Rattle.base.specs.Lent.{Slice, Lent, MutLent, seen}
use Rattle.ebpf.specs.Insn.{le4}
use Rattle.cases_problems.specs.declared.Problem.{Problem}
use Rattle.cases_bytes.specs.Stored as S
use Rattle.cases_bytes.specs.Answers as A
use Rattle.cases_bytes.specs.Cases as C
use Rattle.cases_bytes.specs.declared.answer.Translation.{Translation}
use Rattle.cases_bytes.specs.declared.parts.Case.{Case}

-- what a slice held when it was lent
abbrev pub held : Lent → List ℕ
held s = s.entry.now

abbrev pub length_of : Lent → ℕ
length_of s = length (held s)

-- the number at a place, in four bytes and in eight
abbrev pub number_at : Lent → ℕ → ℕ
number_at s at = le4 (held s) at

abbrev pub wide_at : Lent → ℕ → ℕ
wide_at s at = le4 (held s) at + 4294967296 * le4 (held s) (at + 4)

-- the bytes ys stand in `out` from `at` on, and r is the place behind them
abbrev pub Put : MutLent → (at r : ℕ) → List ℕ → Type 0
Put out at r ys = S.Put (held (seen out)) out.exit.now at r ys

-- they stand at its start and r is how many they are; or they do not fit, and there are none
abbrev pub Stored : Bool → MutLent → ℕ → List ℕ → Type 0
Stored fits out r ys = S.Stored fits (held (seen out)) out.exit.now r ys

abbrev pub refused_fits : MutLent → Bool
refused_fits out = A.refused_fits (held (seen out))

-- .. of a translation: whether there is room for it, how many entries its tables have together, the tables, and all of it
abbrev pub has_room : (out : ℕ) → Translation → Bool
has_room out of =
    A.room_for
    out
    (length of.code.now)
    (length of.locations.now)
    (length of.fields.now)
    (length of.targets.now)
    (length of.kinds.now)
    (length of.makers.now)

abbrev pub accepted_fits : MutLent → Translation → Bool
accepted_fits out of = has_room (length_of (seen out)) of

abbrev pub entries_in : Translation → ℕ
entries_in of = length of.locations.now + length of.fields.now + length of.targets.now + length of.kinds.now + length of.makers.now

abbrev pub tables_of : Translation → List ℕ
tables_of of = A.tables of.locations.now of.fields.now of.targets.now of.kinds.now of.makers.now

abbrev pub accepted_bytes : Translation → List ℕ
accepted_bytes of = A.accepted_bytes of.code.now of.locations.now of.fields.now of.targets.now of.kinds.now of.makers.now

-- where the lengths of a case end, and the length of a further table
abbrev pub lengths_end : Lent → ℕ
lengths_end body = C.lengths_end (held body)

abbrev pub further : Lent → (at unsaid : ℕ) → ℕ
further body at unsaid = C.further (held body) at unsaid

-- the case in a body, where `ids` and `addresses` are there for its helpers, and what is wrong with it
abbrev pub case_of : (body : Lent) (ids addresses : MutLent) → Result Case Problem
case_of body ids addresses = C.case_of (held body) (length_of (seen ids)) (length_of (seen addresses))

abbrev pub wrong_with : Lent → (most_ids most_addresses : ℕ) → Result (Unit {0}) Problem
wrong_with body most_ids most_addresses = C.wrong_with (held body) most_ids most_addresses

abbrev pub parts_of : Lent → Case
parts_of body = C.parts_of (held body)

-- a helper's id and address, by its number: those from `at` on
abbrev pub id_at : Lent → (at k : ℕ) → ℕ
id_at body at = C.id_at (held body) at

abbrev pub address_at : Lent → (at k : ℕ) → ℕ
address_at body at = C.address_at (held body) at

-- the first n places of a slice are f's, and what is behind them is as it was
abbrev pub Filled : MutLent → (ℕ → ℕ) → ℕ → Type 0
Filled s f n = s.exit.now ≡ C.filled f n (held (seen s))

-- a case's helpers are in their slices, and its program is in the body
abbrev pub Inside : (body ids addresses : Slice) → Case → Type 0
Inside body ids addresses case = (case.ids ≤ length ids.now) × ((case.addresses ≤ length addresses.now) × (case.program ≤ length body.now))

-- behind a case the run goes on; one that is malformed ends it
abbrev pub turn_behind : Result Case Problem → ControlFlow (Unit {0}) (Unit {0})
turn_behind (Ok case) = Continue tt
turn_behind (Err wrong) = Break tt

-- the case that a body holds, where so many helpers are lent as a case may have
abbrev pub lent_helpers : ℕ
lent_helpers = 512

abbrev pub case_in : (body : Lent) → Result Case Problem
case_in body = C.case_of (held body) lent_helpers lent_helpers
