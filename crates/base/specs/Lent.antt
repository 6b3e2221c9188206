-- A slice as a contract names it. In an `ensures` its name has two moments, `code.entry` and `code.exit`; in a `requires` it has one.
-- Each crate that says something of lent slices has a Lent.antt: its records over lists, said of the parameters by their names. Those are
-- abbreviations, so that a proof sees the record.
use Rattle.std.specs.Prelude.{List, ℕ}
use Rattle.std.specs.Borrow.{Bor, MutBor}
use denote.Triple.Both.{Both}

-- in a `requires`
abbrev pub Slice : Type 0
Slice = Bor (List ℕ)

abbrev pub MutSlice : Type 0
MutSlice = MutBor (List ℕ)

-- in an `ensures`
abbrev pub Lent : Type 0
Lent = Both Slice Slice

abbrev pub MutLent : Type 0
MutLent = Both MutSlice MutSlice

-- what may be written, seen as what is only read: for words that are said of both
abbrev pub read : MutSlice → Slice
read s = record { ref_ptr = s.ref_ptr; now = s.now }

abbrev pub seen : MutLent → Lent
seen s = record { entry = read s.entry; exit = read s.exit }
