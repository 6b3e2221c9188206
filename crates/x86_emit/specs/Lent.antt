-- What the emitters' contracts say of their parameters, by their names (base/specs/Lent.antt).
use Rattle.std.specs.Prelude.{◌≡◌, ℕ, ◌+◌, ◌≤◌, List, length}
use Rattle.std.proofs.lemmas.List.Edits.{sets}
use Rattle.base.specs.Lent.{MutSlice, MutLent}
use Rattle.base.specs.declared.Position.{Position}
use Rattle.x86.specs.Instr.{Instr}
use Rattle.x86.specs.Code.{Dest, size}
use Rattle.x86_emit.specs.Wrote as W

-- the bytes ys stand in `code` at `at`, and r is the place behind them
abbrev pub Wrote : MutLent → Position → Position → List ℕ → Type 0
Wrote code at r ys = W.Wrote code.entry.now code.exit.now at.offset r.offset ys

-- there is room at `at` for an instruction, of at most 15 bytes, with whatever its last word leaves behind it
abbrev pub Fits : MutSlice → Position → Type 0
Fits code at = at.offset + 16 ≤ length code.now

-- .. and for a row of them
abbrev pub FitAll : MutSlice → Position → List (Instr Dest) → Type 0
FitAll code at is = at.offset + size is + 16 ≤ length code.now

-- the bytes ys stand in `code` from place k on, and all else is as it was
abbrev pub Stores : MutLent → ℕ → List ℕ → Type 0
Stores code k ys = code.exit.now ≡ sets code.entry.now k ys
