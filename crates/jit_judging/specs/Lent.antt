-- The verdicts, of the parameters by their names (base/specs/Lent.antt).
use Rattle.std.specs.Prelude.{Bool, ℕ, drop, Result}
use Rattle.base.specs.Lent.{Lent}
use Rattle.base.specs.declared.Position.{Position}
use Rattle.jit.specs.declared.Refusal.{Refusal}
use Rattle.jit.specs.Passes.{walked}
use Rattle.jit.specs.Translation as jit
use Rattle.jit.specs.Translation.{Filter, slots_of}
use Rattle.jit_judging.specs.Judged as J
use Rattle.jit_judging.specs.Sizes as S

-- is an id among those from entry `from` on?
abbrev pub listed_from : (ids : Lent) → (from id : ℕ) → Bool
listed_from ids from id = jit.listed id (drop from ids.entry.now)

abbrev pub twice : (ids : Lent) → Bool
twice ids = jit.twice ids.entry.now

abbrev pub rising : (ids : Lent) → Bool
rising ids = S.rising ids.entry.now

abbrev pub Sizes : (prog page locations fields targets kinds makers : ℕ) → (ids : Lent) → (addresses : ℕ) → Result (Unit {0}) Refusal → Type 0
Sizes prog page locations fields targets kinds makers ids addresses r = S.Sizes prog page locations fields targets kinds makers ids.entry.now addresses r

abbrev pub verdict_of : Filter → (page : ℕ) → (start : Position) → Result (Unit {0}) Refusal
verdict_of filter page start = J.verdict_of (slots_of filter.program) page start.offset (walked filter page start)
