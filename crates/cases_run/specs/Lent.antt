-- What is lent has room for so many bytes of code, locations and jumps.
use Rattle.std.specs.Prelude.{ℕ, ◌≤◌, length}
use Rattle.cases_run.specs.declared.run.Lent.{Lent}

abbrev pub Holds : Lent → (code locations jumps : ℕ) → Type 0
Holds lent code locations jumps =
    (code ≤ length lent.code.now)
    × ((locations ≤ length lent.locations.now)
    × ((jumps ≤ length lent.fields.now)
    × ((jumps ≤ length lent.targets.now) × ((jumps ≤ length lent.kinds.now) × (jumps ≤ length lent.makers.now)))))
