-- The one statement about slots, targets and fields (code/specs/Landing.antt), of x86-64: of everything that `translation_of` accepts.
use mathlib.Core.Path.{◌≡◌, ap}
use mathlib.Core.List.{List}
use Prim.Native.Nat.{ℕ}
use Rattle.code.specs.Landing as shared
use Rattle.code.proofs.LandingLaws as laws
use Rattle.x86.specs.Encode.{isa}
use Rattle.x86.proofs.CodeLaws.{lawful}
use Rattle.jit.specs.Translation.{Inputs, page_of, slots_of, yes, translation_of}
use Rattle.jit.specs.JumpTables.{kind_table, maker_table}
use Rattle.jit.proofs.FrameLaws.{epilogue-targets}
use Rattle.jit_safety.specs.Demand3.{Given, blocks_of, blocks_in, page_for, instructions_of, ExitAt}
use Rattle.jit_safety.proofs.Program.{Parts, parts}
use Rattle.jit_safety.proofs.Landing.{exit-there}

of_parts : (x : Inputs) (c l fs ts : List ℕ) → Parts x c l fs ts
    → shared.Landing isa (page_for x) (ExitAt c (instructions_of x)) c (instructions_of x) l fs ts (kind_table isa (page_for x)) (maker_table (page_for x))
of_parts x c l fs ts p =
    let page = page_of x.flags p.blocks in
    let e : blocks_of x ≡ p.blocks = ap blocks_in p.walked in
    rw (e, p.is_code, p.is-locs, p.is-fields, p.is-targets)
    (laws.landing lawful page (slots_of x.filter.program) p.short p.few p.good epilogue-targets _ (exit-there x.flags p.blocks))

pub shared-landing : (x : Inputs) → Given x → (c l fs ts : List ℕ) → translation_of x ≡ yes c l fs ts
    → shared.Landing isa (page_for x) (ExitAt c (instructions_of x)) c (instructions_of x) l fs ts (kind_table isa (page_for x)) (maker_table (page_for x))
shared-landing x given c l fs ts e = of_parts x c l fs ts (parts x given c l fs ts e)
