-- The parts of a local call's code that have a function of their own: what stands before the call, and behind it.
use Rattle.std.specs.Prelude.{[], ◌∷◌}
use Rattle.x86.specs.Registers.{RBX, R13, R14, R15}
use Rattle.x86.specs.Instr.{op, push, pop}
use Rattle.jit.specs.MulDivMod.{Code}

abbrev pub call_saves : Code
call_saves = op (push RBX) ∷ op (push R13) ∷ op (push R14) ∷ op (push R15) ∷ []

abbrev pub call_restores : Code
call_restores = op (pop R15) ∷ op (pop R14) ∷ op (pop R13) ∷ op (pop RBX) ∷ []
