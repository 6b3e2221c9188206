-- The kinds of a jump's record, as docs/CASES.md numbers them: 1 a conditional jump, 2 a plain one, 3 a local call.
use mathlib.Core.Path.{◌≡◌, refl}
use Rattle.x86.specs.Instr.{Cond, jmp, call, jcc}
use Rattle.x86.specs.Encode.{jump_kind}

pub kind-jcc : (c : Cond) → jump_kind (jcc c) ≡ 1
kind-jcc c = refl

pub kind-jmp : jump_kind jmp ≡ 2
kind-jmp = refl

pub kind-call : jump_kind call ≡ 3
kind-call = refl
