use mathlib.Core.Path.{◌∙◌}
use Prim.Native.Nat.{◌%◌}
use lib.ListN.{drop}
use Rattle.x86.specs.Instr.{jump, jcc}
use Rattle.x86.specs.Decode.{opcode, number, got}
use Rattle.x86_forms.proofs.Chosen.{conditions}
use Rattle.x86_forms.proofs.conditional_at.Goals as goal

pub returns-then-x : goal.returns-then-x
unfolding opcode
returns-then-x c = rw (c.requires, c.if-x.true)

pub returns-in_err-condition_of : goal.returns-in_err-condition_of
unfolding opcode
returns-in_err-condition_of c =
    let args = c.args in
    rw (c.requires, c.if-x.false, c.from_residual.ensures)
    (conditions (λ j. number 4 (λ v. got (jump (jcc j) v))) (args.o % 16) (drop args.at args.code.now) c.in_err-condition_of.ensures)

pub returns : goal.returns
unfolding opcode
returns c =
    let args = c.args in
    rw (c.requires, c.if-x.false)
    (conditions (λ j. number 4 (λ v. got (jump (jcc j) v))) (args.o % 16) (drop args.at args.code.now) c.in_ok-condition_of.ensures
    ∙ c.relative_at.ensures)
