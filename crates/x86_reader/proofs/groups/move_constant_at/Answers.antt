use Rattle.x86_forms.proofs.ByRex.{store_word}
use Rattle.base.proofs.Tests.{eqb-true, eqb-false}
use Rattle.x86.specs.Decode.{opcode}
use Rattle.x86_reader.proofs.groups.move_constant_at.Goals as goal

pub returns-in_err-reg : goal.returns-in_err-reg
unfolding opcode
returns-in_err-reg c = rw (c.modrm_at.ensures, c.in_err-reg.was, c.from_residual.ensures)

pub returns-then-reg-ne0 : goal.returns-then-reg-ne0
unfolding opcode
returns-then-reg-ne0 c = rw (c.modrm_at.ensures, c.in_ok-reg.was, eqb-false _ _ c.if-reg-ne0.true)

pub returns-in-Register : goal.returns-in-Register
unfolding opcode
returns-in-Register c =
    let zero = c.if-reg-ne0.false in
    rw (c.modrm_at.ensures, c.in_ok-reg.was, eqb-true _ _ zero, c.in-Register.is) c.alu_imm_at.ensures

pub returns-in-Memory : goal.returns-in-Memory
returns-in-Memory c =
    let zero = c.if-reg-ne0.false in
    let word = c.size_of.ensures in
    store_word _ _ _ _ _ _ _ _ _ _ _ word
    (λ k. rw (c.modrm_at.ensures, c.in_ok-reg.was, c.in-Memory.is))
    zero
    c.store_imm_at.ensures
