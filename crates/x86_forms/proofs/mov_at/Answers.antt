use Rattle.x86_forms.proofs.ByRex.{mov-to-memory}
use Rattle.x86.specs.Decode.{opcode}
use Rattle.x86_forms.proofs.mov_at.Goals as goal

pub returns-in_err-reg : goal.returns-in_err-reg
unfolding opcode
returns-in_err-reg c = rw (c.modrm_at.ensures, c.in_err-reg.was, c.from_residual.ensures)

pub returns-in-Register : goal.returns-in-Register
unfolding opcode
returns-in-Register c = rw (c.modrm_at.ensures, c.in_ok-reg.was, c.in-Register.is)

pub returns-in-Memory : goal.returns-in-Memory
returns-in-Memory c =
    let word = c.size_of.ensures in
    rw word (mov-to-memory _ _ _ _ _ _ _ _ _ (λ k. rw (c.modrm_at.ensures, c.in_ok-reg.was, c.in-Memory.is)))
