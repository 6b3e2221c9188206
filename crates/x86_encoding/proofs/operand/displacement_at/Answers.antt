use Rattle.x86_encoding.proofs.OperandLaws.{none_reads}
use Rattle.x86.specs.Decode.{with_modrm, reg_number, low_number, in_memory}
use Rattle.base.proofs.Tests.{eqb-false}
use Rattle.x86_encoding.proofs.operand.displacement_at.Goals as goal

pub returns-in-2 : goal.returns-in-2
unfolding with_modrm
returns-in-2 c = λ x k. rw (eqb-false _ _ c.requires.1, c.in-2.is) (c.four_at.ensures _)

pub returns-in-1 : goal.returns-in-1
unfolding with_modrm
returns-in-1 c = λ x k. rw (eqb-false _ _ c.requires.1, c.in-1.is) (c.short_at.ensures _)

pub returns-in-0 : goal.returns-in-0
unfolding with_modrm
returns-in-0 c =
    let args = c.args in
    λ x k. rw (eqb-false _ _ c.requires.1, c.in-0.is, c.none_at.ensures)
    (none_reads args.code.now args.m args.at (λ v. k (reg_number x args.m) (in_memory (low_number x args.m) v)))
