use Rattle.jit_lengths.proofs.LengthsLaws.{memory-bare, memory-short, memory-long}
use Rattle.std.proofs.Common.{sym, ◌∙◌, arith}
use Rattle.jit_lengths.proofs.instruction.memory_length.Goals as goal

pub returns-then-bare : goal.returns-then-bare
returns-then-bare c = (λ reg. memory-bare reg _ _ (sym c.bare.ensures ∙ c.if-bare.true), omega arith)

pub returns-then-short : goal.returns-then-short
returns-then-short c = (
  λ reg. memory-short reg _ _ (sym c.bare.ensures ∙ c.if-bare.false)
      (sym c.short.ensures ∙ c.if-short.true),
  omega arith,
)

pub returns-else-short : goal.returns-else-short
returns-else-short c = (
  λ reg. memory-long reg _ _ (sym c.bare.ensures ∙ c.if-bare.false)
      (sym c.short.ensures ∙ c.if-short.false),
  omega arith,
)
