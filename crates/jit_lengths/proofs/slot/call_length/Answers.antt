use Rattle.jit_lengths.proofs.LengthsLaws.{call-helper, call-local}
use Rattle.std.proofs.Common.{arith}
use Rattle.jit_lengths.proofs.slot.call_length.Goals as goal

pub returns-then-i-eq0 : goal.returns-then-i-eq0
returns-then-i-eq0 c =
    let args = c.args in (
      λ slot. call-helper args.mode slot args.i args.value c.if-i-eq0.true c.load_imm_length.ensures.0,
      omega (arith, c.load_imm_length.ensures.1),
    )

pub returns : goal.returns
returns c = let args = c.args in (λ slot. call-local args.mode slot args.i args.value c.if-i-eq0.false, omega arith)
