use Rattle.ebpf.specs.declared.kind.MulOp.TheVariants.{Mul, Div, Mod}
use Rattle.jit_lengths.proofs.LengthsLaws.{computed-size}
use Rattle.std.proofs.Common.{arith}
use Rattle.jit_lengths.proofs.slot.computed_length.Goals as goal

pub returns-in-Mul : goal.returns-in-Mul
returns-in-Mul c =
    let args = c.args in
    let wide = c.wide-w.ensures in
    rw c.in-Mul.is (
      λ operand. computed-size Mul args.width args.dst operand c.kept_length.ensures.0 wide.0,
      omega (arith, c.kept_length.ensures.1, wide.1),
    )

pub returns-in-Div : goal.returns-in-Div
returns-in-Div c =
    let args = c.args in
    let wide = c.wide-w.ensures in
    rw c.in-Div.is (
      λ operand. computed-size Div args.width args.dst operand c.kept_length-in-Div.ensures.0 wide.0,
      omega (arith, c.kept_length-in-Div.ensures.1, wide.1),
    )

pub returns-in-Mod : goal.returns-in-Mod
returns-in-Mod c =
    let args = c.args in
    let wide = c.wide-w.ensures in
    rw c.in-Mod.is (
      λ operand. computed-size Mod args.width args.dst operand c.kept_length-in-Mod.ensures.0 wide.0,
      omega (arith, c.kept_length-in-Mod.ensures.1, wide.1),
    )
