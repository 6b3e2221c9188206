use native.Mathlib.Omega.{arith}
use Prim.Native.Nat.{◌/◌, ◌%◌}
use Rattle.x86_encoding.proofs.OperandLaws.{bit-of}
use Rattle.x86.specs.Decode.{rex_of}
use Rattle.x86_encoding.proofs.operand.rex_of.Goals as goal

pub returns : goal.returns
unfolding rex_of
returns c = rw (c.width_of.ensures, bit-of (c.args.bits / 4 % 2) (omega arith), bit-of (c.args.bits % 2) (omega arith))
