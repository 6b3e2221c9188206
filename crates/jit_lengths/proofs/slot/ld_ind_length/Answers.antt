use Rattle.jit_lengths.proofs.LengthsLaws.{ind-size}
use Rattle.std.proofs.Common.{arith}
use Rattle.jit_lengths.proofs.slot.ld_ind_length.Goals as goal

pub returns : goal.returns
returns c =
    let args = c.args in (
      λ m slot value below. ind-size m args.size slot args.i value c.load_length.ensures.0,
      omega (arith, c.load_length.ensures.1),
    )
