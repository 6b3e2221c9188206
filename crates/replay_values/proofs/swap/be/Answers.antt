use Rattle.std.proofs.Common.{◌∙◌}
use Rattle.replay_values.proofs.SwapLaws.{eight, turned, be-below}
use Rattle.replay_values.proofs.swap.be.Goals as goal

pub returns : goal.returns
returns c =
    let is = turned c.args.width c.args.a c.requires in
    rw (c.swap_bytes.ensures ∙ eight c.args.a) (is, rw is (be-below c.args.width c.args.a c.requires))
