use Rattle.x86_reader.proofs.Takes.{drop-min, onward}
use Rattle.x86_reader.proofs.decode.decode.Goals as goal

pub returns : goal.returns
returns c =
    let args = c.args in (
      rw (c.read_at.ensures, c.in_ok-i.was, c.min.ensures, drop-min),
      rw c.min.ensures (onward args.code.now args.at c.read_at.ensures c.in_ok-i.was),
    )
