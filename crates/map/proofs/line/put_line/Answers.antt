use mathlib.Core.Path.{sym}
use Rattle.text.proofs.SaysLaws.{same, then}
use Rattle.map.proofs.LineLaws.{some-line}
use Rattle.map.proofs.line.put_line.Goals as goal

pub returns : goal.returns
returns c =
    let a = c.args in
    let from-name = then c.put_whole-name.ensures (then c.put_name-named.ensures c.put_whole.ensures) in
    let from-size = then c.put_whole-size.ensures (then c.put_hex-sized.ensures from-name) in
    same (then c.put_hex_counted-started.ensures from-size) (sym (some-line a.start a.bytes a.piece c.if-bytes-eq0.false))
