use mathlib.Core.Path.{◌∙◌}
use native.Mathlib.Omega.{arith}
use lib.ListN.{length-drop}
use Rattle.std.proofs.lemmas.List.{drop-drop}
use Rattle.x86_encoding.proofs.BytesLaws.{number-short, number4}
use Rattle.x86_encoding.proofs.bytes.four_at.Goals as goal

pub returns-in_err-bytes : goal.returns-in_err-bytes
returns-in_err-bytes c =
    let args = c.args in
    let short = c.in_err-bytes.ensures in
    λ k. rw c.from_residual.ensures (number-short 4 k _ (omega (arith, length-drop args.at args.code.now)))

pub returns : goal.returns
returns c = λ k. rw (c.from_le_bytes.ensures) (number4 k _ _ c.in_ok-bytes.ensures ∙ rw drop-drop)
