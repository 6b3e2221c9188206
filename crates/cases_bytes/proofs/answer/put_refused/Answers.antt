use native.Mathlib.Omega.{arith}
use Rattle.cases_bytes.proofs.StoredLaws.{behind, stored, same-run}
use Rattle.base.specs.Bytes.{le32}
use mathlib.Core.List.{[], ◌∷◌}
use mathlib.Core.Path.{◌∙◌, ap}
use Prim.Native.Nat.{ℕ, min}
use Rattle.cases_bytes.specs.Answers.{framed, refused_bytes}
use borrow.Author.Tests.{le-leb}
use Rattle.cases_bytes.proofs.answer.put_refused.Goals as goal

pub returns : goal.returns
unfolding framed refused_bytes
returns c =
    stored
    (le-leb _ _ c.if-out-lt9.false)
    (omega arith)
    (behind c.put_number-a.ensures
    (behind (same-run c.put_byte-b.ensures (ap (λ (n : ℕ). n ∷ []) c.number_of.ensures))
    (same-run c.put_number.ensures
    (ap le32 (c.slot_number.ensures ∙ ap (λ (n : ℕ). min n 4294967295) c.slot_of.ensures)))))
