use mathlib.Core.Path.{refl}
use native.Mathlib.Omega.{arith}
use borrow.Author.Rules.{rules}
use Rattle.ndakoleem.proofs.ExportedLaws.{exported}
use Rattle.ndakoleem.proofs.ndakoleem_translate_4.Goals as goal

-- `ndakoleem_translate_4` meets its contract: of either case of the answer the struct holds its four numbers,
-- and what Rattle knows of every slice is all that demand 3 is given.

pub returns-in-Ok : goal.returns-in-Ok
returns-in-Ok c =
    let told = c.in-Ok.is in
    let bytes = c.type_inv.program in
    let addresses = c.type_inv.addresses in
    exported _ (record { bytes = λ k. omega (arith, bytes k); addresses = λ k. omega (arith, addresses k) })
    c.translate.ensures.translated c.translate.ensures.named (rw told refl) (rw told refl) (rw told refl) (rw told refl)
