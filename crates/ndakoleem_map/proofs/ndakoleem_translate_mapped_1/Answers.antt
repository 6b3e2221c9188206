use mathlib.Core.Path.{refl}
use native.Mathlib.Omega.{arith}
use Rattle.ndakoleem_map.proofs.ExportedMapLaws.{exported-map}
use borrow.Author.Rules.{rules}
use Rattle.ndakoleem_map.proofs.ndakoleem_translate_mapped_1.Goals as goal

-- `ndakoleem_translate_mapped_1` meets its contract: of either case of the answer the struct holds its five numbers.

pub returns-in-Ok : goal.returns-in-Ok
returns-in-Ok c =
    let told = c.in-Ok.is in
    let bytes = c.type_inv.program in
    let addresses = c.type_inv.addresses in
    exported-map _ (record { bytes = λ k. omega (arith, bytes k); addresses = λ k. omega (arith, addresses k) }) _
    c.translate_mapped.ensures (rw told refl) (rw told refl) (rw told refl) (rw told refl) (rw told refl)
