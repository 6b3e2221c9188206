use Rattle.cases_bytes.specs.Cases.{program_at}
use Rattle.cases_bytes.proofs.CasesLaws.{case-wrong, case-fine, filled-front, filled-long, handed_on, parted}
use lib.ListN.{length-take}
use native.Mathlib.Omega.{arith}
use mathlib.Core.Path.{◌∙◌, sym}
use borrow.Author.Rules.{rules}
use Rattle.cases_bytes.proofs.parts.take_apart.Goals as goal

pub returns-in_err-checked-clause-value : goal.returns-in_err-checked-clause-value
returns-in_err-checked-clause-value c =
    handed_on _ _ c.from_residual.ensures.1 ∙ case-wrong _ _ _ _ _ c.checked.ensures.wrong c.in_err-checked.was

pub lengths_end-end-requires : goal.lengths_end-end-requires
unfolding program_at
lengths_end-end-requires c = omega (arith, c.in_ok-checked.ensures.inside.1.1)

pub slice_bounds-read_ids-end : goal.slice_bounds-read_ids-end
slice_bounds-read_ids-end c =
    let case = parted _ _ _ _ c.in_ok-checked.ensures.inside c.parts_of-case.ensures in
    omega (arith, case.ids)

pub slice_bounds-read_ids-end-2 : goal.slice_bounds-read_ids-end-2
slice_bounds-read_ids-end-2 c =
    let case = parted _ _ _ _ c.in_ok-checked.ensures.inside c.parts_of-case.ensures in
    simp length-take (omega (arith, case.ids))

pub read_ids-requires : goal.read_ids-requires
read_ids-requires c =
    let case = parted _ _ _ _ c.in_ok-checked.ensures.inside c.parts_of-case.ensures in
    let ends = c.lengths_end-end.ensures in
    simp length-take (omega (arith, case.ids, case.addresses-end, ends.0))

pub overflow_mul-case : goal.overflow_mul-case
overflow_mul-case c =
    let case = parted _ _ _ _ c.in_ok-checked.ensures.inside c.parts_of-case.ensures in
    omega (arith, case.addresses-end)

pub overflow_add-end-3 : goal.overflow_add-end-3
overflow_add-end-3 c =
    let case = parted _ _ _ _ c.in_ok-checked.ensures.inside c.parts_of-case.ensures in
    let ends = c.lengths_end-end.ensures in
    omega (arith, case.addresses-end, ends.1)

pub slice_bounds-read_addresses-end : goal.slice_bounds-read_addresses-end
slice_bounds-read_addresses-end c =
    let case = parted _ _ _ _ c.in_ok-checked.ensures.inside c.parts_of-case.ensures in
    omega (arith, case.addresses)

pub slice_bounds-read_addresses-end-2 : goal.slice_bounds-read_addresses-end-2
slice_bounds-read_addresses-end-2 c =
    let case = parted _ _ _ _ c.in_ok-checked.ensures.inside c.parts_of-case.ensures in
    simp length-take (omega (arith, case.addresses))

pub read_addresses-requires : goal.read_addresses-requires
read_addresses-requires c =
    let case = parted _ _ _ _ c.in_ok-checked.ensures.inside c.parts_of-case.ensures in
    let ends = c.lengths_end-end.ensures in
    simp length-take (omega (arith, case.addresses, case.addresses-end, ends.0))

pub returns-clause-value : goal.returns-clause-value
returns-clause-value c = case-fine _ _ _ _ _ _ c.checked.ensures.wrong c.in_ok-checked.was c.parts_of-case.ensures

pub returns-clause-filled : goal.returns-clause-filled
returns-clause-filled c =
    let case = parted _ _ _ _ c.in_ok-checked.ensures.inside c.parts_of-case.ensures in
    rw (c.read_ids.ensures, c.lengths_end-end.ensures.0) (filled-front _ _ _ (omega (arith, case.ids)))

pub returns-clause-filled_2 : goal.returns-clause-filled_2
returns-clause-filled_2 c =
    let case = parted _ _ _ _ c.in_ok-checked.ensures.inside c.parts_of-case.ensures in
    rw (c.read_addresses.ensures, c.lengths_end-end.ensures.0) (filled-front _ _ _ (omega (arith, case.addresses)))

pub returns-clause-inside : goal.returns-clause-inside
returns-clause-inside c =
    let case = parted _ _ _ _ c.in_ok-checked.ensures.inside c.parts_of-case.ensures in (
      rw c.read_ids.ensures (filled-long _ _ _ (omega (arith, case.ids))),
      (rw c.read_addresses.ensures (filled-long _ _ _ (omega (arith, case.addresses))), case.program),
    )
