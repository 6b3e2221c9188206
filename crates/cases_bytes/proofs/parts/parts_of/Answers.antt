use Rattle.cases_bytes.specs.Cases.{parts_of, lengths_end, ids_in, addresses_in, program_at}
use native.Mathlib.Omega.{arith}
use Rattle.cases_bytes.proofs.parts.parts_of.Goals as goal

pub lengths_end-end-requires : goal.lengths_end-end-requires
unfolding program_at
lengths_end-end-requires c = omega (arith, c.requires)

pub count_at-ids-requires : goal.count_at-ids-requires
unfolding program_at
count_at-ids-requires c = omega (arith, c.lengths_end-end.ensures.0, c.requires)

pub count_at-addresses-requires : goal.count_at-addresses-requires
unfolding program_at ids_in addresses_in
count_at-addresses-requires c =
    let ends = c.lengths_end-end.ensures.0 in
    omega (arith, rw ends at c.count_at-ids.ensures.0, ends, c.requires)

pub overflow_sub-unsaid : goal.overflow_sub-unsaid
unfolding program_at ids_in addresses_in
overflow_sub-unsaid c =
    let ends = c.lengths_end-end.ensures.0 in
    let ids = rw ends at c.count_at-ids.ensures.0 in
    omega (arith, rw (ends, ids) at c.count_at-addresses.ensures.0, ids, ends, c.requires)

pub bounds-body-0 : goal.bounds-body-0
unfolding program_at
bounds-body-0 c = omega (arith, c.requires)

pub bounds-body-0-2 : goal.bounds-body-0-2
unfolding program_at
bounds-body-0-2 c = omega (arith, c.requires)

pub bounds-body-0-3 : goal.bounds-body-0-3
unfolding program_at
bounds-body-0-3 c = omega (arith, c.requires)

pub bounds-body-0-4 : goal.bounds-body-0-4
unfolding program_at
bounds-body-0-4 c = omega (arith, c.requires)

pub bounds-body-0-5 : goal.bounds-body-0-5
unfolding program_at
bounds-body-0-5 c = omega (arith, c.requires)

pub count_at-requires : goal.count_at-requires
unfolding program_at lengths_end
count_at-requires c = omega (arith, c.requires)

pub count_at-requires-2 : goal.count_at-requires-2
unfolding program_at lengths_end
count_at-requires-2 c = omega (arith, c.requires)

pub count_at-requires-3 : goal.count_at-requires-3
unfolding program_at lengths_end
count_at-requires-3 c = omega (arith, c.requires)

pub count_at-requires-4 : goal.count_at-requires-4
unfolding program_at lengths_end
count_at-requires-4 c = omega (arith, c.requires)

pub further_length-requires : goal.further_length-requires
unfolding program_at
further_length-requires c = (omega arith, omega (arith, c.requires))

pub further_length-requires-2 : goal.further_length-requires-2
unfolding program_at
further_length-requires-2 c = (omega arith, omega (arith, c.requires))

pub returns : goal.returns
unfolding parts_of ids_in addresses_in program_at
returns c =
    rw (
      c.further_length-2.ensures,
      c.further_length.ensures,
      c.count_at-4.ensures.0,
      c.count_at-3.ensures.0,
      c.count_at-2.ensures.0,
      c.count_at.ensures.0,
    )
    (rw (c.count_at-addresses.ensures.0, c.count_at-ids.ensures.0, c.lengths_end-end.ensures.0))
