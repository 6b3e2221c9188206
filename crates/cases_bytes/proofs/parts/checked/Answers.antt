use Rattle.cases_bytes.specs.Cases.{wrong_with, ids_in, addresses_at, addresses_in, program_at, program_in}
use lib.ListN.{length}
use borrow.Author.Tests.{eq-eqb, ne_eqb, lt-ltb, le-ltb}
use native.Mathlib.Omega.{arith}
use borrow.Author.Rules.{rules}
use Rattle.cases_bytes.proofs.parts.checked.Goals as goal

pub returns-then-is_empty-clause-wrong : goal.returns-then-is_empty-clause-wrong
unfolding wrong_with ids_in addresses_at addresses_in program_at program_in
returns-then-is_empty-clause-wrong c = rw (eq-eqb (length c.args.body.now) 0 (search rules))

pub returns-then-body-gt15-clause-wrong : goal.returns-then-body-gt15-clause-wrong
unfolding wrong_with ids_in addresses_at addresses_in program_at program_in
returns-then-body-gt15-clause-wrong c = rw (ne_eqb (length c.args.body.now) 0 (search rules), lt-ltb _ _ c.if-body-gt15.true)

pub returns-then-body-end-clause-wrong : goal.returns-then-body-end-clause-wrong
unfolding wrong_with ids_in addresses_at addresses_in program_at program_in
returns-then-body-end-clause-wrong c =
    rw (
      ne_eqb (length c.args.body.now) 0 (search rules),
      le-ltb _ _ c.if-body-gt15.false,
      ← c.lengths_end-end.ensures.0,
      lt-ltb _ _ c.if-body-end.true,
    )

pub returns-then-most_ids-ids-clause-wrong : goal.returns-then-most_ids-ids-clause-wrong
unfolding wrong_with ids_in addresses_at addresses_in program_at program_in
returns-then-most_ids-ids-clause-wrong c =
    rw (
      ne_eqb (length c.args.body.now) 0 (search rules),
      le-ltb _ _ c.if-body-gt15.false,
      ← c.lengths_end-end.ensures.0,
      le-ltb _ _ c.if-body-end.false,
      ← c.count_at-ids.ensures.0,
      lt-ltb _ _ c.if-most_ids-ids.true,
    )

pub returns-then-body-end-2-clause-wrong : goal.returns-then-body-end-2-clause-wrong
unfolding wrong_with ids_in addresses_at addresses_in program_at program_in
returns-then-body-end-2-clause-wrong c =
    rw (
      ne_eqb (length c.args.body.now) 0 (search rules),
      le-ltb _ _ c.if-body-gt15.false,
      ← c.lengths_end-end.ensures.0,
      le-ltb _ _ c.if-body-end.false,
      ← c.count_at-ids.ensures.0,
      le-ltb _ _ c.if-most_ids-ids.false,
      lt-ltb _ _ c.if-body-end-2.true,
    )

pub returns-then-most_addresses-addresses-clause-wrong : goal.returns-then-most_addresses-addresses-clause-wrong
unfolding wrong_with ids_in addresses_at addresses_in program_at program_in
returns-then-most_addresses-addresses-clause-wrong c =
    rw (
      ne_eqb (length c.args.body.now) 0 (search rules),
      le-ltb _ _ c.if-body-gt15.false,
      ← c.lengths_end-end.ensures.0,
      le-ltb _ _ c.if-body-end.false,
      ← c.count_at-ids.ensures.0,
      le-ltb _ _ c.if-most_ids-ids.false,
      le-ltb _ _ c.if-body-end-2.false,
      ← c.count_at-addresses.ensures.0,
      lt-ltb _ _ c.if-most_addresses-addresses.true,
    )

pub returns-then-body-program-clause-wrong : goal.returns-then-body-program-clause-wrong
unfolding wrong_with ids_in addresses_at addresses_in program_at program_in
returns-then-body-program-clause-wrong c =
    rw (
      ne_eqb (length c.args.body.now) 0 (search rules),
      le-ltb _ _ c.if-body-gt15.false,
      ← c.lengths_end-end.ensures.0,
      le-ltb _ _ c.if-body-end.false,
      ← c.count_at-ids.ensures.0,
      le-ltb _ _ c.if-most_ids-ids.false,
      le-ltb _ _ c.if-body-end-2.false,
      ← c.count_at-addresses.ensures.0,
      le-ltb _ _ c.if-most_addresses-addresses.false,
      lt-ltb _ _ c.if-body-program.true,
    )

pub returns-then-length-gt-PROGRAM-clause-wrong : goal.returns-then-length-gt-PROGRAM-clause-wrong
unfolding wrong_with ids_in addresses_at addresses_in program_at program_in
returns-then-length-gt-PROGRAM-clause-wrong c =
    rw (
      ne_eqb (length c.args.body.now) 0 (search rules),
      le-ltb _ _ c.if-body-gt15.false,
      ← c.lengths_end-end.ensures.0,
      le-ltb _ _ c.if-body-end.false,
      ← c.count_at-ids.ensures.0,
      le-ltb _ _ c.if-most_ids-ids.false,
      le-ltb _ _ c.if-body-end-2.false,
      ← c.count_at-addresses.ensures.0,
      le-ltb _ _ c.if-most_addresses-addresses.false,
      le-ltb _ _ c.if-body-program.false,
      ← c.count_at-length.ensures.0,
      lt-ltb _ _ c.if-length-gt-PROGRAM.true,
    )

pub returns-then-body-program-2-clause-wrong : goal.returns-then-body-program-2-clause-wrong
unfolding wrong_with ids_in addresses_at addresses_in program_at program_in
returns-then-body-program-2-clause-wrong c =
    rw (
      ne_eqb (length c.args.body.now) 0 (search rules),
      le-ltb _ _ c.if-body-gt15.false,
      ← c.lengths_end-end.ensures.0,
      le-ltb _ _ c.if-body-end.false,
      ← c.count_at-ids.ensures.0,
      le-ltb _ _ c.if-most_ids-ids.false,
      le-ltb _ _ c.if-body-end-2.false,
      ← c.count_at-addresses.ensures.0,
      le-ltb _ _ c.if-most_addresses-addresses.false,
      le-ltb _ _ c.if-body-program.false,
      ← c.count_at-length.ensures.0,
      le-ltb _ _ c.if-length-gt-PROGRAM.false,
      ne_eqb _ _ c.if-body-program-2.true,
    )

pub returns-clause-wrong : goal.returns-clause-wrong
unfolding wrong_with ids_in addresses_at addresses_in program_at program_in
returns-clause-wrong c =
    rw (
      ne_eqb (length c.args.body.now) 0 (search rules),
      le-ltb _ _ c.if-body-gt15.false,
      ← c.lengths_end-end.ensures.0,
      le-ltb _ _ c.if-body-end.false,
      ← c.count_at-ids.ensures.0,
      le-ltb _ _ c.if-most_ids-ids.false,
      le-ltb _ _ c.if-body-end-2.false,
      ← c.count_at-addresses.ensures.0,
      le-ltb _ _ c.if-most_addresses-addresses.false,
      le-ltb _ _ c.if-body-program.false,
      ← c.count_at-length.ensures.0,
      le-ltb _ _ c.if-length-gt-PROGRAM.false,
      eq-eqb _ _ c.if-body-program-2.false,
    )

pub returns-clause-inside : goal.returns-clause-inside
unfolding ids_in addresses_in program_at
returns-clause-inside c =
    let ends = c.lengths_end-end.ensures.0 in
    let ids = rw ends at c.count_at-ids.ensures.0 in
    let addresses = rw (ends, ids) at c.count_at-addresses.ensures.0 in
    (omega (arith, ids), (omega (arith, addresses), omega (arith, ids, addresses, ends)))
