-- A case, taken apart. Its bytes: the flags; the lengths of the page and of the three tables; where bit 7 of the flags says so, those of the
-- two further tables; how many helper ids, the ids; how many addresses, the addresses; the program's length, the program. Numbers have four
-- bytes and addresses eight, lowest first.
use Rattle.std.specs.Prelude.{Bool, not, Result, Ok, Err, List, [], ◌∷◌, ◌++◌, ℕ, ◌+◌, ◌*◌, ◌-◌, ◌/◌, ◌%◌, ltb, eqb, length, get_or, drop}
use Rattle.base.specs.Pick.{pick}
use Rattle.base.specs.Table.{values}
use Rattle.ebpf.specs.Insn.{le4}
use Rattle.std.specs.Result.{result_and}
use Rattle.jit.specs.declared.Flags.{Flags}
use Rattle.jit.specs.declared.Mode.{Mode}
use Rattle.cases_problems.specs.declared.Problem.{Problem}
use Rattle.cases_problems.specs.declared.Problem.TheVariants.{OtherFlags, ManyIds, ManyAddresses, LongProgram, Unfilled}
use Rattle.cases_bytes.specs.Limits.{longest_of_case}
use Rattle.cases_bytes.specs.declared.parts.Case.{Case}

-- where the lengths end: bit 7 brings two more
unfoldable pub lengths_end : List ℕ → ℕ
lengths_end b = 17 + 8 * (get_or b 0 0 / 128)

-- how many ids, and where the addresses begin; how many of those, and where the program begins
unfoldable pub ids_in : List ℕ → ℕ
ids_in b = le4 b (lengths_end b)

unfoldable pub addresses_at : List ℕ → ℕ
addresses_at b = lengths_end b + 8 + 4 * ids_in b

unfoldable pub addresses_in : List ℕ → ℕ
addresses_in b = le4 b (lengths_end b + 4 + 4 * ids_in b)

unfoldable pub program_at : List ℕ → ℕ
program_at b = lengths_end b + 12 + 4 * ids_in b + 8 * addresses_in b

unfoldable pub program_in : List ℕ → ℕ
program_in b = le4 b (lengths_end b + 8 + 4 * ids_in b + 8 * addresses_in b)

-- the first thing that is wrong, of a row of them
pub data Check : Type 0 where
  ◌⊘◌ : Bool → Problem → Check

infix 90 ◌⊘◌
abbrev pub first_of : List Check → Result (Unit {0}) Problem
first_of [] = Ok tt
first_of (t ⊘ p ∷ r) = pick t (Err p) (first_of r)

-- the parts have to fill the body, and the helpers to fit what is there for them
abbrev pub checks : List ℕ → ℕ → ℕ → List Check
checks b most_ids most_addresses =
    eqb (length b) 0 ⊘ Unfilled
    ∷ ltb 15 (get_or b 0 0 % 128) ⊘ OtherFlags
    ∷ ltb (length b) (lengths_end b + 4) ⊘ Unfilled
    ∷ ltb most_ids (ids_in b) ⊘ ManyIds
    ∷ ltb (length b) (addresses_at b) ⊘ Unfilled
    ∷ ltb most_addresses (addresses_in b) ⊘ ManyAddresses
    ∷ ltb (length b) (program_at b) ⊘ Unfilled
    ∷ ltb longest_of_case (program_in b) ⊘ LongProgram
    ∷ not (eqb (length b - program_at b) (program_in b)) ⊘ Unfilled
    ∷ []

unfoldable pub wrong_with : List ℕ → ℕ → ℕ → Result (Unit {0}) Problem
wrong_with b most_ids most_addresses = first_of (checks b most_ids most_addresses)

-- the length of a further table. Without bit 7 it has an entry for each slot of the program, and one, so that it is not what is refused
abbrev pub further : List ℕ → (at unsaid : ℕ) → ℕ
further b at unsaid = pick (eqb (get_or b 0 0 / 128) 1) (le4 b at) unsaid

abbrev pub unsaid : List ℕ → ℕ
unsaid b = (length b - program_at b) / 8 + 1

unfoldable pub parts_of : List ℕ → Case
parts_of b = record {
  flags = record { use_mbuff = eqb (get_or b 0 0 % 2) 1; update_data_ptr = eqb (get_or b 0 0 / 2 % 2) 1 };
  mode = record { standard = eqb (get_or b 0 0 / 4 % 2) 1; compact = eqb (get_or b 0 0 / 8 % 2) 1 };
  named = eqb (get_or b 0 0 / 128) 1;
  code = le4 b 1;
  locations = le4 b 5;
  fields = le4 b 9;
  targets = le4 b 13;
  kinds = further b 17 (unsaid b);
  makers = further b 21 (unsaid b);
  ids = ids_in b;
  addresses = addresses_in b;
  program = program_at b;
}

-- the case, or the first thing that is wrong with it
unfoldable pub case_of : List ℕ → ℕ → ℕ → Result Case Problem
case_of b most_ids most_addresses = result_and (wrong_with b most_ids most_addresses) (Ok (parts_of b))

-- the helpers: the ids and the addresses, each from their place on
abbrev pub id_at : List ℕ → ℕ → ℕ → ℕ
id_at b at k = le4 b (at + 4 * k)

abbrev pub address_at : List ℕ → ℕ → ℕ → ℕ
address_at b at k = le4 b (at + 8 * k) + 4294967296 * le4 b (at + 8 * k + 4)

-- n of them at the start of a lent list, and what is behind as it was
unfoldable pub filled : (ℕ → ℕ) → ℕ → List ℕ → List ℕ
filled f n l = values f 0 n ++ drop n l
