-- The page of WorkedRun is what is accepted for EXIT alone, and so demand 3 is about it: its premise, what slices hold, is met.
use mathlib.Core.Path.{◌≡◌, refl}
use mathlib.Core.Bool.{false}
use mathlib.Core.List.{[], ◌∷◌}
use Prim.Native.Nat.{ℕ, zero, suc, ◌^◌, ◌<◌}
use native.Mathlib.Omega.{arith}
use lib.ListN.{get_or, replicate}
use Rattle.ebpf.specs.Insn.{insn_at, read_at}
use Rattle.ebpf.specs.Opcode.{kind_of}
use Rattle.x86.specs.Encode.{isa, rex, modrm}
use Rattle.x86.specs.Code.{plain_jump}
use Rattle.jit.specs.Limits.{shortest_page, anchor}
use Rattle.jit.specs.Frame.{saves, argument, enter, prologue, epilogue}
use Rattle.jit.specs.Translation.{Inputs, yes, step_at, rest, good_target, sizes_of, translation_of}
use Rattle.jit.specs.JumpTables.{page_for, kind_table, maker_table}
use Rattle.jit.specs.Modes.{rust}
use Rattle.jit_safety.specs.Demand3.{Given, Demand3}
use Rattle.jit_safety.proofs.Proved.{demand3}
use Rattle.x86_machine.proofs.WorkedRun.{page_adding}

abbrev exit_alone : Inputs
exit_alone =
    record {
      filter = record { program = 0x95 ∷ replicate 7 0; mode = rust; ids = []; addresses = [] };
      flags = record { use_mbuff = false; update_data_ptr = false };
      page = shortest_page;
      locations = 2;
      fields = 2;
      targets = 2;
      kinds = 2;
      makers = 2;
    }

zeros : (n k : ℕ) → get_or (replicate n 0) k 0 < 2 ^ 8
zeros zero zero = omega arith
zeros zero (suc k) = omega arith
zeros (suc n) zero = omega arith
zeros (suc n) (suc k) = zeros n k

given : Given exit_alone
given = record { bytes = bytes; addresses = λ k. omega arith }
  where
    bytes : (k : ℕ) → get_or exit_alone.filter.program k 0 < 2 ^ 8
    bytes zero = omega arith
    bytes (suc k) = zeros 7 k

accepted : translation_of exit_alone ≡ yes (page_adding 0x00 0x02) (34 ∷ 0 ∷ []) (30 ∷ []) (anchor ∷ [])
unfolding insn_at read_at kind_of rex modrm saves argument enter prologue epilogue step_at rest good_target sizes_of translation_of
accepted = refl

-- its one jump is a plain one, and the prologue's, whose maker is n
named : (kind_table isa (page_for exit_alone) ≡ plain_jump ∷ []) × (maker_table (page_for exit_alone) ≡ 1 ∷ [])
unfolding insn_at read_at kind_of rex modrm saves argument enter prologue epilogue step_at rest
named = (refl, refl)

pub worked-page : Demand3 exit_alone (page_adding 0x00 0x02) (34 ∷ 0 ∷ []) (30 ∷ []) (anchor ∷ []) (plain_jump ∷ []) (1 ∷ [])
worked-page =
    rw (named.0, named.1) at (demand3 exit_alone given (page_adding 0x00 0x02) (34 ∷ 0 ∷ []) (30 ∷ []) (anchor ∷ []) accepted)
