-- One run from first to last, so that the statements are seen to be about something: EXIT alone, 51 bytes, with RSP at 4096.
-- Nineteen steps: the prologue, the slot's return to the prologue's jump, the epilogue, the last return; RSP is then 8 above 4096. And the
-- same where the slot's return finds another address, which ends the premise, and where the first push faults.
use mathlib.Core.Path.{◌≡◌, refl}
use mathlib.Core.Bool.{Bool, true, false}
use mathlib.Core.List.{List, [], ◌∷◌}
use Prim.Native.Nat.{ℕ}
use lib.ListN.{replicate}
use Rattle.x86.specs.Registers.{RSP}
use Rattle.x86.specs.Decode.{decode, with_rex, rex_of, opcode, opcode16, with_modrm, reg_number, low_number, number}
use Rattle.x86_machine.specs.Machine.{put, Status, Input, State, Outcome, running, finished, faulted, unbalanced, divided, astray, rd, result, follow, step, run}

-- the page, by the two low bytes of what its epilogue adds to RSP, 00 02 in the right one
abbrev pub page_adding : (low high : ℕ) → List ℕ
page_adding low high =
    0x55 ∷ 0x53 ∷ 0x41 ∷ 0x55 ∷ 0x41 ∷ 0x56 ∷ 0x41 ∷ 0x57 ∷ 0x49 ∷ 0x89 ∷ 0xd2 ∷ 0x48 ∷ 0x89 ∷ 0xd7 ∷ 0x48 ∷ 0x89 ∷ 0xe5
    ∷ 0x48 ∷ 0x81 ∷ 0xec ∷ 0x00 ∷ 0x02 ∷ 0x00 ∷ 0x00 ∷ 0xe8 ∷ 0x05 ∷ 0x00 ∷ 0x00 ∷ 0x00 ∷ 0xe9 ∷ 0x01 ∷ 0x00 ∷ 0x00 ∷ 0x00
    ∷ 0xc3
    ∷ 0x48 ∷ 0x81 ∷ 0xc4 ∷ low ∷ high ∷ 0x00 ∷ 0x00 ∷ 0x41 ∷ 0x5f ∷ 0x41 ∷ 0x5e ∷ 0x41 ∷ 0x5d ∷ 0x5b ∷ 0x5d ∷ 0xc3 ∷ []

abbrev pub clear : Status
clear = record { CF = false; ZF = false; SF = false; OF = false }

abbrev pub start : State
start = record { pos = 0; regs = put (λ r. 0) RSP 4096; flags = clear; calls = [] }

abbrev pub input : (allowed : Bool) → (back : ℕ) → Input
input a b = record { allowed = a; value = 7; back = b; regs = λ r. 9; flags = clear }

-- what it came to: 0 running, 1 finished, 2 faulted, 3 unbalanced, 4 divided, 5 astray; the place, RSP, and how many calls are open
abbrev opened : {A : Type 0} → List A → ℕ
opened [] = 0
opened (a ∷ l) = ℕ.suc (opened l)

abbrev shown : Outcome → List ℕ
shown (running s) = 0 ∷ s.pos ∷ s.regs RSP ∷ opened s.calls ∷ []
shown (finished s) = 1 ∷ s.pos ∷ s.regs RSP ∷ opened s.calls ∷ []
shown faulted = 2 ∷ []
shown unbalanced = 3 ∷ []
shown divided = 4 ∷ []
shown astray = 5 ∷ []

abbrev steps : ℕ → Bool → ℕ → List ℕ
steps n a b = shown (run (page_adding 0x00 0x02) (replicate n (input a b)) start)

-- ten steps to the slot, the call being open; the prologue's jump; the last return, to where the run was called from
pub worked-run :
    (steps 10 true 29 ≡ 0 ∷ 34 ∷ 3536 ∷ 1 ∷ [])
    × (steps 11 true 29 ≡ 0 ∷ 29 ∷ 3544 ∷ 0 ∷ [])
    × (steps 12 true 29 ≡ 0 ∷ 35 ∷ 3544 ∷ 0 ∷ [])
    × (steps 18 true 29 ≡ 0 ∷ 50 ∷ 4096 ∷ 0 ∷ [])
    × (steps 19 true 29 ≡ 1 ∷ 29 ∷ 4104 ∷ 0 ∷ [])
    × (steps 100 true 29 ≡ 1 ∷ 29 ∷ 4104 ∷ 0 ∷ [])
    × (steps 11 true 30 ≡ 3 ∷ [])
    × (steps 1 false 29 ≡ 2 ∷ [])
unfolding decode with_rex rex_of opcode opcode16 with_modrm reg_number low_number number rd result follow step run
worked-run = (refl, refl, refl, refl, refl, refl, refl, refl)
