-- The laws of specs/Frame.antt.
use mathlib.Core.Path.{◌≡◌, ◌∙◌, refl, ap}
use mathlib.Core.Bool.{Bool, true, false}
use mathlib.Core.List.{[], ◌∷◌, ◌++◌}
use Prim.Native.Nat.{ℕ, ◌+◌}
use Rattle.base.specs.Pick.{pick}
use Rattle.jit.specs.declared.Flags.{Flags}
use Rattle.x86.specs.Code.{size, targets_of}
use Rattle.x86.proofs.CodeLaws.{size-append}
use Rattle.x86.specs.Encode.{rex, modrm, memory, bare, short}
use Rattle.jit.specs.Limits.{anchor}
use Rattle.jit.specs.Room.{longest_prologue, epilogue_size}
use Rattle.jit.specs.Frame.{argument, enter, epilogue, keep_packet, packet_end, packet_start, prologue, saves}

-- their lengths
abbrev pub prologue_size : Flags → ℕ
prologue_size f = pick f.use_mbuff (pick f.update_data_ptr longest_prologue 31) 34

pub prologue-size : (f : Flags) → size (prologue f) ≡ prologue_size f
unfolding saves packet_start packet_end argument enter prologue rex modrm memory bare short
prologue-size f = by f.use_mbuff f.update_data_ptr
  where
    by : (a b : Bool) → size (prologue (record { use_mbuff = a; update_data_ptr = b })) ≡ pick a (pick b longest_prologue 31) 34
    by true true = refl
    by true false = refl
    by false b = refl

pub saves-size : size saves ≡ 8
unfolding saves rex
saves-size = refl

pub packet_start-size : size packet_start ≡ 6
unfolding packet_start rex modrm memory bare short
packet_start-size = refl

pub packet_end-size : size packet_end ≡ 12
unfolding packet_end rex modrm memory bare short
packet_end-size = refl

pub enter-size : size enter ≡ 20
unfolding enter rex modrm
enter-size = refl

pub epilogue-size : size epilogue ≡ epilogue_size
unfolding epilogue rex
epilogue-size = refl

-- and their listed jumps: the prologue's, to the exit, and none
pub prologue-targets : (f : Flags) → targets_of (prologue f) ≡ anchor ∷ []
unfolding saves packet_start packet_end argument enter prologue
prologue-targets f = by f.use_mbuff f.update_data_ptr
  where
    by : (a b : Bool) → targets_of (prologue (record { use_mbuff = a; update_data_ptr = b })) ≡ anchor ∷ []
    by true true = refl
    by true false = refl
    by false b = refl

pub epilogue-targets : targets_of epilogue ≡ []
unfolding epilogue
epilogue-targets = refl

-- the prologue up to its last part
pub prologue-parts : (f : Flags) → size (prologue f) ≡ size saves + (3 + (size (argument f) + size enter))
unfolding prologue rex
prologue-parts f = size-append saves (keep_packet ++ (argument f ++ enter)) ∙ ap (λ (n : ℕ). size saves + (3 + n)) (size-append (argument f) enter)

pub no-jumps-before : (f : Flags) → targets_of (saves ++ (keep_packet ++ argument f)) ≡ []
unfolding saves packet_start packet_end argument
no-jumps-before f = by f.use_mbuff f.update_data_ptr
  where
    by : (a b : Bool) → targets_of (saves ++ (keep_packet ++ argument (record { use_mbuff = a; update_data_ptr = b }))) ≡ []
    by true true = refl
    by true false = refl
    by false b = refl
