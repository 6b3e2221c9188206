-- The laws of specs/Fill.antt: crate code's, of this processor.
use mathlib.Core.Path.{◌≡◌}
use mathlib.Core.List.{List, ◌++◌}
use Prim.Native.Nat.{ℕ, ◌+◌, ◌≤◌, ◌^◌}
use lib.ListN.{length}
use lib.Seq.{sets}
use Rattle.code.proofs.FillLaws as code
pub use Rattle.code.proofs.FillLaws.{sets-at, sets_over, take-over}
use Rattle.x86.specs.Instr.{Instr}
use Rattle.x86.specs.Code.{Dest, size, targets_of}
use Rattle.x86.specs.Lowered.{lowered, bytes, fields_of}
use Rattle.x86.specs.Fill.{blanks}
use Rattle.x86.specs.Fill.{filled}
use Rattle.base.specs.Lists.{over}
use Rattle.x86.proofs.CodeLaws.{lawful}

-- all of them, between what stands before and behind
pub fill-all : (loc : ℕ → ℕ) (is : List (Instr Dest)) (p r : List ℕ) (n : ℕ) → length p ≡ n → n + size is ≤ 2 ^ 32
    → filled loc (fields_of n is) (targets_of is) (p ++ (blanks is ++ r)) ≡ p ++ (bytes (lowered loc n is) ++ r)
fill-all = code.fill-all lawful

-- the buffer: blank code at its head, filled, is the code at its head
pub fill-over : (loc : ℕ → ℕ) (is : List (Instr Dest)) (l : List ℕ) → size is ≤ length l → size is ≤ 2 ^ 32
    → filled loc (fields_of 0 is) (targets_of is) (sets l 0 (blanks is)) ≡ over (bytes (lowered loc 0 is)) l
fill-over = code.fill-over lawful
