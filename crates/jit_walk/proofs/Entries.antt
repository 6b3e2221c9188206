-- The kind that an entry of the opcode table stands for.
use mathlib.Core.Path.{◌≡◌, ◌∙◌, refl, sym}
use Prim.Native.Nat.{ℕ, ◌<◌}
use lib.ListN.{get_or}
use Rattle.ebpf.specs.Opcode.{kind_of}
use Rattle.ebpf.specs.Kinds.{UNKNOWN, numbers, numbered}
use Rattle.ebpf.proofs.KindsLaws.{entry, in_table}

pub kind_is : (o : ℕ) {x : ℕ} (n : ℕ) → o < 256 → x ≡ get_or numbers o 0 → x ≡ n → kind_of o ≡ numbered o n
kind_is o n h e q = sym (entry o h) ∙ rw (← e, q)

-- an entry that is not UNKNOWN, which is also what is read past the table's end, is one of the table's
pub kind-some : (o x : ℕ) → ¬ (x ≡ UNKNOWN) → x ≡ get_or numbers o 0 → kind_of o ≡ numbered o x
kind-some o x n e = kind_is o x (in_table o e n) e refl
