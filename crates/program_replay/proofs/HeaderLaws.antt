-- A capture's header has all its bytes.
use mathlib.Core.Path.{◌≡◌, refl}
use mathlib.Core.Bool.{Bool, true, false}
use mathlib.Core.List.{List}
use Prim.Native.Nat.{ℕ, ◌≤◌}
use native.Mathlib.Omega.{arith}
use lib.Dec.{ltb}
use lib.ListN.{length, length-take, take}
use borrow.Author.Tests.{ltb-false}
use Rattle.base.specs.Pick.{pick}
use Rattle.pcap.specs.Capture.{header_of, header_size, is_magic, number_at}
use Rattle.pcap.specs.declared.Order.{Order}
use Rattle.pcap.specs.declared.Order.TheVariants.{Little, Big}
use Rattle.std.specs.Prelude.{Some, None}

headed : (file : List ℕ) (o : Order) → header_of file ≡ Some o → 24 ≤ length file
unfolding header_of
headed file o e = by (ltb (length file) header_size) refl e
  where
    by : (b : Bool) → ltb (length file) header_size ≡ b
        → pick b None (pick (is_magic (number_at Little file 0)) (Some Little) (pick (is_magic (number_at Big file 0)) (Some Big) None)) ≡ Some o
        → 24 ≤ length file
    by true t e = let z : ◌≡◌ {A = ℕ} 0 1 = cc in absurd (omega arith)
    by false t e = ltb-false _ _ t

-- so that many bytes are read in which one is found
pub read : (buffer : List ℕ) (n : ℕ) (o : Order) → header_of (take n buffer) ≡ Some o → 24 ≤ n
read buffer n o e = omega (arith, headed (take n buffer) o e, length-take n buffer)
