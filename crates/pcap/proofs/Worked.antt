-- Worked captures, which antt computes: headers, records and the records of a small capture, byte by byte.
use mathlib.Core.Path.{◌≡◌, refl}
use mathlib.Core.List.{List, [], ◌∷◌, map}
use Prim.Native.Nat.{ℕ}
use native.Mathlib.Omega.{arith}
use lib.ListN.{length, take, replicate}
use Rattle.pcap.specs.declared.Order.{Order}
use Rattle.pcap.specs.declared.Order.TheVariants.{Little, Big}
use Rattle.std.specs.Prelude.{Option, Some, None}
use Rattle.pcap.specs.declared.Record.TheVariants.{End, Packet, Partial, TooLong}
use Rattle.pcap.specs.Capture.{header_of, record_of, records_from, records_of}
use Rattle.pcap.proofs.CaptureLaws.{packet}

-- The 20 bytes behind a magic number: version 2.4, no time zone, packets of up to 262,144 bytes, Ethernet.
abbrev little : List ℕ
little = 2 ∷ 0 ∷ 4 ∷ 0 ∷ 0 ∷ 0 ∷ 0 ∷ 0 ∷ 0 ∷ 0 ∷ 0 ∷ 0 ∷ 0 ∷ 0 ∷ 4 ∷ 0 ∷ 1 ∷ 0 ∷ 0 ∷ 0 ∷ []

abbrev big : List ℕ
big = 0 ∷ 2 ∷ 0 ∷ 4 ∷ 0 ∷ 0 ∷ 0 ∷ 0 ∷ 0 ∷ 0 ∷ 0 ∷ 0 ∷ 0 ∷ 4 ∷ 0 ∷ 0 ∷ 0 ∷ 0 ∷ 0 ∷ 1 ∷ []

abbrev microseconds : List ℕ
microseconds = 0xd4 ∷ 0xc3 ∷ 0xb2 ∷ 0xa1 ∷ little

pub headers : map header_of
    (microseconds
    ∷ (0x4d ∷ 0x3c ∷ 0xb2 ∷ 0xa1 ∷ little)
    ∷ (0xa1 ∷ 0xb2 ∷ 0xc3 ∷ 0xd4 ∷ big)
    ∷ (0xa1 ∷ 0xb2 ∷ 0x3c ∷ 0x4d ∷ big)
    ∷ [])
    ≡ Some Little ∷ Some Little ∷ Some Big ∷ Some Big ∷ []
unfolding header_of
headers = refl

-- a byte too few; two bytes of the magic number exchanged; a capture in the newer format; no byte
pub no-headers : map header_of
    (take 23 microseconds ∷ (0xc3 ∷ 0xd4 ∷ 0xb2 ∷ 0xa1 ∷ little) ∷ (0x0a ∷ 0x0d ∷ 0x0d ∷ 0x0a ∷ little) ∷ [] ∷ [])
    ≡ None ∷ None ∷ None ∷ None ∷ []
unfolding header_of
no-headers = refl

-- A record of a packet that had 60 bytes of its own, at a time that is not looked at: its header, by the three lower bytes of the captured
-- length, and what is behind the header.
abbrev pub headed : Order → (first second third : ℕ) → List ℕ → List ℕ
headed Little first second third s = 1 ∷ 2 ∷ 3 ∷ 4 ∷ 5 ∷ 6 ∷ 7 ∷ 8 ∷ first ∷ second ∷ third ∷ 0 ∷ 60 ∷ 0 ∷ 0 ∷ 0 ∷ s
headed Big first second third s = 4 ∷ 3 ∷ 2 ∷ 1 ∷ 8 ∷ 7 ∷ 6 ∷ 5 ∷ 0 ∷ third ∷ second ∷ first ∷ 0 ∷ 0 ∷ 0 ∷ 60 ∷ s

abbrev of_three : Order → List ℕ → List ℕ
of_three o s = headed o 3 0 0 s

-- Nothing; 15 bytes of a header; a packet of no byte; of three; of three, the last of which is missing; of three, and a byte behind it; of
-- 258; of 65,536; of 65,535, of which none is there.
pub records : (o : Order) → map (record_of o)
    ([]
    ∷ take 15 (of_three o [])
    ∷ headed o 0 0 0 []
    ∷ of_three o (7 ∷ 8 ∷ 9 ∷ [])
    ∷ of_three o (7 ∷ 8 ∷ [])
    ∷ of_three o (7 ∷ 8 ∷ 9 ∷ 10 ∷ [])
    ∷ headed o 2 1 0 (replicate 258 0)
    ∷ headed o 0 0 1 []
    ∷ headed o 0xff 0xff 0 []
    ∷ [])
    ≡ End ∷ Partial ∷ Packet 0 ∷ Packet 3 ∷ Partial ∷ Packet 3 ∷ Packet 258 ∷ TooLong ∷ Partial ∷ []
unfolding record_of
records Little = refl
records Big = refl

-- the longest packet, whatever its bytes are
pub longest : (o : Order) (p : List ℕ) → length p ≡ 65535 → record_of o (headed o 0xff 0xff 0 p) ≡ Packet 65535
longest Little p h = packet Little (headed Little 0xff 0xff 0 p) (record { said = refl; small = omega arith; there = omega arith })
longest Big p h = packet Big (headed Big 0xff 0xff 0 p) (record { said = refl; small = omega arith; there = omega arith })

-- A capture of two packets and half of a third, without its header: the two, and what is left.
pub capture : (o : Order) → records_of o (of_three o (7 ∷ 8 ∷ 9 ∷ headed o 1 0 0 (10 ∷ of_three o (11 ∷ []))))
    ≡ record { packets = (7 ∷ 8 ∷ 9 ∷ []) ∷ (10 ∷ []) ∷ []; rest = of_three o (11 ∷ []) }
unfolding record_of records_from
capture Little = refl
capture Big = refl
