-- Wrong readers that the definitions shut out: each has the shape of the right one (`right-header`, `right-record`), and is refuted at a file or
-- a record that shows it.
use mathlib.Core.Path.{◌≡◌, refl}
use mathlib.Core.Bool.{Bool}
use mathlib.Core.List.{List, [], ◌∷◌}
use Prim.Native.Nat.{ℕ, ◌+◌}
use native.Mathlib.Omega.{arith}
use lib.Dec.{ltb, eqb}
use lib.ListN.{length, replicate}
use Rattle.base.specs.Pick.{pick}
use Rattle.pcap.specs.declared.Order.{Order}
use Rattle.pcap.specs.declared.Order.TheVariants.{Little, Big}
use Rattle.std.specs.Prelude.{Option, Some, None}
use Rattle.pcap.specs.declared.Record.{Record}
use Rattle.pcap.specs.declared.Record.TheVariants.{End, Packet, Partial, TooLong}
use Rattle.pcap.specs.Capture.{header_size, record_size, longest_packet, number_at, is_magic, captured, header_of, record_of}
use Rattle.pcap.proofs.Worked.{headed}

-- HEADERS. A reader, by the least file that it takes and the numbers that it takes for a magic one.
abbrev header_by : (least : ℕ) → (magic : ℕ → Bool) → List ℕ → Option Order
header_by least magic file =
    pick (ltb (length file) least) None
    (pick (magic (number_at Little file 0)) (Some Little) (pick (magic (number_at Big file 0)) (Some Big) None))

pub right-header : (file : List ℕ) → header_of file ≡ header_by header_size is_magic file
unfolding header_of
right-header file = refl

-- a file that ends behind its magic number; times in nanoseconds, which are not known
pub magic-alone : ((file : List ℕ) → header_of file ≡ header_by 4 is_magic file) → ⊥
unfolding header_of
magic-alone f = let e = f (0xd4 ∷ 0xc3 ∷ 0xb2 ∷ 0xa1 ∷ []) in let z : ◌≡◌ {A = ℕ} 0 1 = cc in omega arith

pub no-nanoseconds : ((file : List ℕ) → header_of file ≡ header_by header_size (λ x. eqb x 0xa1b2c3d4) file) → ⊥
unfolding header_of
no-nanoseconds f = let e = f (0x4d ∷ 0x3c ∷ 0xb2 ∷ 0xa1 ∷ replicate 20 0) in let z : ◌≡◌ {A = ℕ} 0 1 = cc in omega arith

-- RECORDS. A reader, by what it takes for the captured length, a header's size, the longest packet, and its answer to a record that is cut.
abbrev record_by : (Order → List ℕ → ℕ) → (header longest : ℕ) → (cut : Record) → Order → List ℕ → Record
record_by size header longest cut o s =
    pick (eqb (length s) 0) End
    (pick (ltb (length s) header) cut
    (pick (ltb longest (size o s)) TooLong (pick (ltb (length s) (header + size o s)) cut (Packet (size o s)))))

pub right-record : (o : Order) (s : List ℕ) → record_of o s ≡ record_by captured record_size longest_packet Partial o s
unfolding record_of
right-record o s = refl

abbrev Reads : (Order → List ℕ → Record) → Type 0
Reads reader = (o : Order) (s : List ℕ) → record_of o s ≡ reader o s

-- lengths of the one order read in the other: a packet of one byte would have 16,777,216
pub big-as-little : Reads (record_by (λ o s. number_at Little s 8) record_size longest_packet Partial) → ⊥
unfolding record_of
big-as-little f = let e = f Big (headed Big 1 0 0 (7 ∷ [])) in let z : ◌≡◌ {A = ℕ} 0 1 = cc in omega arith

pub little-as-big : Reads (record_by (λ o s. number_at Big s 8) record_size longest_packet Partial) → ⊥
unfolding record_of
little-as-big f = let e = f Little (headed Little 1 0 0 (7 ∷ [])) in let z : ◌≡◌ {A = ℕ} 0 1 = cc in omega arith

-- the packet's own length, 60, for the captured one
pub own-length : Reads (record_by (λ o s. number_at o s 12) record_size longest_packet Partial) → ⊥
unfolding record_of
own-length f = let e = f Little (headed Little 1 0 0 (7 ∷ [])) in let z : ◌≡◌ {A = ℕ} 0 1 = cc in omega arith

-- a packet of 65,536 bytes, which is taken for one that is cut
pub one-too-long : Reads (record_by captured record_size 65536 Partial) → ⊥
unfolding record_of
one-too-long f = let e = f Little (headed Little 0 0 1 []) in let z : ◌≡◌ {A = ℕ} 0 1 = cc in omega arith

-- a header of 24 bytes, as the file's is
pub long-header : Reads (record_by captured 24 longest_packet Partial) → ⊥
unfolding record_of
long-header f = let e = f Little (headed Little 1 0 0 (7 ∷ [])) in let z : ◌≡◌ {A = ℕ} 0 1 = cc in omega arith

-- a record that is cut, for the end
pub cut-for-end : Reads (record_by captured record_size longest_packet End) → ⊥
unfolding record_of
cut-for-end f = let e = f Little (headed Little 1 0 0 []) in let z : ◌≡◌ {A = ℕ} 0 1 = cc in omega arith
