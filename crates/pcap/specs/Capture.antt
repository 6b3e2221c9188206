-- Classic libpcap captures, from pcap-savefile(5): a header of 24 bytes, and behind it records, each a header of 16 bytes and the captured bytes
-- of a packet. The header begins with a magic number, by whose bytes the order of all numbers of the file is known; one magic is for times in
-- microseconds, one for nanoseconds. Nothing else of the header counts here, and of a record's header only the captured length, its third
-- number. What a file says of itself is not trusted: a length counts as far as the bytes are there.
use Rattle.std.specs.Prelude.{Bool, ◌||◌, Option, Some, None, List, [], ◌∷◌, ℕ, zero, suc, ◌+◌, ◌*◌, ltb, eqb, length, get_or, take, drop}
use Rattle.base.specs.Pick.{pick}
use Rattle.pcap.specs.declared.Order.{Order}
use Rattle.pcap.specs.declared.Order.TheVariants.{Little, Big}
use Rattle.pcap.specs.declared.Record.{Record}
use Rattle.pcap.specs.declared.Record.TheVariants.{End, Packet, Partial, TooLong}

abbrev pub header_size : ℕ
header_size = 24

abbrev pub record_size : ℕ
record_size = 16

-- the longest packet that is taken
abbrev pub longest_packet : ℕ
longest_packet = 65535

-- a number of four bytes, at a place
abbrev pub number_at : Order → List ℕ → (at : ℕ) → ℕ
number_at Little s at = get_or s at 0 + 256 * get_or s (at + 1) 0 + 65536 * get_or s (at + 2) 0 + 16777216 * get_or s (at + 3) 0
number_at Big s at = get_or s (at + 3) 0 + 256 * get_or s (at + 2) 0 + 65536 * get_or s (at + 1) 0 + 16777216 * get_or s at 0

-- times in microseconds, in nanoseconds
abbrev pub is_magic : ℕ → Bool
is_magic x = eqb x 0xa1b2c3d4 || eqb x 0xa1b23c4d

unfoldable pub header_of : (file : List ℕ) → Option Order
header_of file =
    pick (ltb (length file) header_size) None
    (pick (is_magic (number_at Little file 0)) (Some Little) (pick (is_magic (number_at Big file 0)) (Some Big) None))

-- seconds, their fraction, the captured length, the packet's own length
abbrev pub captured : Order → List ℕ → ℕ
captured o s = number_at o s 8

unfoldable pub record_of : Order → List ℕ → Record
record_of o s =
    pick (eqb (length s) 0) End
    (pick (ltb (length s) record_size) Partial
    (pick (ltb longest_packet (captured o s)) TooLong
    (pick (ltb (length s) (record_size + captured o s)) Partial (Packet (captured o s)))))

-- The packets of the whole records at the head of bytes, and what is behind them: nothing, or what begins with no whole record.
pub record Records : Type 0 where
  pub packets : List (List ℕ)
  pub rest : List ℕ

abbrev pub joined : (packet : List ℕ) → Records → Records
joined p r = record { packets = p ∷ r.packets; rest = r.rest }

abbrev pub behind : List ℕ → Record → (List ℕ → Records) → Records
behind s End k = record { packets = []; rest = s }
behind s (Packet n) k = joined (take n (drop record_size s)) (k (drop (record_size + n) s))
behind s Partial k = record { packets = []; rest = s }
behind s TooLong k = record { packets = []; rest = s }

-- the fuel is at least the number of records
unfoldable pub records_from : (fuel : ℕ) → Order → List ℕ → Records
records_from zero o s = record { packets = []; rest = s }
records_from (suc fuel) o s = behind s (record_of o s) (λ t. records_from fuel o t)

-- every record has a header, so there are fewer than bytes
abbrev pub records_of : Order → List ℕ → Records
records_of o s = records_from (length s) o s
