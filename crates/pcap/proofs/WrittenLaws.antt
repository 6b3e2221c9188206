-- A capture that is written and read again: in either order of bytes the packets come back (`read_back`), so that a capture and its twin in the
-- other order have the same records (`twins`, and of any header and whatever is behind it `twin-records`).
use mathlib.Core.Path.{◌≡◌, refl, ap, sym, ◌∙◌}
use mathlib.Core.List.{List, [], ◌∷◌, ◌++◌, map}
use Prim.Native.Nat.{ℕ, ◌+◌, ◌*◌, ◌≤◌}
use native.Mathlib.Omega.{arith}
use lib.ListN.{length, take, drop, length-append}
use lib.Seq.{drop-drop, take-append_seam, drop-append_seam}
use Rattle.pcap.specs.declared.Order.{Order}
use Rattle.pcap.specs.declared.Order.TheVariants.{Little, Big}
use Rattle.pcap.specs.declared.Record.TheVariants.{Packet}
use Rattle.pcap.specs.Capture.{number_at, record_size, longest_packet, captured, record_of, joined, records_from, records_of}
use Rattle.pcap.proofs.CaptureLaws.{packet, packet-first}

-- A number, by its bytes from the lowest on, and how a file has it.
pub record Four : Type 0 where
  pub first : ℕ
  pub second : ℕ
  pub third : ℕ
  pub fourth : ℕ

abbrev pub value_of : Four → ℕ
value_of x = x.first + 256 * x.second + 65536 * x.third + 16777216 * x.fourth

abbrev pub put : Order → Four → (behind : List ℕ) → List ℕ
put Little x s = x.first ∷ x.second ∷ x.third ∷ x.fourth ∷ s
put Big x s = x.fourth ∷ x.third ∷ x.second ∷ x.first ∷ s

pub number-back : (o : Order) (x : Four) (s : List ℕ) → number_at o (put o x s) 0 ≡ value_of x
number-back Little x s = refl
number-back Big x s = refl

pub reversed : (a b c d : ℕ) (s : List ℕ) → number_at Big (a ∷ b ∷ c ∷ d ∷ s) 0 ≡ number_at Little (d ∷ c ∷ b ∷ a ∷ s) 0
reversed a b c d s = refl

-- A record as it is written: the four numbers of its header, and its packet.
pub record Entry : Type 0 where
  pub seconds : Four
  pub fraction : Four
  pub here : Four
  pub own : Four
  pub bytes : List ℕ

abbrev pub headed : Order → Entry → (behind : List ℕ) → List ℕ
headed o e s = put o e.seconds (put o e.fraction (put o e.here (put o e.own s)))

pub twin-records : (e : Entry) (s : List ℕ) → record_of Big (headed Big e s) ≡ record_of Little (headed Little e s)
unfolding record_of
twin-records e s = refl

abbrev pub written : Order → List Entry → List ℕ
written o [] = []
written o (e ∷ es) = headed o e (e.bytes ++ written o es)

abbrev pub Right : List Entry → Type 0
Right [] = Unit {0}
Right (e ∷ es) = ((value_of e.here ≡ length e.bytes) × (length e.bytes ≤ longest_packet)) × Right es

header : (o : Order) (e : Entry) (s : List ℕ) → (captured o (headed o e s) ≡ value_of e.here)
    × ((drop record_size (headed o e s) ≡ s) × (length (headed o e s) ≡ record_size + length s))
header Little e s = (refl, (refl, omega arith))
header Big e s = (refl, (refl, omega arith))

module _ (o : Order) where
  pub read_back : (es : List Entry) → Right es → records_of o (written o es) ≡ record { packets = map (λ (e : Entry). e.bytes) es; rest = [] }
  unfolding records_from
  read_back [] h = refl
  read_back (e ∷ es) h =
      let n = length e.bytes in
      let t = written o es in
      let s = headed o e (e.bytes ++ t) in
      let k = header o e (e.bytes ++ t) in
      let first : record_of o s ≡ Packet n =
      packet o s
      (record { said = k.0 ∙ h.0.0; small = h.0.1; there = omega (arith, k.1.1, length-append e.bytes t) }) in
      let behind : drop (record_size + n) s ≡ t = sym (drop-drop n record_size s) ∙ ap (drop n) k.1.0 ∙ drop-append_seam e.bytes t in
      let bytes : take n (drop record_size s) ≡ e.bytes = ap (take n) k.1.0 ∙ take-append_seam e.bytes t in
      packet-first o s first
      ∙ ap (λ (p : List ℕ). joined p (records_of o (drop (record_size + n) s))) bytes
      ∙ ap (λ (u : List ℕ). joined e.bytes (records_of o u)) behind
      ∙ ap (joined e.bytes) (read_back es h.1)

pub twins : (es : List Entry) → Right es → records_of Big (written Big es) ≡ records_of Little (written Little es)
twins es h = read_back Big es h ∙ sym (read_back Little es h)
