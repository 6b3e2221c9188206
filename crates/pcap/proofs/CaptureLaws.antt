-- The laws of specs/Capture.antt. What each answer of `record_of` takes (`is-end`, `is-torn`, `is-too-long`, `is_cut`, `packet`), and what a packet
-- tells (`whole`, `bounds`, `packet-length`). The fuel plays no part (`more-fuel`), so that the records of bytes are the first and those of what
-- is behind it (`unfolded`, `packet-first`, `nothing-first`), and what holds of all is shown record by record (`each-record`): what is left is a
-- suffix (`rest-suffix`) that begins with no whole record (`rest-stops`, `rest-unread`), and no packet is too long (`packets-short`).
use mathlib.Core.Path.{◌≡◌, refl, ap, ◌∙◌}
use mathlib.Core.Bool.{Bool, true, false}
use mathlib.Core.List.{List, [], ◌∷◌, ◌++◌}
use Prim.Native.Nat.{ℕ, zero, suc, ◌+◌, ◌-◌, ◌≤◌, ◌<◌}
use native.Mathlib.Omega.{arith}
use lib.Dec.{ltb, eqb}
use lib.ListN.{length, take, drop, length-drop}
use lib.Seq.{drop-drop, length-take-le}
use borrow.Author.Tests.{ltb-false, lt-ltb, le-ltb, eq-eqb, ne_eqb}
use Rattle.base.specs.Pick.{pick}
use Rattle.pcap.specs.declared.Order.{Order}
use Rattle.pcap.specs.declared.Record.{Record}
use Rattle.pcap.specs.declared.Record.TheVariants.{End, Packet, Partial, TooLong}
use Rattle.pcap.specs.Capture.{record_size, longest_packet, captured, record_of, Records, joined, behind, records_from, records_of}

-- A whole record, whose packet has n bytes.
pub record Whole (o : Order) (s : List ℕ) (n : ℕ) : Type 0 where
  pub said : captured o s ≡ n
  pub small : n ≤ longest_packet
  pub there : record_size + n ≤ length s

-- the answer of the four tests is a packet only where none of them holds
none-holds : (a b c d : Bool) (m n : ℕ) → pick a End (pick b Partial (pick c TooLong (pick d Partial (Packet m)))) ≡ Packet n
    → (c ≡ false) × ((d ≡ false) × (m ≡ n))
none-holds true b c d m n e = let z : ◌≡◌ {A = ℕ} 0 1 = cc in absurd (omega arith)
none-holds false true c d m n e = let z : ◌≡◌ {A = ℕ} 0 1 = cc in absurd (omega arith)
none-holds false false true d m n e = let z : ◌≡◌ {A = ℕ} 0 1 = cc in absurd (omega arith)
none-holds false false false true m n e = let z : ◌≡◌ {A = ℕ} 0 1 = cc in absurd (omega arith)
none-holds false false false false m n e = (refl, (refl, cc))

-- THE ANSWERS, each by what it takes.
module _ (o : Order) (s : List ℕ) where
  pub is-end : length s ≡ 0 → record_of o s ≡ End
  unfolding record_of
  is-end e = rw (eq-eqb (length s) 0 e)

  pub is-torn : 0 < length s → length s < record_size → record_of o s ≡ Partial
  unfolding record_of
  is-torn some h = rw (ne_eqb (length s) 0 (λ e. omega arith), lt-ltb (length s) record_size h)

  -- what the answer is where a header is there
  headed : record_size ≤ length s → record_of o s
      ≡ pick (ltb longest_packet (captured o s)) TooLong
      (pick (ltb (length s) (record_size + captured o s)) Partial (Packet (captured o s)))
  unfolding record_of
  headed h = rw (ne_eqb (length s) 0 (λ e. omega arith), le-ltb (length s) record_size h)

  pub is-too-long : record_size ≤ length s → longest_packet < captured o s → record_of o s ≡ TooLong
  is-too-long header h = headed header ∙ rw (lt-ltb longest_packet (captured o s) h)

  pub is_cut : record_size ≤ length s → captured o s ≤ longest_packet → length s < record_size + captured o s → record_of o s ≡ Partial
  is_cut header h few = headed header ∙ rw (le-ltb longest_packet (captured o s) h, lt-ltb (length s) (record_size + captured o s) few)

module _ (o : Order) (s : List ℕ) {n : ℕ} where
  pub packet : Whole o s n → record_of o s ≡ Packet n
  packet w =
      let header : record_size ≤ length s = omega (arith, w.there) in
      headed o s header ∙ rw (w.said, le-ltb longest_packet n w.small, le-ltb (length s) (record_size + n) w.there)

  pub whole : record_of o s ≡ Packet n → Whole o s n
  unfolding record_of
  whole e =
      let h =
      none-holds (eqb (length s) 0) (ltb (length s) record_size) (ltb longest_packet (captured o s))
      (ltb (length s) (record_size + captured o s)) (captured o s) n e in
      record {
        said = h.1.1;
        small = rw h.1.1 at (ltb-false longest_packet (captured o s) h.0);
        there = rw h.1.1 at (ltb-false (length s) (record_size + captured o s) h.1.0);
      }

  pub bounds : record_of o s ≡ Packet n → (n ≤ longest_packet) × (record_size + n ≤ length s)
  bounds e = let w = whole e in (w.small, w.there)

-- THE FUEL. What is behind a record is shorter, so that two readings of it need to agree there alone.
module _ (o : Order) where
  shorter : (s : List ℕ) (r : Record) → record_of o s ≡ r → (f g : List ℕ → Records)
      → ((t : List ℕ) → length t + record_size ≤ length s → f t ≡ g t) → behind s r f ≡ behind s r g
  shorter s End e f g h = refl
  shorter s Partial e f g h = refl
  shorter s TooLong e f g h = refl
  shorter s (Packet n) e f g h =
      ap (joined (take n (drop record_size s)))
      (h (drop (record_size + n) s) (simp length-drop (omega (arith, (whole o s e).there))))

  same : (f g : ℕ) (s : List ℕ) → length s ≤ f → length s ≤ g → records_from f o s ≡ records_from g o s
  unfolding records_from record_of
  same zero zero s hf hg = refl
  same zero (suc g) [] hf hg = refl
  same zero (suc g) (a ∷ s) hf hg = absurd (omega (arith, hf))
  same (suc f) zero [] hf hg = refl
  same (suc f) zero (a ∷ s) hf hg = absurd (omega (arith, hg))
  same (suc f) (suc g) s hf hg =
      shorter s (record_of o s) refl (λ t. records_from f o t) (λ t. records_from g o t) (λ t h. same f g t (omega arith) (omega arith))

  pub more-fuel : (fuel : ℕ) (s : List ℕ) → length s ≤ fuel → records_from fuel o s ≡ records_of o s
  more-fuel fuel s h = same fuel (length s) s h (omega arith)

  -- the records of bytes are the first, if it is whole, and those of what is behind it
  pub unfolded : (s : List ℕ) {r : Record} → record_of o s ≡ r → records_of o s ≡ behind s r (λ t. records_of o t)
  unfolding records_from record_of
  unfolded [] {r} e = rw (← e)
  unfolded (a ∷ s) {r} e =
      rw e
      (shorter (a ∷ s) r e (λ t. records_from (length s) o t) (λ t. records_of o t) (λ t h. more-fuel (length s) t (omega arith)))

  pub packet-first : (s : List ℕ) {n : ℕ} → record_of o s ≡ Packet n
      → records_of o s ≡ joined (take n (drop record_size s)) (records_of o (drop (record_size + n) s))
  packet-first s e = unfolded s e

-- the answers that no packet stands for
abbrev pub Stops : Record → Type 0
Stops End = Unit {0}
Stops (Packet n) = ⊥
Stops Partial = Unit {0}
Stops TooLong = Unit {0}

abbrev pub unread : List ℕ → Records
unread s = record { packets = []; rest = s }

stopped : (s : List ℕ) (k : List ℕ → Records) (r : Record) → Stops r → behind s r k ≡ unread s
stopped s k End h = refl
stopped s k Partial h = refl
stopped s k TooLong h = refl
stopped s k (Packet n) h = absurd h

-- packets that were read before others
abbrev pub ahead : List (List ℕ) → Records → Records
ahead ps r = record { packets = ps ++ r.packets; rest = r.rest }

-- t is what is behind so many bytes of s
pub record Suffix (t s : List ℕ) : Type 0 where
  pub short : length t ≤ length s
  pub from : t ≡ drop (length s - length t) s

suffix_refl : (s : List ℕ) → Suffix s s
suffix_refl s = let z : length s - length s ≡ 0 = omega arith in record { short = omega arith; from = rw z }

pub suffix-drop : {t : List ℕ} (k : ℕ) (s : List ℕ) → k ≤ length s → Suffix t (drop k s) → Suffix t s
suffix-drop {t} k s h f =
    let short : length t + k ≤ length s = omega (arith, f.short, length-drop k s) in
    let all : k + (length (drop k s) - length t) ≡ length s - length t = rw length-drop (omega arith) in
    record { short = omega arith; from = f.from ∙ drop-drop (length (drop k s) - length t) k s ∙ ap (λ (m : ℕ). drop m s) all }

-- every packet has at most longest_packet bytes
abbrev pub Short : List (List ℕ) → Type 0
Short [] = Unit {0}
Short (p ∷ ps) = (length p ≤ longest_packet) × Short ps

module _ (o : Order) where
  pub nothing-first : (s : List ℕ) (r : Record) → record_of o s ≡ r → Stops r → records_of o s ≡ unread s
  nothing-first s r e h = unfolded o s e ∙ stopped s (λ t. records_of o t) r h

  pub packet-length : (s : List ℕ) {n : ℕ} → record_of o s ≡ Packet n → length (take n (drop record_size s)) ≡ n
  packet-length s {n} e = length-take-le n (drop record_size s) (simp length-drop (omega (arith, (whole o s e).there)))

  -- WHAT HOLDS OF ALL RECORDS: of bytes that begin with none, and of a packet if it holds of what is behind it.
  module _ (P : List ℕ → Records → Type 0) (none : (s : List ℕ) → Stops (record_of o s) → P s (unread s))
      (first :
      (s : List ℕ) (n : ℕ) → record_of o s ≡ Packet n → P (drop (record_size + n) s) (records_of o (drop (record_size + n) s))
      → P s (joined (take n (drop record_size s)) (records_of o (drop (record_size + n) s)))) where
    by_first : (s : List ℕ) (r : Record) → record_of o s ≡ r → ((t : List ℕ) → length t + record_size ≤ length s → P t (records_of o t))
        → P s (records_of o s)
    by_first s (Packet n) e h =
        rw (packet-first o s e)
        (first s n e (h (drop (record_size + n) s) (simp length-drop (omega (arith, (whole o s e).there)))))
    by_first s End e h = rw (nothing-first s End e tt) (none s (rw e tt))
    by_first s Partial e h = rw (nothing-first s Partial e tt) (none s (rw e tt))
    by_first s TooLong e h = rw (nothing-first s TooLong e tt) (none s (rw e tt))

    by_length : (fuel : ℕ) (s : List ℕ) → length s ≤ fuel → P s (records_of o s)
    by_length zero s l = by_first s (record_of o s) refl (λ t h. absurd (omega arith))
    by_length (suc fuel) s l = by_first s (record_of o s) refl (λ t h. by_length fuel t (omega arith))

    pub each-record : (s : List ℕ) → P s (records_of o s)
    each-record s = by_length (length s) s (omega arith)

  pub rest-suffix : (s : List ℕ) → Suffix (records_of o s).rest s
  rest-suffix =
      each-record (λ s r. Suffix r.rest s) (λ s h. suffix_refl s)
      (λ s n e h. suffix-drop (record_size + n) s (whole o s e).there h)

  pub rest-stops : (s : List ℕ) → Stops (record_of o (records_of o s).rest)
  rest-stops = each-record (λ s r. Stops (record_of o r.rest)) (λ s h. h) (λ s n e h. h)

  pub rest-unread : (s : List ℕ) → records_of o (records_of o s).rest ≡ unread (records_of o s).rest
  rest-unread s = nothing-first (records_of o s).rest (record_of o (records_of o s).rest) refl (rest-stops s)

  pub packets-short : (s : List ℕ) → Short (records_of o s).packets
  packets-short =
      each-record (λ s r. Short r.packets) (λ s h. tt)
      (λ s n e h. (let l = packet-length s e in omega (arith, (whole o s e).small), h))
