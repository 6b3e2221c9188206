-- Reading a capture through a window. At a place of the window the next record is taken (`packet-at`, `there-at`), and with it a loop's
-- invariant goes on (`start-at`, `taken_at`, `done_at`): the records of the window are the packets that were taken and the records of what is
-- behind the place. Window behind window gives what the whole gives (`window`).
use mathlib.Core.Path.{◌≡◌, refl, ap, ◌∙◌}
use mathlib.Core.List.{List, [], ◌∷◌, ◌++◌, append_assoc, append-nil}
use Prim.Native.Nat.{ℕ, ◌+◌, ◌≤◌}
use native.Mathlib.Omega.{arith}
use lib.ListN.{length, take, drop, length-append, length-drop, get_or-append}
use lib.Seq.{drop-drop, take-append-le, drop-append-le}
use Rattle.pcap.specs.declared.Order.{Order}
use Rattle.pcap.specs.declared.Order.TheVariants.{Little, Big}
use Rattle.pcap.specs.declared.Record.{Record}
use Rattle.pcap.specs.declared.Record.TheVariants.{Packet}
use Rattle.pcap.specs.Capture.{number_at, record_size, record_of, joined, records_of}
use Rattle.pcap.proofs.CaptureLaws.{whole, packet, Stops, ahead, packet-first, nothing-first, each-record}

-- A PLACE.
module _ (o : Order) (w : List ℕ) (at : ℕ) where
  pub packet-at : {n : ℕ} → record_of o (drop at w) ≡ Packet n
      → records_of o (drop at w) ≡ joined (take n (drop (at + record_size) w)) (records_of o (drop (at + record_size + n) w))
  packet-at {n} e =
      let same : at + (record_size + n) ≡ at + record_size + n = omega arith in
      packet-first o (drop at w) e
      ∙ ap (λ (t : List ℕ). joined (take n t) (records_of o (drop (record_size + n) (drop at w)))) (drop-drop record_size at w)
      ∙ ap (λ (t : List ℕ). joined (take n (drop (at + record_size) w)) (records_of o t))
      (drop-drop (record_size + n) at w ∙ ap (λ (k : ℕ). drop k w) same)

  pub there-at : {n : ℕ} → record_of o (drop at w) ≡ Packet n → at + record_size + n ≤ length w
  there-at e = omega (arith, (whole o (drop at w) e).there, length-drop at w)

-- the invariant of a loop over a window: what was taken is ahead of what is behind the place
abbrev pub Taken : Order → (window : List ℕ) → (done : List (List ℕ)) → (at : ℕ) → Type 0
Taken o w done at = records_of o w ≡ ahead done (records_of o (drop at w))

module _ (o : Order) (w : List ℕ) where
  pub start-at : Taken o w [] 0
  start-at = refl

  module _ (done : List (List ℕ)) (at : ℕ) where
    pub taken_at : {n : ℕ} → Taken o w done at → record_of o (drop at w) ≡ Packet n
        → Taken o w (done ++ (take n (drop (at + record_size) w) ∷ [])) (at + record_size + n)
    taken_at t e = t ∙ ap (ahead done) (packet-at o w at e) ∙ simp append_assoc

    pub done_at : (r : Record) → Taken o w done at → record_of o (drop at w) ≡ r → Stops r
        → records_of o w ≡ record { packets = done; rest = drop at w }
    done_at r t e h = t ∙ ap (ahead done) (nothing-first o (drop at w) r e h) ∙ simp append-nil

-- THE WINDOW LAW. More bytes behind a whole record change nothing of it.
number_append : (o : Order) (a b : List ℕ) (at : ℕ) → at + 4 ≤ length a → number_at o (a ++ b) at ≡ number_at o a at
number_append Little a b at h =
    rw (
      get_or-append a b 0 at (omega arith),
      get_or-append a b 0 (at + 1) (omega arith),
      get_or-append a b 0 (at + 2) (omega arith),
      get_or-append a b 0 (at + 3) (omega arith),
    )
number_append Big a b at h =
    rw (
      get_or-append a b 0 at (omega arith),
      get_or-append a b 0 (at + 1) (omega arith),
      get_or-append a b 0 (at + 2) (omega arith),
      get_or-append a b 0 (at + 3) (omega arith),
    )

module _ (o : Order) where
  pub whole_append : (a b : List ℕ) {n : ℕ} → record_of o a ≡ Packet n → record_of o (a ++ b) ≡ Packet n
  whole_append a b {n} e =
      let w = whole o a e in
      packet o (a ++ b)
      (record {
        said = number_append o a b 8 (omega (arith, w.there)) ∙ w.said;
        small = w.small;
        there = rw length-append (omega (arith, w.there));
      })

  pub window : (a b : List ℕ) → records_of o (a ++ b)
      ≡ record {
        packets = (records_of o a).packets ++ (records_of o ((records_of o a).rest ++ b)).packets;
        rest = (records_of o ((records_of o a).rest ++ b)).rest;
      }
  window a b =
      each-record o (λ s r. records_of o (s ++ b) ≡ ahead r.packets (records_of o (r.rest ++ b))) (λ s h. refl)
      (λ s n e h.
      let w = whole o s e in
      let first : record_size ≤ length s = omega (arith, w.there) in
      let bytes : n ≤ length (drop record_size s) = simp length-drop (omega (arith, w.there)) in
      packet-first o (s ++ b) (whole_append s b e)
      ∙ rw (drop-append-le record_size s b first, drop-append-le (record_size + n) s b w.there, take-append-le n (drop record_size s) b bytes)
      (ap (joined (take n (drop record_size s))) h)) a
