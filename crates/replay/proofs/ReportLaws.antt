-- The laws of specs/Report.antt. Every packet is counted once (`fates`), and so is every slot that ran (`slots-add-up`, `counts-add-up`). A loop
-- may add packet by packet, to the totals (`added-append`, `added-packet`) and to the table (`tallied-append`, `tallied-packet`), of which each entry
-- grows by how often its slot ran (`tallied-at`). No packet sees another (`alone`, `alone_at`, `alone_among`). Which answer comes first
-- (`translator-first`, `slots-then`, `capture-last`); and of all that is answered the sums hold (`sound`).
use mathlib.Core.Path.{◌≡◌, refl, ap, ◌∙◌, sym}
use mathlib.Core.Bool.{Bool, true, false, not}
use mathlib.Core.List.{List, [], ◌∷◌, ◌++◌, append_assoc, append-nil}
use Prim.Native.Nat.{ℕ, zero, suc, ◌+◌, ◌^◌, ◌≤◌, ◌<◌}
use native.Mathlib.Omega.{arith}
use lib.Dec.{ltb, eqb}
use lib.ListN.{length, get_or, set, drop, length-append, length-set, get_or-map, get_or-eq_default}
use lib.Seq.{get_or-set_same, get_or-set_other}
use borrow.Author.Tests.{eqb-true, eqb-false, ltb-true, ltb-false, ne_eqb}
use Rattle.base.specs.Pick.{pick}
use Rattle.jit.specs.declared.Refusal.{Refusal as Untranslated}
use Rattle.jit.specs.Translation as translation
use Rattle.jit.specs.Translation.{Inputs, translation_of, slots_of}
use Rattle.pcap.specs.Capture.{records_of, header_of, header_size}
use Rattle.std.specs.Prelude.{Option, Some, None}
use Rattle.pcap.specs.declared.Order.{Order}
use Rattle.replay.specs.declared.Ended.{Ended}
use Rattle.replay.specs.declared.Ended.TheVariants as ended
use Rattle.replay.specs.declared.Refusal.{Refusal}
use Rattle.replay.specs.declared.Refusal.TheVariants.{Translation}
use Rattle.replay.specs.declared.Totals.{Totals}
use Rattle.replay.specs.Run.{Run, run_of}
use Rattle.replay.specs.Report.{how_many, is_kept, is_dropped, is_step_limit, is_access, is_no_slot, times, slots_run}
use Rattle.replay.specs.Report.{Report, report_of, runs_of, plus, tallied, added}
use Rattle.replay.specs.Report.{Verdict, runs, refused, first_from, verdict_of}
use Rattle.replay.specs.Report.{Replay, whole, cut, no, unless_left, of_capture, unless_not, replay_of}
use Rattle.replay.proofs.RunLaws.{Below, run-below}

-- EVERY PACKET IS COUNTED ONCE. A run ends in one of the five ways.
one_way : (e : Ended)
    → pick (is_kept e) 1 0 + pick (is_dropped e) 1 0 + pick (is_step_limit e) 1 0 + pick (is_access e) 1 0 + pick (is_no_slot e) 1 0 ≡ 1
one_way (ended.Exit r0) = by (eqb r0 0)
  where
    by : (t : Bool) → pick (not t) 1 0 + pick t 1 0 + 0 + 0 + 0 ≡ 1
    by true = refl
    by false = refl
one_way ended.StepLimit = refl
one_way ended.Access = refl
one_way ended.NoSlot = refl

abbrev pub Fates : Report → Type 0
Fates r = r.packets ≡ r.kept + r.dropped + r.step_limit + r.access + r.no_slot

pub fates : (rs : List Run) → Fates (report_of rs)
fates [] = refl
fates (r ∷ rs) = omega (arith, one_way r.how, fates rs)

-- EVERY SLOT THAT RAN IS COUNTED ONCE.
abbrev pub sum_below : (ℕ → ℕ) → (n : ℕ) → ℕ
sum_below f zero = 0
sum_below f (suc n) = sum_below f n + f n

sum-none : (n : ℕ) → sum_below (λ k. 0) n ≡ 0
sum-none zero = refl
sum-none (suc n) = omega (arith, sum-none n)

sum_both : (f g : ℕ → ℕ) (n : ℕ) → sum_below (λ k. f k + g k) n ≡ sum_below f n + sum_below g n
sum_both f g zero = refl
sum_both f g (suc n) = omega (arith, sum_both f g n)

-- a slot is found once below whatever is above it, and not at all before it
sum-one-before : (s n : ℕ) → n ≤ s → sum_below (λ k. pick (eqb s k) 1 0) n ≡ 0
sum-one-before s zero h = refl
sum-one-before s (suc n) h = rw (sum-one-before s n (omega arith), ne_eqb s n (λ e. omega arith))

sum-one-step : (s n : ℕ) → s < suc n → (s < n → sum_below (λ k. pick (eqb s k) 1 0) n ≡ 1) → (t : Bool) → eqb s n ≡ t
    → sum_below (λ k. pick (eqb s k) 1 0) n + pick t 1 0 ≡ 1
sum-one-step s n h f true e = rw (sum-one-before s n (omega (arith, eqb-true s n e)))
sum-one-step s n h f false e = let g = eqb-false s n e in rw (f (omega (arith, g)))

sum_one : (s n : ℕ) → s < n → sum_below (λ k. pick (eqb s k) 1 0) n ≡ 1
sum_one s zero h = absurd (omega (arith, h))
sum_one s (suc n) h = sum-one-step s n h (sum_one s n) (eqb s n) refl

pub slots-add-up : (n : ℕ) (ran : List ℕ) → Below n ran → sum_below (λ k. times k ran) n ≡ length ran
slots-add-up n [] b = sum-none n
slots-add-up n (s ∷ ran) b =
    sum_both (λ k. pick (eqb s k) 1 0) (λ k. times k ran) n ∙ rw (sum_one s n b.0, slots-add-up n ran b.1) (omega arith)

below-append : (n : ℕ) (a b : List ℕ) → Below n a → Below n b → Below n (a ++ b)
below-append n [] b h k = k
below-append n (s ∷ a) b h k = (h.0, below-append n a b h.1 k)

pub runs-below : (program : List ℕ) (packets : List (List ℕ)) → Below (slots_of program) (slots_run (runs_of program packets))
runs-below program [] = tt
runs-below program (p ∷ packets) =
    below-append (slots_of program) (run_of program p).ran (slots_run (runs_of program packets)) (run-below program p) (runs-below program packets)

abbrev pub AddUp : (n : ℕ) → Report → Type 0
AddUp n r = sum_below (λ k. times k r.ran) n ≡ length r.ran

pub counts-add-up : (program : List ℕ) (packets : List (List ℕ)) → AddUp (slots_of program) (report_of (runs_of program packets))
counts-add-up program packets = slots-add-up (slots_of program) (slots_run (runs_of program packets)) (runs-below program packets)

-- WHAT A LOOP ADDS, PACKET BY PACKET.
pub how-many-append : (t : Ended → Bool) (rs qs : List Run) → how_many t (rs ++ qs) ≡ how_many t rs + how_many t qs
how-many-append t [] qs = omega arith
how-many-append t (r ∷ rs) qs = omega (arith, how-many-append t rs qs)

pub slots_run-append : (rs qs : List Run) → slots_run (rs ++ qs) ≡ slots_run rs ++ slots_run qs
slots_run-append [] qs = refl
slots_run-append (r ∷ rs) qs = rw (slots_run-append rs qs, append_assoc)

-- two reports as one
abbrev pub both : Report → Report → Report
both a b =
    record {
      packets = a.packets + b.packets;
      kept = a.kept + b.kept;
      dropped = a.dropped + b.dropped;
      step_limit = a.step_limit + b.step_limit;
      access = a.access + b.access;
      no_slot = a.no_slot + b.no_slot;
      ran = a.ran ++ b.ran;
    }

pub report_of-append : (rs qs : List Run) → report_of (rs ++ qs) ≡ both (report_of rs) (report_of qs)
report_of-append rs qs =
    rw (
      length-append rs qs,
      how-many-append is_kept rs qs,
      how-many-append is_dropped rs qs,
      how-many-append is_step_limit rs qs,
      how-many-append is_access rs qs,
      how-many-append is_no_slot rs qs,
      slots_run-append rs qs,
    )

plus-plus : (t a b : ℕ) → plus (plus t a) b ≡ plus t (a + b)
plus-plus t a b = omega arith

pub added-both : (t : Totals) (a b : Report) → added (added t a) b ≡ added t (both a b)
added-both t a b =
    rw (
      plus-plus t.packets a.packets b.packets,
      plus-plus t.kept a.kept b.kept,
      plus-plus t.dropped a.dropped b.dropped,
      plus-plus t.step_limit a.step_limit b.step_limit,
      plus-plus t.access a.access b.access,
      plus-plus t.no_slot a.no_slot b.no_slot,
    )

pub added-append : (t : Totals) (rs qs : List Run) → added (added t (report_of rs)) (report_of qs) ≡ added t (report_of (rs ++ qs))
added-append t rs qs = added-both t (report_of rs) (report_of qs) ∙ ap (added t) (sym (report_of-append rs qs))

pub added-one : (t : Totals) (rs : List Run) (r : Run)
    → added t (report_of (rs ++ (r ∷ []))) ≡ added (added t (report_of rs)) (report_of (r ∷ []))
added-one t rs r = sym (added-append t rs (r ∷ []))

-- THE TABLE OF COUNTS.
pub tallied-append : (a b counts : List ℕ) → tallied (a ++ b) counts ≡ tallied b (tallied a counts)
unfolding tallied
tallied-append [] b counts = refl
tallied-append (s ∷ a) b counts = tallied-append a b (set counts s (plus (get_or counts s 0) 1))

pub tallied-one : (a : List ℕ) (slot : ℕ) (counts : List ℕ)
    → tallied (a ++ (slot ∷ [])) counts ≡ set (tallied a counts) slot (plus (get_or (tallied a counts) slot 0) 1)
unfolding tallied
tallied-one a slot counts = tallied-append a (slot ∷ []) counts

pub tallied-runs : (rs qs : List Run) (counts : List ℕ) → tallied (slots_run (rs ++ qs)) counts ≡ tallied (slots_run qs) (tallied (slots_run rs) counts)
tallied-runs rs qs counts = rw (slots_run-append rs qs) (tallied-append (slots_run rs) (slots_run qs) counts)

pub tallied-length : (ran counts : List ℕ) → length (tallied ran counts) ≡ length counts
unfolding tallied
tallied-length [] counts = refl
tallied-length (s ∷ ran) counts = tallied-length ran (set counts s (plus (get_or counts s 0) 1)) ∙ length-set counts s (plus (get_or counts s 0) 1)

-- one slot adds one to its entry, and nothing to another
counted : (counts : List ℕ) (s k : ℕ) → k < length counts → get_or counts k 0 < 2 ^ 64
    → get_or (set counts s (plus (get_or counts s 0) 1)) k 0 ≡ plus (get_or counts k 0) (pick (eqb s k) 1 0)
counted counts s k h w = by (eqb s k) refl
  where
    by : (t : Bool) → eqb s k ≡ t → get_or (set counts s (plus (get_or counts s 0) 1)) k 0 ≡ plus (get_or counts k 0) (pick t 1 0)
    by true e = let q : s ≡ k = eqb-true s k e in rw q (get_or-set_same counts k (plus (get_or counts k 0) 1) 0 h)
    by false e = get_or-set_other counts s k (plus (get_or counts s 0) 1) 0 (λ q. eqb-false s k e (sym q)) ∙ omega arith

-- each entry has what it had and how often its slot ran, in 64 bits
pub tallied-at : (ran counts : List ℕ) (k : ℕ) → k < length counts → get_or counts k 0 < 2 ^ 64
    → get_or (tallied ran counts) k 0 ≡ plus (get_or counts k 0) (times k ran)
unfolding tallied
tallied-at [] counts k h w = omega arith
tallied-at (s ∷ ran) counts k h w =
    let v = plus (get_or counts s 0) 1 in
    let e = counted counts s k h w in
    tallied-at ran (set counts s v) k (rw (length-set counts s v) h) (rw e (omega arith))
    ∙ rw e (plus-plus (get_or counts k 0) (pick (eqb s k) 1 0) (times k ran))

-- every entry stays one of 64 bits
pub tallied-words : (ran counts : List ℕ) → ((k : ℕ) → get_or counts k 0 < 2 ^ 64) → (k : ℕ) → get_or (tallied ran counts) k 0 < 2 ^ 64
tallied-words ran counts w k = by (ltb k (length counts)) refl
  where
    by : (t : Bool) → ltb k (length counts) ≡ t → get_or (tallied ran counts) k 0 < 2 ^ 64
    by true e = rw (tallied-at ran counts k (ltb-true k (length counts) e) (w k)) (omega arith)
    by false e =
        let l : length (tallied ran counts) ≤ k = rw (tallied-length ran counts) (ltb-false k (length counts) e) in
        rw (get_or-eq_default (tallied ran counts) 0 l) (omega arith)

-- NO PACKET SEES ANOTHER.
pub alone : (program : List ℕ) (ps qs : List (List ℕ)) → runs_of program (ps ++ qs) ≡ runs_of program ps ++ runs_of program qs
alone program [] qs = refl
alone program (p ∷ ps) qs = ap (λ (rs : List Run). run_of program p ∷ rs) (alone program ps qs)

pub alone_at : (program : List ℕ) (ps : List (List ℕ)) (k : ℕ) → get_or (runs_of program ps) k (run_of program []) ≡ run_of program (get_or ps k [])
alone_at program ps k = get_or-map (run_of program) ps k []

-- the run of a packet, whatever stands before it and behind it
pub alone_among : (program : List ℕ) (ps : List (List ℕ)) (p : List ℕ) (qs : List (List ℕ)) (d : Run)
    → get_or (runs_of program (ps ++ p ∷ qs)) (length ps) d ≡ run_of program p
alone_among program [] p qs d = refl
alone_among program (q ∷ ps) p qs d = alone_among program ps p qs d

-- A LOOP OVER PACKETS: one more, to the totals and to the table.
module _ (program : List ℕ) (ps : List (List ℕ)) (p : List ℕ) where
  pub added-packet : (t : Totals)
      → added t (report_of (runs_of program (ps ++ (p ∷ [])))) ≡ added (added t (report_of (runs_of program ps))) (report_of (run_of program p ∷ []))
  added-packet t = ap (λ (rs : List Run). added t (report_of rs)) (alone program ps (p ∷ [])) ∙ added-one t (runs_of program ps) (run_of program p)

  pub tallied-packet : (counts : List ℕ)
      → tallied (slots_run (runs_of program (ps ++ (p ∷ [])))) counts ≡ tallied (run_of program p).ran (tallied (slots_run (runs_of program ps)) counts)
  tallied-packet counts =
      ap (λ (rs : List Run). tallied (slots_run rs) counts) (alone program ps (p ∷ []))
      ∙ tallied-runs (runs_of program ps) (run_of program p ∷ []) counts
      ∙ ap (λ (ran : List ℕ). tallied ran (tallied (slots_run (runs_of program ps)) counts)) (append-nil (run_of program p).ran)

-- WHICH ANSWER COMES FIRST: the translator's refusal, then a slot that is not modelled, then the capture.
module _ (x : Inputs) (capture : List ℕ) where
  pub translator-first : {r : Untranslated} → translation_of x ≡ translation.no r → replay_of x capture ≡ no (Translation r)
  unfolding replay_of verdict_of
  translator-first e = rw e

  module _ {code locations fields targets : List ℕ} (e : translation_of x ≡ translation.yes code locations fields targets) where
    pub slots-then : {r : Refusal} → first_from x.filter.program (slots_of x.filter.program) 0 ≡ refused r → replay_of x capture ≡ no r
    unfolding replay_of verdict_of
    slots-then f = rw (e, f)

    pub capture-last : first_from x.filter.program (slots_of x.filter.program) 0 ≡ runs
        → replay_of x capture ≡ of_capture x.filter.program capture (header_of capture)
    unfolding replay_of verdict_of
    capture-last f = rw (e, f)

-- THE SAME OF WHAT IS ANSWERED: of the report of a capture, and of that before a bad record.
abbrev pub Told : (Report → Type 0) → Replay → Type 0
Told P (whole r) = P r
Told P (cut r) = P r
Told P (no r) = Unit {0}

pub record Sound (program : List ℕ) (r : Report) : Type 0 where
  pub all-packets : Fates r
  pub all_slots : AddUp (slots_of program) r

module _ (program : List ℕ) (P : Report → Type 0) (h : (packets : List (List ℕ)) → P (report_of (runs_of program packets))) where
  told-left : (rest : List ℕ) (packets : List (List ℕ)) → Told P (unless_left rest (report_of (runs_of program packets)))
  told-left [] packets = h packets
  told-left (b ∷ rest) packets = h packets

  told-capture : (capture : List ℕ) (o : Option Order) → Told P (of_capture program capture o)
  told-capture capture None = tt
  told-capture capture (Some o) = let r = records_of o (drop header_size capture) in told-left r.rest r.packets

told-unless : (P : Report → Type 0) (v : Verdict) (p : Replay) → Told P p → Told P (unless_not v p)
told-unless P runs p h = h
told-unless P (refused r) p h = tt

pub sound : (x : Inputs) (capture : List ℕ) → Told (Sound x.filter.program) (replay_of x capture)
unfolding replay_of
sound x capture =
    let program = x.filter.program in
    told-unless (Sound program) (verdict_of x) (of_capture program capture (header_of capture))
    (told-capture program (Sound program)
    (λ packets. record { all-packets = fates (runs_of program packets); all_slots = counts-add-up program packets }) capture (header_of capture))
