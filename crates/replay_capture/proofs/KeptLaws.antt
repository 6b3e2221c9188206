-- The records of kept packets, one behind the other, in a window and in the buffer that they are put into.
use Rattle.std.proofs.Common.{◌≡◌, ℕ, ◌+◌, ◌-◌, ◌≤◌, Bool, true, false, List, [], ◌∷◌, ◌++◌, length, take, drop, sym, refl, ap, ◌∙◌, append_assoc, append-nil, add-zero, add_assoc, arith, length-append, length-drop, length-take, length-take-le, drop-drop, take_at, drop_at}
use lib.Seq.{drop-append-add, take-append_seam}
use Rattle.base.specs.Lists.{over}
use Rattle.base.specs.Pick.{pick}
use Rattle.pcap.specs.Capture.{record_size}
use Rattle.replay.specs.Run.{Run, run_of}
use Rattle.replay.specs.Report.{is_kept, runs_of}
use Rattle.replay_capture.specs.Windowed.{kept_in, copied}
use Rattle.replay_capture.specs.Going.{put_behind, piece}

-- how many bytes the records of packets have
abbrev pub span : List (List ℕ) → ℕ
span [] = 0
span (p ∷ ps) = record_size + length p + span ps

pub span_more : (ps : List (List ℕ)) (p : List ℕ) → span (ps ++ (p ∷ [])) ≡ span ps + (record_size + length p)
span_more [] p = omega arith
span_more (q ∷ ps) p = omega (arith, span_more ps p)

-- one packet more
pub kept_more : (program bytes : List ℕ) (ps : List (List ℕ)) (p : List ℕ)
    → kept_in program bytes (ps ++ (p ∷ []))
    ≡ kept_in program bytes ps ++ pick (is_kept (run_of program p).how) (take (record_size + length p) (drop (span ps) bytes)) []
kept_more program bytes [] p = append-nil (pick (is_kept (run_of program p).how) (take (record_size + length p) bytes) [])
kept_more program bytes (q ∷ ps) p =
    ap (λ (l : List ℕ). pick (is_kept (run_of program q).how) (take (record_size + length q) bytes) [] ++ l)
    (kept_more program (drop (record_size + length q) bytes) ps p)
    ∙ (sym (append_assoc (pick (is_kept (run_of program q).how) (take (record_size + length q) bytes) []) (kept_in program (drop (record_size + length q) bytes) ps) _)
    ∙ rw (drop-drop (span ps) (record_size + length q) bytes))

-- the records that are kept are no longer than all of them
pub kept-short : (program bytes : List ℕ) (ps : List (List ℕ)) → length (kept_in program bytes ps) ≤ span ps
kept-short program bytes [] = omega arith
kept-short program bytes (p ∷ ps) = by (is_kept (run_of program p).how) (kept-short program (drop (record_size + length p) bytes) ps)
  where
    by : (t : Bool) → length (kept_in program (drop (record_size + length p) bytes) ps) ≤ span ps
        → length (pick t (take (record_size + length p) bytes) [] ++ kept_in program (drop (record_size + length p) bytes) ps)
        ≤ record_size + length p + span ps
    by true h =
        let a = length-append (take (record_size + length p) bytes) (kept_in program (drop (record_size + length p) bytes) ps) in
        omega (arith, a, length-take (record_size + length p) bytes, h)
    by false h = omega (arith, h)

-- a list put behind those that a buffer holds
pub over-more : (ys zs l : List ℕ) → put_behind (over ys l) (length ys) zs ≡ over (ys ++ zs) l
over-more ys zs l =
    let d : drop (length ys + length zs) (ys ++ drop (length ys) l) ≡ drop (length ys + length zs) l =
    drop-append-add ys (drop (length ys) l) (length zs) ∙ drop-drop (length zs) (length ys) l in
    rw (take-append_seam ys (drop (length ys) l), d, length-append ys zs, append_assoc ys zs (drop (length ys + length zs) l))

pub over_none : (ys l : List ℕ) → over ys l ≡ over (ys ++ []) l
over_none ys l = ap (λ (k : List ℕ). over k l) (sym (append-nil ys))

-- copies, one run more
pub copied_more : (rs : List Run) (r : Run) (copy : List ℕ) → copied (rs ++ (r ∷ [])) copy ≡ over r.packet (copied rs copy)
copied_more [] r copy = refl
copied_more (q ∷ rs) r copy = copied_more rs r (over q.packet copy)

-- a part of a window
pub piece-length : (window : List ℕ) (at end : ℕ) → at ≤ end → end ≤ length window → length (piece window at end) ≡ end - at
piece-length window at end h g = length-take-le (end - at) (drop at window) (omega (arith, length-drop at window))
