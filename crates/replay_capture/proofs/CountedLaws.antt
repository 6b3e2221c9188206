-- The totals with one packet more, field by field, are what `added` says of a report of one run.
use Rattle.std.proofs.Common.{◌≡◌, ℕ, ◌+◌, ◌%◌, ◌^◌, ◌<◌, Bool, true, false, not, eqb, List, [], ◌∷◌, sym, refl, ap, ◌∙◌, add-zero, mod-eq_of_lt, arith}
use Rattle.base.specs.Pick.{pick}
use Rattle.replay.specs.declared.Ended.{Ended}
use Rattle.replay.specs.declared.Ended.TheVariants as ended
use Rattle.replay.specs.declared.Totals.{Totals}
use Rattle.replay.specs.Run.{Run}
use Rattle.replay.specs.Report.{plus, added, report_of}
use Rattle.replay_capture.specs.Counted.{totals_of, exited_with, counted, one}

-- totals are numbers of 64 bits
pub record Words (t : Totals) : Type 0 where
  pub packets-fit : t.packets < 2 ^ 64
  pub kept-fit : t.kept < 2 ^ 64
  pub dropped-fit : t.dropped < 2 ^ 64
  pub step-limit-fit : t.step_limit < 2 ^ 64
  pub access-fit : t.access < 2 ^ 64
  pub no-slot-fit : t.no_slot < 2 ^ 64

-- nothing added
none : {x : ℕ} → x < 2 ^ 64 → x ≡ plus x 0
none {x} h = omega arith

module _ (t : Totals) (w : Words t) where
  pub counted-one : (e : Ended) → counted t e ≡ added t (one e)
  counted-one (ended.Exit r0) = by (eqb r0 0)
    where
      by : (u : Bool)
          → let x =
          pick u (totals_of t.packets t.kept (plus t.dropped 1) t.step_limit t.access t.no_slot)
          (totals_of t.packets (plus t.kept 1) t.dropped t.step_limit t.access t.no_slot) in
          totals_of (plus x.packets 1) x.kept x.dropped x.step_limit x.access x.no_slot
          ≡ totals_of (plus t.packets 1) (plus t.kept (pick (not u) 1 0)) (plus t.dropped (pick u 1 0)) (plus t.step_limit 0)
          (plus t.access 0) (plus t.no_slot 0)
      by true = rw (← none w.kept-fit, ← none w.step-limit-fit, ← none w.access-fit, ← none w.no-slot-fit)
      by false = rw (← none w.dropped-fit, ← none w.step-limit-fit, ← none w.access-fit, ← none w.no-slot-fit)
  counted-one ended.StepLimit = rw (← none w.kept-fit, ← none w.dropped-fit, ← none w.access-fit, ← none w.no-slot-fit)
  counted-one ended.Access = rw (← none w.kept-fit, ← none w.dropped-fit, ← none w.step-limit-fit, ← none w.no-slot-fit)
  counted-one ended.NoSlot = rw (← none w.kept-fit, ← none w.dropped-fit, ← none w.step-limit-fit, ← none w.access-fit)

-- a report of one run adds what its end adds
pub added-run : (t : Totals) (r : Run) → added t (report_of (r ∷ [])) ≡ added t (one r.how)
added-run t r = rw (add-zero, add-zero, add-zero, add-zero, add-zero)
