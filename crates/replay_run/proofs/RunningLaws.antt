-- A run, turn by turn: what is still to be run comes to what the whole run comes to.
use Rattle.std.proofs.Common.{◌≡◌, ℕ, suc, ◌+◌, ◌-◌, ◌<◌, ◌≤◌, List, ◌∷◌, length, get_or, set, sym, refl, ap, ◌∙◌, arith, length-set}
use Rattle.replay.specs.declared.Ended.{Ended}
use Rattle.replay.specs.declared.Ended.TheVariants as ended
use Rattle.replay.specs.Memory.{State}
use Rattle.replay.specs.Run.{Run, run_from, step_limit, turn_at, goes, ends, absent, ran_too, ended_as}
use Rattle.replay.specs.Report.{tallied, plus}
use Rattle.replay.proofs.RunLaws.{limit-first, goes_on, ends_there, stops-there}
use Rattle.replay_run.specs.Running.{Left}

-- the counts with one slot more
abbrev pub bumped : (counts : List ℕ) → (slot : ℕ) → List ℕ
bumped counts slot = set counts slot (plus (get_or counts slot 0) 1)

-- a run of which so many slots are left, at a slot, comes to what the whole run does
pub record Onward (whole : Run) (counts₀ : List ℕ) (program : List ℕ) (slot left : ℕ) (s : State) (counts : List ℕ) : Type 0 where
  pub how : (run_from left program slot s).how ≡ whole.how
  pub ran : tallied (run_from left program slot s).ran counts ≡ tallied whole.ran counts₀
  pub packet : (run_from left program slot s).packet ≡ whole.packet

pub begin : (program : List ℕ) (slot left : ℕ) (s : State) (counts : List ℕ) → Onward (run_from left program slot s) counts program slot left s counts
begin program slot left s counts = record { how = refl; ran = refl; packet = refl }

module _ (whole : Run) (counts₀ program : List ℕ) (slot : ℕ) (s : State) (counts : List ℕ) where
  module _ (left : ℕ) (h : 0 < left) (on : Onward whole counts₀ program slot left s counts) where
    one_less : left ≡ suc (left - 1)
    one_less = omega arith

    pub after-goes : {next : ℕ} {t : State} → turn_at program slot s ≡ goes next t → Onward whole counts₀ program next (left - 1) t (bumped counts slot)
    unfolding tallied
    after-goes {next} {t} e =
        let r : run_from left program slot s ≡ ran_too slot (run_from (left - 1) program next t) =
        ap (λ (k : ℕ). run_from k program slot s) one_less ∙ goes_on program slot s (left - 1) e in
        record {
          how = sym (ap (λ (x : Run). x.how) r) ∙ on.how;
          ran = sym (ap (λ (x : Run). tallied x.ran counts) r) ∙ on.ran;
          packet = sym (ap (λ (x : Run). x.packet) r) ∙ on.packet;
        }

    pub after-end : {q : Ended} {t : State} → turn_at program slot s ≡ ends q t → Left whole counts₀ (bumped counts slot) t.packet q
    unfolding tallied
    after-end {q} {t} e =
        let r : run_from left program slot s ≡ ran_too slot (ended_as q t) =
        ap (λ (k : ℕ). run_from k program slot s) one_less ∙ ends_there program slot s (left - 1) e in
        record {
          how = sym (ap (λ (x : Run). x.how) r) ∙ on.how;
          counts_are = sym (ap (λ (x : Run). tallied x.ran counts) r) ∙ on.ran;
          packet_is = sym (ap (λ (x : Run). x.packet) r) ∙ on.packet;
        }

    pub after-absent : turn_at program slot s ≡ absent → Left whole counts₀ counts s.packet ended.NoSlot
    unfolding tallied
    after-absent e =
        let r : run_from left program slot s ≡ ended_as ended.NoSlot s =
        ap (λ (k : ℕ). run_from k program slot s) one_less ∙ stops-there program slot s (left - 1) e in
        record {
          how = sym (ap (λ (x : Run). x.how) r) ∙ on.how;
          counts_are = sym (ap (λ (x : Run). tallied x.ran counts) r) ∙ on.ran;
          packet_is = sym (ap (λ (x : Run). x.packet) r) ∙ on.packet;
        }

  pub at-limit : (left : ℕ) → left ≡ 0 → Onward whole counts₀ program slot left s counts → Left whole counts₀ counts s.packet ended.StepLimit
  unfolding tallied
  at-limit left z on =
      let r : run_from left program slot s ≡ ended_as ended.StepLimit s = ap (λ (k : ℕ). run_from k program slot s) z ∙ limit-first program slot s in
      record {
        how = sym (ap (λ (x : Run). x.how) r) ∙ on.how;
        counts_are = sym (ap (λ (x : Run). tallied x.ran counts) r) ∙ on.ran;
        packet_is = sym (ap (λ (x : Run). x.packet) r) ∙ on.packet;
      }

-- what is lent keeps its lengths
pub record Sized (regs₀ stack₀ packet₀ counts₀ regs stack packet counts : List ℕ) : Type 0 where
  pub regs-size : length regs ≡ length regs₀
  pub stack-size : length stack ≡ length stack₀
  pub packet-size : length packet ≡ length packet₀
  pub counts-size : length counts ≡ length counts₀
