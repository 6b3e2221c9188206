-- Whether a filter is run: what the translator's verdict says of it, and what the slots say behind that.
use Rattle.std.proofs.Common.{◌≡◌, ℕ, ◌+◌, ◌*◌, ◌<◌, ◌≤◌, Bool, true, false, ◌||◌, ltb, leb, Result, Ok, Err, List, length}
use Rattle.std.proofs.Common.{sym, refl, ap, ◌∙◌, arith, ltb-false, leb-false}
use Rattle.base.specs.Pick.{pick}
use Rattle.jit.specs.declared.Refusal.{Refusal}
use Rattle.jit.specs.Limits.{shortest_page, longest_page, longest_program}
use Rattle.jit.specs.Translation.{Inputs, Outcome, no, yes, translation_of, sizes_of, finish, walk_of, slots_of, short_table, bad_helpers}
use Rattle.jit_translate.specs.Translated.{verdict_in}
use Rattle.replay.specs.declared.Refusal as replay
use Rattle.replay.specs.declared.Refusal.TheVariants.{Translation}
use Rattle.replay_slots.specs.Lent.{told}
use Rattle.replay_capture.specs.Decided.{decided_in}
use Rattle.replay.specs.Report.{Verdict, refused, verdict_of, unless_refused, first_from, inputs_of}

-- the translator's refusal, and where it has none
module _ (x : Inputs) where
  pub not-translated : {r : Refusal} → verdict_in (translation_of x) ≡ Err r → verdict_of x ≡ refused (Translation r)
  unfolding verdict_of
  not-translated {r} e = by (translation_of x) e
    where
      by : (o : Outcome) → verdict_in o ≡ Err r
          → unless_refused o (first_from x.filter.program (slots_of x.filter.program) 0) ≡ refused (Translation r)
      by (no q) e = cc
      by (yes c l f t) e = let z : ◌≡◌ {A = ℕ} 0 1 = cc in absurd (omega arith)

  pub then-slots : verdict_in (translation_of x) ≡ Ok tt → verdict_of x ≡ first_from x.filter.program (slots_of x.filter.program) 0
  unfolding verdict_of
  then-slots e = by (translation_of x) e
    where
      by : (o : Outcome) → verdict_in o ≡ Ok tt
          → unless_refused o (first_from x.filter.program (slots_of x.filter.program) 0)
          ≡ first_from x.filter.program (slots_of x.filter.program) 0
      by (no q) e = let z : ◌≡◌ {A = ℕ} 0 1 = cc in absurd (omega arith)
      by (yes c l f t) e = refl

-- what is accepted is within the limits, and has an entry of the counts for each slot, and one
pub record Sizes (program : List ℕ) (counts : ℕ) : Type 0 where
  pub short : length program ≤ longest_program
  pub counts_for : slots_of program < counts

pub sizes : (program ids addresses : List ℕ) (page counts : ℕ) → verdict_in (translation_of (inputs_of program ids addresses page counts)) ≡ Ok tt
    → Sizes program counts
unfolding translation_of sizes_of
sizes program ids addresses page counts e =
    by (ltb page shortest_page) (ltb longest_page page) (ltb longest_program (length program)) (leb counts (slots_of program)) refl refl
    (bad_helpers ids addresses) e
  where
    x : Inputs
    x = inputs_of program ids addresses page counts

    o : Outcome
    o = finish x.flags (slots_of program) page (walk_of x)

    refuses : {r : Refusal} → Err r ≡ Ok (tt {0}) → Sizes program counts
    refuses q = let z : ◌≡◌ {A = ℕ} 0 1 = cc in absurd (omega arith)

    by : (a b c d : Bool) → ltb longest_program (length program) ≡ c → leb counts (slots_of program) ≡ d → (h : Bool)
        → verdict_in
        (pick a (no Refusal.PageTooShort)
        (pick b (no Refusal.PageTooLong)
        (pick c (no Refusal.ProgramTooLong)
        (pick (d || (d || (d || (d || d)))) (no Refusal.TableTooShort) (pick h (no Refusal.BadHelpers) o)))))
        ≡ Ok tt
        → Sizes program counts
    by true b c d p q h e = refuses e
    by false true c d p q h e = refuses e
    by false false true d p q h e = refuses e
    by false false false true p q h e = refuses e
    by false false false false p q h e =
        record { short = ltb-false longest_program (length program) p; counts_for = leb-false counts (slots_of program) q }

-- what the slots' verdict tells, as an answer
pub told_back : (r : Result (Unit {0}) replay.Refusal) → r ≡ decided_in (told r)
told_back (Ok u) = refl
told_back (Err r) = refl

-- a filter that is not run is not run
pub never : {A : Type 0} {r : replay.Refusal} → ◌≡◌ {A = Result (Unit {0}) replay.Refusal} (Err r) (Ok tt) → A
never e = let z : ◌≡◌ {A = ℕ} 0 1 = cc in absurd (omega arith)
