-- The laws of specs/Exported.antt: one struct only; a page that is answered with number 0 is safe, and in standard mode does what its slots say;
-- how the contract is met.
use mathlib.Core.Path.{◌≡◌, ◌∙◌, ap, sym, refl}
use mathlib.Core.Bool.{true}
use mathlib.Core.List.{List}
use Prim.Native.Nat.{ℕ, ◌≤◌}
use native.Mathlib.Omega.{arith}
use Rattle.std.specs.Prelude.{Ok, Err}
use lib.ListN.{take}
use Rattle.jit.specs.declared.Refusal.{Refusal}
use Rattle.jit.specs.declared.Refusal.TheVariants as refusal
use Rattle.jit.specs.Refusals.{number_of}
use Rattle.jit.specs.Translation.{Inputs}
use Rattle.x86_machine.specs.Machine.{State, Input, divided, run}
use Rattle.jit_safety.specs.Demand3.{Given, Begins, Demand3}
use Rattle.jit_safety.proofs.Useless.{division-raises}
use Rattle.jit_agrees.specs.Agrees.{Agrees}
use Rattle.jit_agrees.specs.Follows.{FollowsAll}
use Rattle.jit_translate.specs.Translated.{Answer}
use Rattle.jit_theorem.specs.Theorem.{Buffers, locations_of, Translates, Names, Promise}
use Rattle.jit_theorem.proofs.Proved.{theorem}
use Rattle.ndakoleem.specs.declared.Translation.{Translation}
use Rattle.ndakoleem.specs.Exported.{number_in, slot_in, length_in, jumps_in, Exported}

-- It admits one struct and one set of contents at exit only.
pub one-struct : {x : Inputs} {before after other : Buffers} {r s : Translation} → Exported x before after r → Exported x before other s
    → ((r.number ≡ s.number) × (r.slot ≡ s.slot) × (r.length ≡ s.length) × (r.jumps ≡ s.jumps)) × (after ≡ other)
one-struct {x} {before} {after} {other} a b =
    let same = theorem.only x before after other a.answer b.answer a.promise b.promise in
    let by = same.0 in (
      (
        a.number_is ∙ ap number_in by ∙ sym b.number_is,
        a.slot_is ∙ ap slot_in by ∙ sym b.slot_is,
        a.length_is ∙ ap length_in by ∙ sym b.length_is,
        a.jumps_are ∙ ap jumps_in by ∙ sym b.jumps_are,
      ),
      same.1,
    )

-- No refusal has number 0.
numbered : (r : Refusal) → 1 ≤ number_of r
numbered refusal.PageTooShort = omega arith
numbered refusal.PageTooLong = omega arith
numbered refusal.ProgramTooLong = omega arith
numbered refusal.TableTooShort = omega arith
numbered refusal.BadHelpers = omega arith
numbered (refusal.Torn s) = omega arith
numbered (refusal.BadRegister s) = omega arith
numbered (refusal.UnknownOpcode s) = omega arith
numbered (refusal.Unimplemented s) = omega arith
numbered (refusal.BadSwap s) = omega arith
numbered (refusal.UnknownHelper s) = omega arith
numbered (refusal.BadCall s) = omega arith
numbered (refusal.NoRoom s) = omega arith
numbered (refusal.BadTarget s) = omega arith

-- So what has it is accepted, and demand 3 holds of as much as the struct says.
pub safe : {x : Inputs} {before after : Buffers} {r : Translation} → Exported x before after r → r.number ≡ 0
    → Demand3 x (take r.length after.code) (locations_of x after)
    (take r.jumps after.fields) (take r.jumps after.targets) (take r.jumps after.kinds) (take r.jumps after.makers)
safe {x} {before} {after} h z = rw (h.length_is, h.jumps_are) (by h.answer h.promise (sym h.number_is ∙ z))
  where
    by : (a : Answer) → Promise x before after a → number_in a ≡ 0
        → Demand3 x (take (length_in a) after.code) (locations_of x after)
        (take (jumps_in a) after.fields) (take (jumps_in a) after.targets) (take (jumps_in a) after.kinds) (take (jumps_in a) after.makers)
    by (Ok a) p e = p.safe a.length a.jumps refl
    by (Err q) p e = absurd (omega (arith, numbered q, e))

-- What that is there for: no page that is answered with number 0 raises #DE, whatever it is run on.
pub never-faults : {x : Inputs} {before after : Buffers} {r : Translation} → Exported x before after r → r.number ≡ 0
    → (us : List Input) (s : State) → Begins s → run (take r.length after.code) us s ≡ divided → ⊥
never-faults h z = division-raises _ _ _ _ _ _ _ (safe h z)

-- .. and in standard mode each slot of arithmetic, a move, a swap or a jump does on the processor what RFC 9669's step does.
pub agrees : {x : Inputs} {before after : Buffers} {r : Translation} → Exported x before after r → r.number ≡ 0
    → x.filter.mode.standard ≡ true
    → Agrees x.filter.program (take r.length after.code) (locations_of x after)
agrees {x} {before} {after} h z std = rw h.length_is (by h.answer h.promise (sym h.number_is ∙ z))
  where
    by : (a : Answer) → Promise x before after a → number_in a ≡ 0
        → Agrees x.filter.program (take (length_in a) after.code) (locations_of x after)
    by (Ok a) p e = p.agrees a.length a.jumps refl std
    by (Err q) p e = absurd (omega (arith, numbered q, e))

-- .. and so along every path of such slots
pub follows : {x : Inputs} {before after : Buffers} {r : Translation} → Exported x before after r → r.number ≡ 0
    → x.filter.mode.standard ≡ true
    → FollowsAll x.filter.program (take r.length after.code) (locations_of x after)
follows h z std = theorem.paths _ _ _ (agrees h z std)

-- The struct of an answer's four numbers meets the contract.
pub exported : (x : Inputs) → Given x → {before after : Buffers} {a : Answer} {number slot bytes jumps : ℕ} → Translates x before after a
    → Names x before after → number ≡ number_in a → slot ≡ slot_in a → bytes ≡ length_in a → jumps ≡ jumps_in a
    → Exported x before after (record { number = number; slot = slot; length = bytes; jumps = jumps })
exported x given {before} {after} {a} h names n s l j =
    record { answer = a; promise = theorem.kept x given before after a h names; number_is = n; slot_is = s; length_is = l; jumps_are = j }
