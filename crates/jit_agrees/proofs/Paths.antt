-- A path of slots, one RFC 9669's step after the other: from its first slot's start the page comes to its last one's, with the registers that
-- the steps leave.
use Rattle.std.proofs.Common.{Some}
use mathlib.Core.Path.{◌≡◌}
use mathlib.Core.Logic.{◌≢◌}
use mathlib.Core.Bool.{true}
use mathlib.Core.List.{List, []}
use Prim.Native.Nat.{ℕ, suc}
use lib.ListN.{get_or}
use Rattle.ebpf.specs.Insn.{read_at}
use Rattle.ebpf.specs.Opcode.{kind_of}
use Rattle.ebpf.specs.declared.insn.Insn.{Insn}
use Rattle.ebpf.specs.declared.kind.Kind.{Kind}
use Rattle.ebpf.specs.declared.kind.Lookup.TheVariants.{Known}
use Rattle.ebpf_meaning.specs.Step.{other, act, regs_behind, next_slot}
use Rattle.x86.specs.Registers.{RSP}
use Rattle.x86_machine.specs.Machine.{State}
use Rattle.jit_agrees.specs.Runs.{Leads, there}
use Rattle.jit_agrees.specs.Follows.{AtSlot, Follows, FollowsAll}
use Rattle.jit_agrees.proofs.RunsLaws.{sooner, leads-then}

-- from a slot with registers to a slot with registers, every slot on the way being one of which the step speaks, and beginning somewhere
pub data Path (program locs : List ℕ) : (slot : ℕ) (r : List ℕ) (last : ℕ) (q : List ℕ) → Type 0 where
  here : {slot : ℕ} {r : List ℕ} → Path program locs slot r slot r
  on : {slot last : ℕ} {r q : List ℕ} (i : Insn) (k : Kind) → read_at program slot ≡ Some i → kind_of i.opc ≡ Known k → act k i r ≢ other
      → get_or locs (next_slot slot (act k i r)) 0 ≢ 0 → Path program locs (next_slot slot (act k i r)) (regs_behind i r (act k i r)) last q
      → Path program locs slot r last q

module _ (program code locs : List ℕ) where
  abbrev slots_on : {slot last : ℕ} {r q : List ℕ} → Path program locs slot r last q → ℕ
  slots_on here = 0
  slots_on (on i k a b c d p) = suc (slots_on p)

  follow-path : (s : State) {slot last : ℕ} {r q : List ℕ} (p : Path program locs slot r last q) (t : State) → AtSlot locs s slot r t
      → Follows program code locs s (slots_on p) slot r t → Leads code (AtSlot locs s last q) (s.regs RSP) true [] t
  follow-path s here t a f = there a
  follow-path s (on i k read kind speaks begins p) t a f =
      leads-then (λ v b. follow-path s p v b.0 b.1) (sooner (f i k read kind speaks begins))

  pub along : FollowsAll program code locs → {slot last : ℕ} {r q : List ℕ} → Path program locs slot r last q → (s : State) → AtSlot locs s slot r s
      → Leads code (AtSlot locs s last q) (s.regs RSP) true [] s
  along h {slot} {last} {r} p s a = follow-path s p s a (h (slots_on p) slot r s a)
