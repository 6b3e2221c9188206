-- SLOT AFTER SLOT: what comes of Agrees.antt along a path of such slots. The page goes through the starts of the slots that RFC 9669's steps go
-- through, in that order, at each with the registers that these steps leave, RSP, the other registers but RCX and the open calls being those
-- with which it began. A load, a store, a call or EXIT ends the path, and so does a step to a slot whose location is 0.
use Rattle.std.specs.Prelude.{◌≡◌, ◌≢◌, List, [], ℕ, zero, suc, get_or, Some}
use Rattle.ebpf.specs.Insn.{read_at}
use Rattle.ebpf.specs.Opcode.{kind_of}
use Rattle.ebpf.specs.declared.insn.Insn.{Insn}
use Rattle.ebpf.specs.declared.kind.Kind.{Kind}
use Rattle.ebpf.specs.declared.kind.Lookup.TheVariants.{Known}
use Rattle.ebpf_meaning.specs.Step.{other, act, regs_behind, next_slot}
use Rattle.x86.specs.Registers.{RSP}
use Rattle.x86_machine.specs.Machine.{State}
use Rattle.jit_agrees.specs.Runs.{Leads}
use Rattle.jit_agrees.specs.Agrees.{Mapped, Unchanged, may_be_empty}

-- t is at the slot's start with the registers r; what `Unchanged` names is as it was in s, where the path began
pub record AtSlot (locs : List ℕ) (s : State) (slot : ℕ) (r : List ℕ) (t : State) : Type 0 where
  pub begins : get_or locs slot 0 ≢ 0
  pub place : t.pos ≡ get_or locs slot 0
  pub registers : Mapped r t.regs
  pub unchanged : Unchanged s t

-- n slots on from t, on a path that began in s
module _ (program code locs : List ℕ) (s : State) where
  abbrev pub Follows : (n : ℕ) → (slot : ℕ) → (r : List ℕ) → (t : State) → Type 0
  Follows zero slot r t = Unit {0}
  Follows (suc n) slot r t =
      (i : Insn) (k : Kind) → read_at program slot ≡ Some i → kind_of i.opc ≡ Known k → act k i r ≢ other
      → let next = next_slot slot (act k i r) in
      let behind = regs_behind i r (act k i r) in
      get_or locs next 0 ≢ 0
      → Leads code (λ v. AtSlot locs s next behind v × Follows n next behind v) (s.regs RSP) (may_be_empty (act k i r)) [] t

-- from every state at a slot's start, however many slots on
abbrev pub FollowsAll : (program code locs : List ℕ) → Type 0
FollowsAll program code locs = (n slot : ℕ) (r : List ℕ) (s : State) → AtSlot locs s slot r s → Follows program code locs s n slot r s
