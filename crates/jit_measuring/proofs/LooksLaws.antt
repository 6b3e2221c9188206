-- What a look at a slot finds, by its entry in the opcode table; and what that says of its step.
use Rattle.std.proofs.Common.{None, Result, Ok, Err}
use mathlib.Core.Path.{◌≡◌, ◌∙◌, refl, sym}
use mathlib.Core.Bool.{Bool, true, false}
use mathlib.Core.List.{List, [], ◌∷◌}
use Prim.Native.Nat.{ℕ}
use native.Mathlib.Omega.{arith}
use Rattle.base.specs.Cases.{Arm, ◌⇒◌}
use Rattle.base.proofs.CasesLaws.{None as NoneOf}
use Rattle.ebpf.specs.Insn.{insn_at}
use Rattle.ebpf.specs.Opcode.{kind_of}
use Rattle.ebpf.specs.declared.insn.Insn.{Insn}
use Rattle.ebpf.specs.declared.kind.Kind.{Kind}
use Rattle.ebpf.specs.declared.kind.Lookup.TheVariants.{Known}
use Rattle.jit.specs.declared.Refusal.{Refusal}
use Rattle.x86.specs.Code.{size, targets_of}
use Rattle.jit.specs.declared.Mode.{Mode}
use Rattle.jit.specs.Slots.{slot_code}
use Rattle.jit.specs.Translation.{Filter, Block, wide_kind, bad_in, Step, stop, go, has, taken, step_at}
use Rattle.jit_walk.specs.Operands.{operand_in}
use Rattle.ebpf.specs.Kinds.{UNKNOWN, UNIMPLEMENTED, LD-DW-IMM, LE, BE, JA, JUMP, CALL}
use Rattle.jit_lengths.specs.Lengths.{Ordinary, SizedBy}
use Rattle.jit_measuring.specs.declared.measure.Look.{Look}
use Rattle.jit_measuring.specs.Looks.{plainly, jumping, wide_of, bad_of, Finds}
use Rattle.jit_measuring.proofs.Listed.{next-jump}
use Rattle.jit_measuring.proofs.Seen.{Seen, Entry, Kinded, kinded, step_of}

-- a slot that lists nothing, and one that lists a target
pub finds-none : (m : Mode) (k : Kind) (n slot : ℕ) (i : Insn) (value : ℕ) {bytes : ℕ} → bytes ≡ size (slot_code m k slot i value) → wide_kind k ≡ false
    → bad_in n slot (targets_of (slot_code m k slot i value)) ≡ None → Finds n slot (taken m k slot i (has value)) (Ok (plainly bytes))
finds-none m k n slot i value h w g = (h, (w, g))

pub finds-jump : (m : Mode) (k : Kind) (n slot : ℕ) (i : Insn) (value t : ℕ) {bytes : ℕ} → bytes ≡ size (slot_code m k slot i value) → wide_kind k ≡ false
    → targets_of (slot_code m k slot i value) ≡ t ∷ [] → Finds n slot (taken m k slot i (has value)) (Ok (jumping bytes n t))
finds-jump m k n slot i value t h w g = (h, (w ∙ (next-jump n slot t).0, rw g (next-jump n slot t).1))

-- a slot whose step is a refusal, and one of a known kind
pub finds-stopped : (n slot : ℕ) {s : Step} {r : Refusal} → s ≡ stop r → Finds n slot s (Err r)
finds-stopped n slot e = rw e refl

pub finds-of : (filter : Filter) {n slot : ℕ} (s : Seen filter.program n slot) (k : Kind) (x : Result Look Refusal)
    → kind_of (insn_at filter.program slot).opc ≡ Known k
    → Finds n slot (taken filter.mode k slot (insn_at filter.program slot) (operand_in filter k slot (insn_at filter.program slot))) x
    → Finds n slot (step_at filter slot) x
finds-of filter s k x e f = rw (step_of filter s k e) f

-- the kinds without an arm of their own
pub finds-plain : (filter : Filter) {n slot : ℕ} (s : Seen filter.program n slot) (x bytes : ℕ) → Entry filter s x
    → ¬ (x ≡ UNKNOWN) → ¬ (x ≡ UNIMPLEMENTED) → Ordinary x
    → SizedBy filter.mode (kind_of (insn_at filter.program slot).opc) (insn_at filter.program slot) bytes
    → Finds n slot (step_at filter slot) (Ok (plainly bytes))
finds-plain filter {n} {slot} s x bytes e u v p h = by (kinded filter s x e u v p)
  where
    by : Kinded filter s x → Finds n slot (step_at filter slot) (Ok (plainly bytes))
    by k =
        let i = insn_at filter.program slot in
        let sized = rw k.is at h in
        rw (step_of filter s k.kind k.is, k.plainly.takes)
        (finds-none filter.mode k.kind n slot i 0 (sized slot 0 (omega (arith, s.below, s.few))) k.plainly.narrow k.plainly.good)

-- the kinds with an arm of their own in `measure_slot`, in the reverse of their order there
abbrev pub measured-apart : List (Arm Bool)
measured-apart =
    LE ⇒ true ∷ CALL ⇒ true ∷ JUMP ⇒ true ∷ JA ⇒ true ∷ BE ⇒ true ∷ LD-DW-IMM ⇒ true ∷ UNIMPLEMENTED ⇒ true ∷ UNKNOWN ⇒ true ∷ []

pub measured-plain : {x : ℕ} → NoneOf measured-apart x → Ordinary x
measured-plain none =
    record {
      wide = none.0.0.0.0.0.1;
      swaps = none.0.0.0.0.1;
      cuts = none.1;
      ja = none.0.0.0.1;
      jumps = none.0.0.1;
      calls = none.0.1;
    }

-- what a look says of the step
pub finds-stop : (n slot : ℕ) (s : Step) {x : Result Look Refusal} {r : Refusal} → Finds n slot s x → x ≡ Err r → stop r ≡ s
finds-stop n slot (stop q) {x} {r} f e = let same : Err r ≡ Err q = sym e ∙ f in cc
finds-stop n slot (go b) {x} {r} f e = absurd (rw e at f)

pub record Went (n slot : ℕ) (s : Step) (x : Look) : Type 0 where
  pub block : Block
  pub step : go block ≡ s
  pub size_is : x.size ≡ size block.code
  pub wide : block.wide ≡ wide_of x.next
  pub bad : bad_in n slot (targets_of block.code) ≡ bad_of x.next slot

pub finds-go : (n slot : ℕ) (s : Step) {r : Result Look Refusal} {x : Look} → Finds n slot s r → r ≡ Ok x → Went n slot s x
finds-go n slot (stop q) {r} {x} f e = let z : Ok x ≡ Err q = sym e ∙ f in let w : ◌≡◌ {A = ℕ} 0 1 = cc in absurd (omega arith)
finds-go n slot (go b) {r} {x} f e = let g = rw e at f in record { block = b; step = refl; size_is = g.0; wide = g.1.0; bad = g.1.1 }
