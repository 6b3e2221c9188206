-- Which slots the statement leaves out by their location: of an accepted program those alone that are a wide load's second half. So every other
-- slot has a start from which it is said what it does.
use mathlib.Core.Path.{◌≡◌, ap, sym, ◌∙◌, subst}
use mathlib.Core.Logic.{◌≢◌}
use mathlib.Core.Bool.{true}
use mathlib.Core.List.{List}
use Prim.Native.Nat.{ℕ, ◌+◌, ◌<◌}
use native.Mathlib.Omega.{arith}
use lib.ListN.{get_or}
use Rattle.ebpf.specs.Insn.{insn_at}
use Rattle.ebpf.specs.Opcode.{kind_of}
use Rattle.ebpf.specs.declared.kind.Kind.{Kind}
use Rattle.ebpf.specs.declared.kind.Kind.TheVariants.{LdDwImm}
use Rattle.ebpf.specs.declared.kind.Lookup.TheVariants.{Known}
use Rattle.x86.specs.Encode.{isa}
use Rattle.x86.specs.Code.{size}
use Rattle.code.proofs.PageLaws.{length-locations}
use Rattle.jit.specs.Frame.{prologue}
use Rattle.jit.specs.Translation.{Filter, Inputs, Block, slots_of, slots_in, wide_kind, page_of, yes, translation_of}
use Rattle.jit_safety.specs.Demand3.{Given}
use Rattle.jit_safety.proofs.Program.{Parts, parts, OriginIn, OriginsIn, origin-at}
use Rattle.jit_agrees.proofs.Places.{Half, half}
use Rattle.jit_agrees.proofs.OnPage.{wide-load, prologue-some}

-- a wide block is a wide load's
wide-origin : (filter : Filter) (n : ℕ) (b : Block) → OriginIn filter n b → b.wide ≡ true
    → kind_of (insn_at filter.program n).opc ≡ Known LdDwImm
wide-origin filter n b o w =
    let wide : wide_kind o.origin.kind ≡ true = ap (λ (b : Block). b.wide) (sym o.origin.same) ∙ w in
    o.looked ∙ ap (λ (k : Kind). Known k) (wide-load o.origin.kind wide)

-- slot is the second half of the wide load at `before`
pub record SecondHalf (program locs : List ℕ) (slot : ℕ) : Type 0 where
  pub before : ℕ
  pub next : before + 1 ≡ slot
  pub begins : get_or locs before 0 ≢ 0
  pub wide : kind_of (insn_at program before).opc ≡ Known LdDwImm

module _ (x : Inputs) (given : Given x) (code locs fields targets : List ℕ) (e : translation_of x ≡ yes code locs fields targets) where
  abbrev program : List ℕ
  program = x.filter.program

  abbrev start : ℕ
  start = size (prologue x.flags)

  of-half : (p : Parts x code locs fields targets) (slot : ℕ) → Half isa start p.blocks slot → SecondHalf program locs slot
  of-half p slot h =
      let o = origin-at x.filter 0 h.ahead h.block h.behind (subst (OriginsIn x.filter 0) h.split p.origins) in
      let here : 0 + slots_in h.ahead ≡ h.before = omega (arith, h.number) in
      record {
        before = h.before;
        next = h.next;
        begins = rw p.is-locs h.begins;
        wide = wide-origin x.filter h.before h.block (subst (λ (n : ℕ). OriginIn x.filter n h.block) here o) h.wide;
      }

  of_parts : Parts x code locs fields targets → (slot : ℕ) → slot < slots_of program → get_or locs slot 0 ≡ 0 → SecondHalf program locs slot
  of_parts p slot l z =
      let n = length-locations isa (page_of x.flags p.blocks) in
      of-half p slot (half isa start p.blocks slot (prologue-some x.flags) (omega (arith, n, p.few, l)) (rw p.is-locs at z))

  pub begins-nowhere : (slot : ℕ) → slot < slots_of program → get_or locs slot 0 ≡ 0 → SecondHalf program locs slot
  begins-nowhere = of_parts (parts x given code locs fields targets e)
