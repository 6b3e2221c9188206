-- From the list to the page: a slot's block in its place, where its code goes, and the registers behind it.
use mathlib.Core.Path.{◌≡◌, refl, ap, sym, ◌∙◌, subst}
use mathlib.Core.Logic.{◌≢◌}
use mathlib.Core.Bool.{Bool, true, false}
use mathlib.Core.List.{List, [], ◌∷◌, ◌++◌, append_assoc}
use Prim.Native.Nat.{ℕ, ◌+◌, ◌^◌, ◌<◌, ◌≤◌}
use native.Mathlib.Omega.{arith}
use lib.Dec.{T, eqb, eqb→eq}
use lib.ListN.{length, get_or, get_or-eq_default}
use Rattle.base.specs.Pick.{pick}
use Rattle.base.proofs.Tests.{true-T, eqb-true, eqb-false}
use Rattle.ebpf.specs.declared.insn.Insn.{Insn}
use Rattle.ebpf.specs.declared.kind.Kind.{Kind}
use Rattle.ebpf.specs.declared.kind.Kind.TheVariants.{LdAbs, LdInd, LdDwImm, LdReg, StImm, StReg, Alu, Shift, Neg, MulDivMod, Mov, Le, Be, Ja, Jump, Call, Exit}
use Rattle.ebpf_meaning.specs.Step.{Act, writes, branches, other, act}
use Rattle.x86.specs.Registers.{RCX, RSP}
use Rattle.x86.specs.Encode.{isa}
use Rattle.x86.specs.Code.{size}
use Rattle.x86.specs.Lowered.{code_of}
use Rattle.x86.proofs.CodeLaws.{size-append, length-bytes}
use Rattle.x86.proofs.ReadsLaws.{WfCode}
use Rattle.code.proofs.LandingLaws.{never}
use Rattle.code.proofs.PageLaws.{Start, loc-most, whole-size}
use Rattle.jit.specs.declared.Flags.{Flags}
use Rattle.jit.specs.Limits.{anchor}
use Rattle.jit.specs.Frame.{prologue, epilogue}
use Rattle.jit.specs.Slots.{reg_of, target_of, slot_code}
use Rattle.jit.specs.Passes.{exit_of}
use Rattle.jit.specs.Translation.{Block, flat, wide_kind, swap_bits, whole, locations, page_of, place_of}
use Rattle.jit.proofs.FrameLaws.{prologue-parts}
use Rattle.x86_machine.specs.Machine.{Regs, State}
use Rattle.jit_agrees.specs.Agrees.{Mapped, GoesTo, at_location, at_epilogue, Behind, may_be_empty, Does}
use Rattle.jit_agrees.proofs.RunsLaws.{leads-on}
use Rattle.jit_agrees.proofs.Lists.{Way, falls, jumps}
use Rattle.jit_agrees.proofs.Sound.{Goes, Ends, Runs, leads}
use Rattle.jit_agrees.proofs.Restoring.{Next}
use Rattle.jit_agrees.proofs.Slots.{Fulfils, standard_with, fulfils}
use Rattle.jit_agrees.proofs.Mapping.{wrote-mapped}
use Rattle.jit_agrees.proofs.Places.{flat_append, next_start, next-none}

-- The one kind that takes two slots is a wide load, of which the step does not speak; and a jump has code.
pub wide-load : (k : Kind) → wide_kind k ≡ true → k ≡ LdDwImm
wide-load (LdAbs z) e = never (sym e)
wide-load (LdInd z) e = never (sym e)
wide-load LdDwImm e = refl
wide-load (LdReg z) e = never (sym e)
wide-load (StImm z) e = never (sym e)
wide-load (StReg z) e = never (sym e)
wide-load (Alu o w s) e = never (sym e)
wide-load (Shift o w s) e = never (sym e)
wide-load (Neg w) e = never (sym e)
wide-load (MulDivMod o w s) e = never (sym e)
wide-load (Mov w s) e = never (sym e)
wide-load Le e = never (sym e)
wide-load Be e = never (sym e)
wide-load Ja e = never (sym e)
wide-load (Jump c w s) e = never (sym e)
wide-load Call e = never (sym e)
wide-load Exit e = never (sym e)

pub narrow : (k : Kind) (i : Insn) (r : List ℕ) → act k i r ≢ other → wide_kind k ≡ false
narrow k i r a = by (wide_kind k) refl
  where
    by : (w : Bool) → wide_kind k ≡ w → w ≡ false
    by true e = absurd (a (ap (λ (k : Kind). act k i r) (wide-load k e)))
    by false e = refl

runs : (compact : Bool) (k : Kind) (slot : ℕ) (i : Insn) (value : ℕ) (r : List ℕ)
    → Runs (may_be_empty (act k i r)) (slot_code (standard_with compact) k slot i value)
runs c (LdAbs z) slot i value r = tt
runs c (LdInd z) slot i value r = tt
runs c LdDwImm slot i value r = tt
runs c (LdReg z) slot i value r = tt
runs c (StImm z) slot i value r = tt
runs c (StReg z) slot i value r = tt
runs c (Alu o w s) slot i value r = tt
runs c (Shift o w s) slot i value r = tt
runs c (Neg w) slot i value r = tt
runs c (MulDivMod o w s) slot i value r = tt
runs c (Mov w s) slot i value r = tt
runs c Le slot i value r = tt
runs c Be slot i value r = tt
runs c Ja slot i value r = tt
runs c (Jump x w s) slot i value r = tt
runs c Call slot i value r = tt
runs c Exit slot i value r = tt

pub prologue-some : (f : Flags) → 0 < size (prologue f)
prologue-some f = omega (arith, prologue-parts f)

-- THE PAGE: prologue, blocks, epilogue, well formed and short.
module _ (f : Flags) (bs : List Block) (wf : WfCode (whole f bs)) (short : size (whole f bs) < 2 ^ 31)
    (few : length (locations f bs) ≤ anchor) where
  abbrev locs : List ℕ
  locs = locations f bs

  abbrev loc : ℕ → ℕ
  loc = place_of locs (exit_of f bs)

  within : (t : ℕ) → loc t < 2 ^ 31
  within t = omega (arith, loc-most isa (page_of f bs) t)

  abbrev code : List ℕ
  code = code_of loc (whole f bs)

  code-length : length code ≡ size (prologue f) + (size (flat bs) + size epilogue)
  code-length = length-bytes loc 0 (whole f bs) ∙ whole-size isa (page_of f bs)

  at_target : (t p : ℕ) → p ≡ loc t → GoesTo code (get_or locs t 0) p
  at_target t p e = by (eqb t anchor) refl
    where
      by : (b : Bool) → eqb t anchor ≡ b → GoesTo code (get_or locs t 0) p
      by true q =
          let is-anchor = eqb→eq t anchor (true-T _ q) in
          let exit : p ≡ exit_of f bs = e ∙ ap (λ (b : Bool). pick b (exit_of f bs) (get_or locs t 0)) q in
          at_epilogue (get_or-eq_default locs 0 (omega arith)) (omega (arith, exit, code-length))
      by false q = at_location (e ∙ ap (λ (b : Bool). pick b (exit_of f bs) (get_or locs t 0)) q)

  -- a slot whose code begins q bytes behind the prologue
  module _ (slot q : ℕ) (v : Start isa bs slot q) (here : get_or locs slot 0 ≡ size (prologue f) + q) (single : v.block.wide ≡ false) where
    abbrev end : ℕ
    end = size (prologue f) + q + size v.block.code

    split : whole f bs ≡ (prologue f ++ flat v.ahead) ++ (v.block.code ++ (flat v.behind ++ epilogue))
    split =
        ap (λ (l : List Block). prologue f ++ (flat l ++ epilogue)) v.split
        ∙ rw (flat_append v.ahead (v.block ∷ v.behind)) (simp append_assoc)

    next-is : get_or locs (slot + 1) 0 ≡ get_or (locations f (v.ahead ++ v.block ∷ v.behind)) (slot + 1) 0
    next-is = ap (λ (l : List Block). get_or (locations f l) (slot + 1) 0) v.split

    behind-it : get_or locs (slot + 1) 0 ≢ 0 → get_or locs (slot + 1) 0 ≡ end
    behind-it n =
        let l = next_start isa (size (prologue f)) v.ahead v.block v.behind single in
        next-is ∙ rw (v.number, v.place) at l (λ z. n (next-is ∙ z))

    -- .. and behind the last block is the epilogue
    behind-last : get_or locs (slot + 1) 0 ≡ 0 → end + size epilogue ≡ length code
    behind-last z =
        let l = next-none isa (size (prologue f)) v.ahead v.block v.behind (prologue-some f) single in
        let none : v.behind ≡ [] = rw v.number at l (sym next-is ∙ z) in
        let n = size-append (prologue f ++ flat v.ahead) (v.block.code ++ (flat v.behind ++ epilogue)) in
        let m = size-append (prologue f) (flat v.ahead) in
        let k = size-append v.block.code (flat v.behind ++ epilogue) in
        let e : size (flat v.behind ++ epilogue) ≡ size epilogue = ap (λ (l : List Block). size (flat l ++ epilogue)) none in
        omega (arith, length-bytes loc 0 (whole f bs), ap size split, n, m, k, e, v.place)

    at-end : (p : ℕ) → p ≡ end → GoesTo code (get_or locs (slot + 1) 0) p
    at-end p e = by (eqb (get_or locs (slot + 1) 0) 0) refl
      where
        by : (b : Bool) → eqb (get_or locs (slot + 1) 0) 0 ≡ b → GoesTo code (get_or locs (slot + 1) 0) p
        by true q = let z = eqb→eq (get_or locs (slot + 1) 0) 0 (true-T _ q) in at_epilogue z (omega (arith, e, behind-last z))
        by false q = at_location (e ∙ sym (behind-it (λ z. never (sym (eqb-true (get_or locs (slot + 1) 0) 0 z) ∙ q))))

    -- where the code is left is where the step goes
    next_place : (e : Way) (p : ℕ) → Goes loc end e p → Next slot e → GoesTo code (get_or locs (slot + 1) 0) p
    next_place falls p g h = at-end p g
    next_place (jumps t) p g h = at_target (slot + 1) p (g ∙ ap loc h)

    branch-place : (t : Bool) (x : ℕ) (e : Way) (p : ℕ) → Goes loc end e p → e ≡ pick t (jumps (target_of slot x)) falls
        → GoesTo code (get_or locs (pick t (target_of slot x) (slot + 1)) 0) p
    branch-place true x e p g h = at_target (target_of slot x) p (subst (λ (e : Way). Goes loc end e p) h g)
    branch-place false x e p g h = at-end p (subst (λ (e : Way). Goes loc end e p) h g)

    module _ (i : Insn) (dst11 : i.dst < 11) where
      behind : (r : List ℕ) (s : State) → Mapped r s.regs → (a : Act) (t : State)
          → Ends (Fulfils slot s.regs (reg_of i.dst) a) loc end s.calls t → Behind code locs slot i r a s t
      unfolding target_of
      behind r s m (writes x) t h =
          let wrote = h.good.1 in
          record {
            registers = wrote-mapped r s.regs t.regs i.dst x dst11 m wrote h.words;
            unchanged = record {
              stack = wrote.stack;
              others = λ m a b c. wrote.others m (eqb-false m RCX a) (eqb-false m RSP b) (eqb-false m (reg_of i.dst) (c i.dst dst11));
              calls = h.framed;
            };
            place = next_place h.way t.pos h.place h.good.0;
          }
      behind r s m (branches x y) t h =
          let same : t.regs ≡ s.regs = h.good.1 in
          record {
            registers = record { eleven = m.eleven; each = λ k l. rw same (m.each k l); words = h.words };
            unchanged = record { stack = rw same; others = λ m a b c. ap (λ (g : Regs). g m) same; calls = h.framed };
            place = branch-place x y h.way t.pos h.place h.good.0;
          }
      behind r s m other t h = absurd h.good

    -- .. and its code is that of a kind
    module _ (compact : Bool) (k : Kind) (i : Insn) (value : ℕ) (same : v.block.code ≡ slot_code (standard_with compact) k slot i value)
        (small : slot < 2 ^ 32) (imm32 : i.imm < 2 ^ 32) (dst11 : i.dst < 11) (src11 : i.src < 11)
        (le : k ≡ Le → T (swap_bits i.imm)) (be : k ≡ Be → T (swap_bits i.imm)) where
      pub does : Does code locs slot k i
      does r s speaks m e =
          let start = size (prologue f) + q in
          let at-start : s.pos ≡ start = e ∙ here in
          let ahead = prologue f ++ flat v.ahead in
          let ahead-size : size ahead ≡ start = size-append (prologue f) (flat v.ahead) ∙ rw v.place in
          leads-on (behind i dst11 r s m (act k i r))
          (rw at-start
          (leads (whole f bs) loc wf short within (s.regs RSP) (Fulfils slot s.regs (reg_of i.dst) (act k i r)) end s.calls
          (may_be_empty (act k i r)) v.block.code (rw same (runs compact k slot i value r)) ahead (flat v.behind ++ epilogue) start
          split ahead-size refl s.regs s.flags m.words
          (rw same (fulfils compact slot small i imm32 dst11 src11 r s.regs m k value speaks le be s.flags))))
