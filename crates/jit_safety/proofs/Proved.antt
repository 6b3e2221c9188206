-- Demand 3 is proved: of everything that `translation_of` accepts.
use mathlib.Core.Path.{◌≡◌, refl, ap, sym, ◌∙◌}
use mathlib.Core.Bool.{Bool, true, false}
use mathlib.Core.List.{List, [], ◌∷◌, ◌++◌, append_assoc}
use Prim.Native.Nat.{ℕ, ◌+◌, ◌-◌, ◌%◌, ◌^◌, ◌<◌}
use native.Mathlib.Omega.{arith}
use lib.ListN.{drop, length, get_or}
use Rattle.base.specs.Pick.{pick}
use Rattle.base.specs.declared.Width.TheVariants.{W64}
use Rattle.x86.specs.Registers.{RSP, RBX, RBP, R13, R14, R15}
use Rattle.x86.specs.Instr.{Instr, op, pop, alu_imm, ADD, ret}
use Rattle.x86.specs.Encode.{isa, rex, modrm, memory, bare, short}
use Rattle.x86.specs.Decode.{decode, got}
use Rattle.x86.specs.Code.{Dest, size, targets_of}
use Rattle.x86.specs.Lowered.{lowered, code_of, fields_of}
use Rattle.x86.proofs.CodeLaws.{fields-append, length-bytes}
use Rattle.jit.specs.Limits.{anchor}
use Rattle.jit.specs.Frame.{saves, packet_start, packet_end, argument, enter, prologue, epilogue}
use Rattle.jit.proofs.FrameLaws.{prologue_size, prologue-size}
use Rattle.jit.specs.declared.Flags.{Flags}
use Rattle.jit.specs.Translation.{Inputs, slots_of, Block, done, walk_of, flat, whole, page_of, locations, place_of, yes, translation_of}
use Rattle.jit.specs.JumpTables.{page_for, kind_table, maker_table}
use Rattle.jit.specs.Passes.{exit_of}
use Rattle.jit.proofs.Bounds.{whole-size}
use Rattle.x86_machine.specs.Machine.{State, Input, running, finished, faulted, unbalanced, divided, astray, run, top_of, EntersFrom}
use Rattle.x86_machine.specs.Machine as machine
use Rattle.x86.proofs.ReadsLaws.{WfCode, read-all}
use Rattle.x86.specs.Lowered.{lower}
use Rattle.jit_safety.specs.Demand3.{Given, blocks_in, blocks_of, instructions_of, Reading, Stands, Begins, Stays, Staying, StackPointer, Demand3}
use Rattle.jit_safety.proofs.Cells.{Cell, instrs, extent, Place, size-instrs, split-instrs}
use Rattle.jit_safety.proofs.Flow.{asks, Inv, Safe, run-safe}
use Rattle.jit_safety.proofs.Depth.{exactly, Even, EvenOut, run-even, even-ret}
use Rattle.jit_safety.proofs.Notes.{prologue_cells}
use Rattle.jit_safety.proofs.Program.{Goods, Origins, OriginsIn, origins-of, Parts, parts}
use Rattle.jit_safety.proofs.Landing.{landing}
use Rattle.code.proofs.CodeLaws.{lowered-append}
use Rattle.code.proofs.LandingLaws.{stands-lower}
use Rattle.jit_safety.proofs.PageLayout.{page_cells, page-same, page-wf, page-passed, page-extent, flow-label, even-label, page-first, gates, exit-framed, only}

-- 1
module _ (loc : ℕ → ℕ) (is : List (Instr Dest)) where
  reads : WfCode is → (more : List (Instr Dest)) → is ≡ more ++ (ret ∷ []) → Reading (code_of loc is) (lowered loc 0 is)
  reads w more e =
      record {
        read = read-all loc is w;
        others = lowered loc 0 more;
        last = ap (lowered loc 0) e ∙ lowered-append isa loc 0 more (ret ∷ []);
      }

-- the epilogue ends in a return, and so does the page
abbrev restoring : List (Instr Dest)
restoring = op (alu_imm ADD W64 RSP 512) ∷ op (pop R15) ∷ op (pop R14) ∷ op (pop R13) ∷ op (pop RBX) ∷ op (pop RBP) ∷ []

ends-in-ret : (f : Flags) (bs : List Block) → whole f bs ≡ (prologue f ++ (flat bs ++ restoring)) ++ (ret ∷ [])
unfolding epilogue
ends-in-ret f bs = simp append_assoc

-- 3
module _ (f : Flags) (bs : List Block) (o : Origins 0 bs) (short : size (whole f bs) < 2 ^ 31) where
  abbrev loc : ℕ → ℕ
  loc = place_of (locations f bs) (exit_of f bs)

  abbrev cells : List Cell
  cells = page_cells f bs o

  small : extent cells < 2 ^ 31
  small = rw (page-extent f bs o) short

  wf : WfCode (instrs cells)
  wf = rw (page-same f bs o) (page-wf f bs o)

  stays-place : (Q : Cell → Bool) (p : ℕ) → Place cells p Q → (i : Instr ℕ) × Stands (lowered loc 0 (whole f bs)) p i
  stays-place Q p v =
      let e = sym (page-same f bs o) ∙ split-instrs cells v.pre v.cell v.post v.split in
      (lower loc p v.cell.instr, stands-lower isa loc (whole f bs) (instrs v.pre) v.cell.instr (instrs v.post) p e (size-instrs v.pre ∙ v.at))

  stays-safe : (r : machine.Outcome) → Safe cells r → Stays (lowered loc 0 (whole f bs)) r
  stays-safe (running s) v = stays-place (asks v.facts) s.pos v.place
  stays-safe (finished s) v = tt
  stays-safe faulted v = tt
  stays-safe unbalanced v = tt
  stays-safe divided v = absurd v
  stays-safe astray v = absurd v

  stays : Staying (code_of loc (whole f bs)) (lowered loc 0 (whole f bs))
  stays us s b =
      let v : Inv cells s = record { facts = []; place = rw b.0 (page-first f bs o (asks []) (page-passed f bs o).free); known = tt; backs = rw b.1 tt } in
      let h = run-safe cells loc (page-passed f bs o).flow wf small (flow-label f bs o) us s v in
      stays-safe (run (code_of loc (whole f bs)) us s) (rw (page-same f bs o) at h)

-- 4: the prologue's jump is the first that is listed
prologue-fields : (f : Flags) → fields_of 0 (prologue f) ≡ (prologue_size f - 4) ∷ []
unfolding saves packet_start packet_end argument enter prologue rex modrm memory bare short
prologue-fields f = by f.use_mbuff f.update_data_ptr
  where
    by : (a b : Bool) → fields_of 0 (prologue (record { use_mbuff = a; update_data_ptr = b })) ≡ (pick a (pick b 49 31) 34 - 4) ∷ []
    by true true = refl
    by true false = refl
    by false b = refl

first_field : (f : Flags) (bs : List Block) → get_or (fields_of 0 (whole f bs)) 0 0 - 1 ≡ size (prologue f) - 5
first_field f bs = rw (fields-append 0 (prologue f) (flat bs ++ epilogue), prologue-fields f, prologue-size f) (omega arith)

exit-at : (f : Flags) (bs : List Block) → length (code_of (place_of (locations f bs) (exit_of f bs)) (whole f bs)) - 16 ≡ exit_of f bs
exit-at f bs = rw (length-bytes (place_of (locations f bs) (exit_of f bs)) 0 (whole f bs), whole-size f bs) (omega arith)

module _ (f : Flags) (bs : List Block) (o : Origins 0 bs) (short : size (whole f bs) < 2 ^ 31) where
  abbrev at : ℕ → ℕ
  at = place_of (locations f bs) (exit_of f bs)

  abbrev code : List ℕ
  code = code_of at (whole f bs)

  abbrev page : List Cell
  page = page_cells f bs o

  begins-even : (s : State) → Begins s → Even page (s.regs RSP) s
  unfolding prologue_cells saves packet_start packet_end argument enter prologue
  begins-even s b = record { deep = 0; place = rw b.0 (page-first f bs o (exactly 0) tt); below = rw b.1 (omega arith); opens = rw b.1 tt }

  -- the check of RSP, for this page
  module _ (s : State) (b : Begins s) where
    abbrev jump_at : ℕ
    jump_at = size (prologue f) - 5

    even-run : (us : List Input) → EntersFrom code (exit_of f bs) jump_at us s → EvenOut page (s.regs RSP) (run code us s)
    even-run us h =
        rw (page-same f bs o) at
        (run-even page at anchor (exit_of f bs) jump_at (s.regs RSP) (page-passed f bs o).even (wf f bs o short) (small f bs o short)
        (even-label f bs o) (gates f bs o) (exit-framed f bs o) (only f bs o) us s (begins-even s b) (rw (page-same f bs o) h))

    even-there : (t : State) (r : List ℕ) → Even page (s.regs RSP) t → decode (drop t.pos code) ≡ got ret r
        → t.regs RSP % 2 ^ 64 ≡ top_of (s.regs RSP) t.calls % 2 ^ 64
    even-there t r v d =
        even-ret page at anchor (exit_of f bs) jump_at (s.regs RSP) (page-passed f bs o).even (wf f bs o short) (small f bs o short)
        (even-label f bs o) (gates f bs o) (exit-framed f bs o) (only f bs o) t r v (rw (page-same f bs o) d)

    enters : (us : List Input) → EntersFrom code (length code - 16) (get_or (fields_of 0 (whole f bs)) 0 0 - 1) us s
        → EntersFrom code (exit_of f bs) jump_at us s
    enters us h = rw (exit-at f bs, first_field f bs) at h

  stack : StackPointer code (fields_of 0 (whole f bs))
  stack =
      record {
        each = λ us s t r b h e d. even-there s b t r (rw e at (even-run s b us (enters s b us h))) d;
        final = λ us s t b h e. rw e at (even-run s b us (enters s b us h));
      }

-- All four.
module _ (x : Inputs) (bs : List Block) (walked : walk_of x ≡ done bs) (from : OriginsIn x.filter 0 bs) (short : size (whole x.flags bs) < 2 ^ 31)
    (few : length (locations x.flags bs) ≡ slots_of x.filter.program + 1) (good : Goods (slots_of x.filter.program) (targets_of (whole x.flags bs))) where
  o : Origins 0 bs
  o = origins-of x.filter 0 bs from

  abbrev f : Flags
  f = x.flags

  abbrev places : ℕ → ℕ
  places = place_of (locations f bs) (exit_of f bs)

  is-blocks : blocks_of x ≡ bs
  is-blocks = ap blocks_in walked

  is-instructions : instructions_of x ≡ lowered places 0 (whole f bs)
  is-instructions = ap (λ (l : List Block). lowered (place_of (locations f l) (exit_of f l)) 0 (whole f l)) is-blocks

  of_blocks : Demand3 x (code_of places (whole f bs)) (locations f bs) (fields_of 0 (whole f bs)) (targets_of (whole f bs))
      (kind_table isa (page_of f bs)) (maker_table (page_of f bs))
  of_blocks =
      record {
        reading = rw is-instructions (reads places (whole f bs) (page-wf f bs o) (prologue f ++ (flat bs ++ restoring)) (ends-in-ret f bs));
        landing = rw is-instructions (landing x bs is-blocks from short few good);
        staying = rw is-instructions (stays f bs o short);
        stack = stack f bs o short;
      }

of_parts : (x : Inputs) (c l fs ts : List ℕ) → Parts x c l fs ts → Demand3 x c l fs ts (kind_table isa (page_for x)) (maker_table (page_for x))
of_parts x c l fs ts p =
    rw (p.walked, p.is_code, p.is-locs, p.is-fields, p.is-targets)
    (of_blocks x p.blocks p.walked p.origins p.short p.few p.good)

-- DEMAND 3, of everything that is accepted.
pub demand3 : (x : Inputs) → Given x → (code locs fields targets : List ℕ)
    → translation_of x ≡ yes code locs fields targets → Demand3 x code locs fields targets (kind_table isa (page_for x)) (maker_table (page_for x))
demand3 x given c l fs ts e = of_parts x c l fs ts (parts x given c l fs ts e)
