-- Statement 2: each listed field is a jump's, and the processor follows it to its target; the other jumps are the prologue's call and the
-- skips of divisions.
use mathlib.Core.Path.{◌≡◌, refl, ap, sym, ◌∙◌}
use mathlib.Core.Bool.{Bool, true, false, ◌&&◌}
use mathlib.Core.List.{List, [], ◌∷◌, ◌++◌, append_assoc}
use Prim.Native.Nat.{ℕ, ◌+◌, ◌-◌, ◌^◌, ◌<◌}
use native.Mathlib.Omega.{arith}
use native.Mathlib.Nat.{zero-add, add-zero, add_assoc}
use lib.Dec.{T, eqb, eqb→eq}
use lib.ListN.{length, get_or}
use Rattle.base.proofs.Tests.{and_l, and_r}
use Rattle.base.specs.declared.Width.{Width}
use Rattle.ebpf.specs.Insn.{insn_at}
use Rattle.ebpf.specs.Opcode.{kind_of}
use Rattle.ebpf.specs.declared.kind.Source.TheVariants.{Reg}
use Rattle.ebpf.specs.declared.kind.MulOp.TheVariants.{Div}
use Rattle.ebpf.specs.declared.kind.Kind.TheVariants.{MulDivMod}
use Rattle.ebpf.specs.declared.kind.Lookup.TheVariants.{Known}
use Rattle.x86.specs.Instr.{Instr, op, Jump, jmp, call, jcc, jump}
use Rattle.x86.specs.Encode.{isa, len}
use Rattle.x86.specs.Code.{Dest, near, to, field, size, targets_of}
use Rattle.x86.specs.Lowered.{lowered, code_of, fields_of}
use Rattle.x86.proofs.CodeLaws.{lawful, length-bytes, len-map, size-append}
use Rattle.code.proofs.CodeLaws.{lowered-append}
use Rattle.code.proofs.LandingLaws.{follow-near, lowered-span, stands-lower, entry_of, Raised, raise}
use Rattle.code.proofs.LandingLaws as shared
use Rattle.jit.specs.MulDivMod.{Code}
use Rattle.jit.specs.Slots.{slot_code}
use Rattle.jit.specs.Frame.{saves, packet_start, packet_end, argument, enter, prologue, epilogue}
use Rattle.jit.specs.Translation.{Filter, Inputs, slots_of, Block, slots_wide, flat, whole, page_of, locations, place_of}
use Rattle.jit.specs.JumpTables.{kind_table, maker_table}
use Rattle.jit.specs.Passes.{exit_of}
use Rattle.jit.proofs.FrameLaws.{epilogue-targets}
use Rattle.jit.proofs.Bounds.{whole-size}
use Rattle.jit.specs.Translation.{slots_in}
use Rattle.jit.specs.declared.Flags.{Flags}
use Rattle.x86_machine.specs.Machine.{follow}
use Rattle.code.specs.Code.{span}
use Rattle.x86.specs.Lowered.{lower}
use Rattle.jit_safety.specs.Demand3.{blocks_of, ExitAt, Lands, Unlisted, listed, entry, skip, Enters, Landing}
use Rattle.jit_safety.proofs.Pieces.{nears_in, near-found, all_listed, skips_in, Skip, skip-found}
use Rattle.jit_safety.proofs.Checked.{Calls, prologue-calls}
use Rattle.jit_safety.proofs.NotedCode.{Skipping, divides, none-skips, slot-skipping}
use Rattle.jit_safety.proofs.Program.{Origins, OriginIn, OriginsIn, origins-of, Goods}
use Rattle.jit_safety.proofs.PageLayout.{block-piece}

-- An element of two lists joined is one of the first or of the second.
data Cut {A : Type 0} (a b pre : List A) (i : A) (post : List A) : Type 0 where
  left : (more : List A) → a ≡ pre ++ i ∷ more → post ≡ more ++ b → Cut a b pre i post
  right : (more : List A) → pre ≡ a ++ more → b ≡ more ++ i ∷ post → Cut a b pre i post

cut : {A : Type 0} (a b pre : List A) (i : A) (post : List A) → a ++ b ≡ pre ++ i ∷ post → Cut a b pre i post
cut [] b pre i post e = right pre refl e
cut (x ∷ a) b [] i post e =
    let h : x ≡ i = cc in
    let t : a ++ b ≡ post = cc in
    left a (rw h) (sym t)
cut {A} (x ∷ a) b (y ∷ pre) i post e = by (cut a b pre i post (let t : a ++ b ≡ pre ++ i ∷ post = cc in t))
  where
    h : x ≡ y
    h = cc

    by : Cut a b pre i post → Cut (x ∷ a) b (y ∷ pre) i post
    by (left more p q) = left more (rw h (ap (λ (l : List A). y ∷ l) p)) q
    by (right more p q) = right more (rw h (ap (λ (l : List A). y ∷ l) p)) q

-- The prologue's call is the only jump there that is not listed, and goes over the five bytes that are left; the epilogue has none.
abbrev is_call : Jump → Bool
is_call jmp = false
is_call call = true
is_call (jcc c) = false

call-is : (j : Jump) → T (is_call j) → j ≡ call
call-is jmp t = absurd t
call-is call t = refl
call-is (jcc c) t = absurd t

abbrev is_entry : Jump → ℕ → Code → Bool
is_entry j k r = is_call j && (eqb k 5 && eqb (size r) 5)

prologue-nears : (f : Flags) → T (nears_in is_entry (prologue f))
unfolding saves packet_start packet_end argument enter prologue
prologue-nears f = by f.use_mbuff f.update_data_ptr
  where
    by : (a b : Bool) → T (nears_in is_entry (prologue (record { use_mbuff = a; update_data_ptr = b })))
    by true true = tt
    by true false = tt
    by false b = tt

epilogue-nears : T (all_listed epilogue)
unfolding epilogue
epilogue-nears = tt

-- a jump of the blocks that is not listed, in its block, which is a slot's that divides; the first block is that of slot n
record InBlock (program : List ℕ) (n : ℕ) (bs : List Block) (pre : Code) (j : Jump) (k : ℕ) (post : Code) : Type 0 where
  ahead : List Block
  block : Block
  behind : List Block
  split : bs ≡ ahead ++ block ∷ behind
  above : Code
  below : Code
  start : pre ≡ flat ahead ++ above
  inside : block.code ≡ above ++ jump j (near k) ∷ below
  rest : post ≡ below ++ flat behind
  skips : T (skips_in block.code)
  width : Width
  divides : kind_of (insn_at program (n + slots_in ahead)).opc ≡ Known (MulDivMod Div width Reg)

-- a block with such a jump
skip-divides : (filter : Filter) (n : ℕ) (b : Block) → OriginIn filter n b → (pre : Code) (j : Jump) (k : ℕ) (post : Code)
    → b.code ≡ pre ++ jump j (near k) ∷ post
    → (w : Width) × (kind_of (insn_at filter.program n).opc ≡ Known (MulDivMod Div w Reg))
skip-divides filter n b o pre j k post e = by (slot-skipping o.origin.mode o.origin.kind n o.origin.insn o.origin.value)
  where
    code : Code
    code = slot_code o.origin.mode o.origin.kind n o.origin.insn o.origin.value

    by : Skipping o.origin.kind code → (w : Width) × (kind_of (insn_at filter.program n).opc ≡ Known (MulDivMod Div w Reg))
    by (divides w q) = (w, o.looked ∙ rw q)
    by (none-skips t) = absurd (near-found (λ j k r. false) code pre j k post t (sym (ap (λ (b : Block). b.code) o.origin.same) ∙ e))

in_block : (filter : Filter) (n : ℕ) (bs : List Block) → OriginsIn filter n bs → (pre : Code) (j : Jump) (k : ℕ) (post : Code)
    → flat bs ≡ pre ++ jump j (near k) ∷ post → InBlock filter.program n bs pre j k post
in_block filter n [] o [] j k post e = let z : ◌≡◌ {A = ℕ} 0 1 = cc in absurd (omega arith)
in_block filter n [] o (i ∷ pre) j k post e = let z : ◌≡◌ {A = ℕ} 0 1 = cc in absurd (omega arith)
in_block filter n (b ∷ bs) o pre j k post e =
    by (cut b.code (flat bs) pre (jump j (near k)) post e) (λ more h. in_block filter next bs o.1 more j k post h)
  where
    next : ℕ
    next = n + slots_wide b.wide

    later : (more : Code) → pre ≡ b.code ++ more → InBlock filter.program next bs more j k post → InBlock filter.program n (b ∷ bs) pre j k post
    later more p r =
        record {
          ahead = b ∷ r.ahead;
          block = r.block;
          behind = r.behind;
          split = ap (λ (l : List Block). b ∷ l) r.split;
          above = r.above;
          below = r.below;
          start = p ∙ ap (λ (l : Code). b.code ++ l) r.start ∙ sym (append_assoc b.code (flat r.ahead) r.above);
          inside = r.inside;
          rest = r.rest;
          skips = r.skips;
          width = r.width;
          divides = rw (add_assoc n (slots_wide b.wide) (slots_in r.ahead)) at r.divides;
        }

    by : Cut b.code (flat bs) pre (jump j (near k)) post
        → ((more : Code) → flat bs ≡ more ++ jump j (near k) ∷ post → InBlock filter.program next bs more j k post)
        → InBlock filter.program n (b ∷ bs) pre j k post
    by (left more p q) ih =
        let d = skip-divides filter n b o.0 pre j k more p in
        record {
          ahead = [];
          block = b;
          behind = bs;
          split = refl;
          above = pre;
          below = more;
          start = refl;
          inside = p;
          rest = q;
          skips = (block-piece n b o.0.origin).skips;
          width = d.0;
          divides = rw (add-zero n) d.1;
        }
    by (right more p q) ih = later more p (ih more q)

-- where the exit lies
pub exit-there : (f : Flags) (bs : List Block)
    → let loc = place_of (locations f bs) (exit_of f bs) in ExitAt (code_of loc (whole f bs)) (lowered loc 0 (whole f bs)) (exit_of f bs)
unfolding epilogue
exit-there f bs =
    let loc = place_of (locations f bs) (exit_of f bs) in
    let front = prologue f ++ flat bs in
    let e : whole f bs ≡ front ++ epilogue = sym (append_assoc (prologue f) (flat bs) epilogue) in
    record {
      before = lowered loc 0 front;
      split = ap (lowered loc 0) e ∙ lowered-append isa loc 0 front epilogue;
      place = lowered-span isa loc 0 front ∙ size-append (prologue f) (flat bs);
      ends = rw (length-bytes loc 0 (whole f bs), whole-size f bs) (omega arith);
    }

-- All of it, for the blocks of x.
module _ (x : Inputs) (bs : List Block) (is-blocks : blocks_of x ≡ bs) (from : OriginsIn x.filter 0 bs) (short : size (whole x.flags bs) < 2 ^ 31)
    (few : length (locations x.flags bs) ≡ slots_of x.filter.program + 1) (good : Goods (slots_of x.filter.program) (targets_of (whole x.flags bs))) where
  o : Origins 0 bs
  o = origins-of x.filter 0 bs from

  abbrev f : Flags
  f = x.flags

  abbrev locs : List ℕ
  locs = locations f bs

  abbrev loc : ℕ → ℕ
  loc = place_of locs (exit_of f bs)

  abbrev code : List ℕ
  code = code_of loc (whole f bs)

  abbrev all : List (Instr ℕ)
  all = lowered loc 0 (whole f bs)

  end_lt : (pre : Code) (i : Instr Dest) (post : Code) → whole f bs ≡ pre ++ i ∷ post → size pre + len i < 2 ^ 31
  end_lt pre i post e = omega (arith, ap size e ∙ size-append pre (i ∷ post))

  abbrev kinds : List ℕ
  kinds = kind_table isa (page_of f bs)

  abbrev makers : List ℕ
  makers = maker_table (page_of f bs)

  lands : (k : ℕ) → k < length (fields_of 0 (whole f bs))
      → Lands x code all locs (get_or (fields_of 0 (whole f bs)) k 0) (get_or (targets_of (whole f bs)) k 0) (get_or kinds k 0) (get_or makers k 0)
  lands =
      rw is-blocks
      (shared.lands-at lawful (page_of f bs) (slots_of x.filter.program) short few good epilogue-targets (ExitAt code all) (exit-there f bs))

  -- the other jumps
  module _ (q v : ℕ) (j : Jump) (behind : List (Instr ℕ)) (r : Raised isa loc 0 (whole f bs) j v q behind) where
    abbrev at : ℕ
    at = q + len {D = ℕ} (jump j v)

    abbrev Out : Type 0
    Out = Unlisted x (fields_of 0 (whole f bs)) j v at behind

    out_listed : (t : ℕ) → r.dest ≡ to t → Out
    out_listed t e =
        let s : whole f bs ≡ r.pre ++ jump j (to t) ∷ r.post = r.split ∙ rw e in
        let n = entry_of isa 0 r.pre j t r.post in
        listed (length (fields_of 0 r.pre)) (rw s n.0) (rw s (n.1 ∙ omega (arith, r.far)))

    module _ (k : ℕ) (e : r.dest ≡ near k) where
      is-near : v ≡ k
      is-near = r.value ∙ rw e

      whole_split : whole f bs ≡ r.pre ++ jump j (near k) ∷ r.post
      whole_split = r.split ∙ rw e

      out-entry : (more : Code) → prologue f ≡ r.pre ++ jump j (near k) ∷ more → Out
      out-entry more s =
          let t = near-found is_entry (prologue f) r.pre j k more (prologue-nears f) s in
          let u = and_r (is_call j) (eqb k 5 && eqb (size more) 5) t in
          let five : k ≡ 5 = eqb→eq k 5 (and_l (eqb k 5) (eqb (size more) 5) u) in
          let left : size more ≡ 5 = eqb→eq (size more) 5 (and_r (eqb k 5) (eqb (size more) 5) u) in
          let n : size (prologue f) ≡ at + k = ap size s ∙ size-append r.pre (jump j (near k) ∷ more) ∙ omega (arith, r.far, five, left) in
          let y = end_lt r.pre (jump j (near k)) r.post whole_split in
          let m : size (whole f bs) ≡ size (prologue f) + size (flat bs ++ epilogue) = size-append (prologue f) (flat bs ++ epilogue) in
          entry (call-is j (and_l (is_call j) (eqb k 5 && eqb (size more) 5) t)) (omega (arith, n, five)) (rw (is-near, follow-near at k (omega (arith, n, m))) (sym n))

      -- below the skip: the slot's other instructions, the blocks behind it, the epilogue
      out-skip : (more post : Code) → r.pre ≡ prologue f ++ more → r.post ≡ post ++ epilogue → (b : InBlock x.filter.program 0 bs more j k post)
          → Skip j k b.below → Out
      out-skip more post p s b d =
          let c = b.block.code in
          let tail = (d.more ++ flat b.behind) ++ epilogue in
          let rest : r.post ≡ op d.clear ∷ jump jmp (to d.target) ∷ d.behind ∷ tail =
          s ∙ ap (λ (l : Code). l ++ epilogue) b.rest ∙ ap (λ (l : Code). (l ++ flat b.behind) ++ epilogue) d.over in
          let e0 : ℕ = 0 + q + len {D = Dest} (jump j r.dest) in
          let e1 : ℕ = e0 + len {D = Dest} (op d.clear) in
          let e2 : ℕ = e1 + 5 in
          let next = lower loc e2 d.behind in
          let begin : ℕ = size (prologue f) + size (flat b.ahead) in
          let n : q ≡ begin + size b.above =
          sym r.far ∙ ap size p ∙ size-append (prologue f) more ∙ ap (λ (l : Code). size (prologue f) + size l) b.start
          ∙ (rw (size-append (flat b.ahead) b.above) (omega arith)) in
          let m : size c ≡ size b.above + (len {D = Dest} (jump j (near k)) + (len {D = Dest} (op d.clear) + (5 + (len d.behind + size d.more)))) =
          ap size b.inside ∙ size-append b.above (jump j (near k) ∷ b.below)
          ∙ ap (λ (l : Code). size b.above + (len {D = Dest} (jump j (near k)) + size l)) d.over in
          let w : size (whole f bs) ≡ at + size r.post = ap size whole_split ∙ size-append r.pre (jump j (near k) ∷ r.post) ∙ rw r.far (omega arith) in
          let t : size r.post ≡ len {D = Dest} (op d.clear) + (5 + (len d.behind + size tail)) = ap size rest in
          let g : follow at v ≡ at + k = rw is-near (follow-near at k (omega (arith, w, t, d.far, short))) in
          let l : len next ≡ len d.behind = len-map (field loc (e2 + len d.behind)) d.behind in
          skip
          (record {
            unequal = d.unequal;
            clear = d.clear;
            field = field loc e2 (to d.target);
            next = next;
            more = lowered loc (e2 + len d.behind) tail;
            over = r.others ∙ ap (lowered loc e0) rest;
            goes = g ∙ omega (arith, d.far);
            t = slots_in b.ahead;
            q = begin;
            block = b.block;
            slot = record { ahead = b.ahead; behind = b.behind; split = is-blocks ∙ b.split; number = refl; place = refl };
            width = b.width;
            divides = rw (zero-add (slots_in b.ahead)) at b.divides;
            from = omega (arith, n);
            within = omega (arith, g, n, m, d.far, l);
          })

    -- in which part of the page it stands
    out : Out
    out = by r.dest refl
      where
        in_flat : (k : ℕ) → r.dest ≡ near k → (more : Code) → r.pre ≡ prologue f ++ more
            → Cut (flat bs) epilogue more (jump j (near k)) r.post → Out
        in_flat k e more p (left post a b) =
            let c = in_block x.filter 0 bs from more j k post a in
            out-skip k e more post p b c (skip-found c.block.code c.above j k c.below c.skips c.inside)
        in_flat k e more p (right post a b) = absurd (near-found (λ j k r. false) epilogue post j k r.post epilogue-nears b)

        in_whole : (k : ℕ) → r.dest ≡ near k → Cut (prologue f) (flat bs ++ epilogue) r.pre (jump j (near k)) r.post → Out
        in_whole k e (left more a b) = out-entry k e more a
        in_whole k e (right more a b) = in_flat k e more a (cut (flat bs) epilogue more (jump j (near k)) r.post b)

        by : (d : Dest) → r.dest ≡ d → Out
        by (near k) e = in_whole k e (cut (prologue f) (flat bs ++ epilogue) r.pre (jump j (near k)) r.post (whole_split k e))
        by (to t) e = out_listed t e

  -- the prologue's call
  enters : Enters x all
  enters = by (prologue-calls f)
    where
      by : Calls (prologue f) → Enters x all
      by c =
          let behind = jump jmp (to c.aim) ∷ (flat bs ++ epilogue) in
          let n : size (prologue f) ≡ size c.pre + 10 = ap size c.split ∙ size-append c.pre (jump call (near 5) ∷ jump jmp (to c.aim) ∷ []) in
          let e : whole f bs ≡ c.pre ++ jump call (near 5) ∷ behind =
          ap (λ (l : Code). l ++ (flat bs ++ epilogue)) c.split ∙ append_assoc c.pre (jump call (near 5) ∷ jump jmp (to c.aim) ∷ []) (flat bs ++ epilogue) in
          let m : size (whole f bs) ≡ size (prologue f) + size (flat bs ++ epilogue) = size-append (prologue f) (flat bs ++ epilogue) in
          record {
            field = 5;
            stands = stands-lower isa loc (whole f bs) c.pre (jump call (near 5)) behind (size (prologue f) - 10) e (omega (arith, n));
            goes = follow-near (size (prologue f) - 5) 5 (omega (arith, m, n)) ∙ omega (arith, n);
          }

  pub landing : Landing x code all locs (fields_of 0 (whole f bs)) (targets_of (whole f bs)) kinds makers
  landing =
      record {
        pairs =
            shared.pairs lawful (page_of f bs) (slots_of x.filter.program) short few good epilogue-targets (ExitAt code all) (exit-there f bs);
        listed = lands;
        enters = enters;
        others = λ p v j s.
            rw s.place at (out (span len s.before) v j s.behind (raise isa loc 0 (whole f bs) s.before j v s.behind s.split));
      }
