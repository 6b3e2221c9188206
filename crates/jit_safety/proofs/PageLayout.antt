-- The cells of a whole page: the prologue's, those of each block, the epilogue's. They pass both checks, and every target lies where
-- something starts that wants nothing known and nothing pushed: at a slot's start, at the exit, or at the page's first byte.
use mathlib.Core.Path.{◌≡◌, refl, ap, sym, ◌∙◌}
use mathlib.Core.Bool.{Bool, true, false, not}
use mathlib.Core.List.{List, [], ◌∷◌, ◌++◌, append_assoc}
use Prim.Native.Nat.{ℕ, zero, suc, ◌+◌, ◌-◌, ◌≤◌}
use native.Mathlib.Omega.{arith}
use native.Mathlib.Nat.{add_assoc}
use lib.Dec.{T, eqb}
use lib.ListN.{get_or}
use Rattle.base.specs.Pick.{pick}
use Rattle.base.proofs.Tests.{and_l, and_r}
use Rattle.x86.specs.Instr.{jump, jmp}
use Rattle.x86.specs.Code.{to, size}
use Rattle.jit.specs.Limits.{anchor}
use Rattle.jit.specs.Frame.{saves, packet_start, packet_end, argument, enter, prologue, epilogue}
use Rattle.jit.specs.Translation.{Block, slots_wide, flat, entries, whole, locations, place_of}
use Rattle.jit.specs.Passes.{starts, exit_of}
use Rattle.jit.specs.declared.Flags.{Flags}
use Rattle.code.proofs.Placed.{span-append, fits, at_head, at_most, unique}
use Rattle.x86.proofs.ReadsLaws.{WfCode, wf-append, len-some}
use Rattle.jit_safety.proofs.Cells.{Cell, cell, cell_len, instrs, instrs-append, size-instrs, extent, Place}
use Rattle.jit_safety.proofs.Flow.{asks}
use Rattle.jit_safety.proofs.Depth.{level, exactly, framed}
use Rattle.jit_safety.proofs.Notes.{annotated, front_cells, prologue_cells, epilogue_cells}
use Rattle.jit_safety.proofs.Checked.{stop, prologue-fine, epilogue-fine}
use Rattle.jit_safety.proofs.Pieces.{Piece, Passed, before, passed, shut, shut-append, shut-laid}
use Rattle.jit_safety.proofs.NotedCode.{slot-piece, prologue-same, prologue-wf, epilogue-same, epilogue-wf}
use Rattle.jit_safety.proofs.Program.{Origin, Origins}

-- The blocks.
pub block-piece : (slot : ℕ) (b : Block) → Origin slot b → Piece b.code
block-piece slot b o = rw (ap (λ (b : Block). b.code) o.same) (slot-piece o.mode o.kind slot o.insn o.value o.numbers)

abbrev pub flat_cells : (slot : ℕ) (bs : List Block) → Origins slot bs → List Cell
flat_cells slot [] o = []
flat_cells slot (b ∷ bs) o = (block-piece slot b o.0).cells ++ flat_cells (slot + slots_wide b.wide) bs o.1

abbrev end : List Cell
end = stop ∷ []

flat-same : (slot : ℕ) (bs : List Block) (o : Origins slot bs) → instrs (flat_cells slot bs o) ≡ flat bs
flat-same slot [] o = refl
flat-same slot (b ∷ bs) o =
    let p = block-piece slot b o.0 in
    let next = slot + slots_wide b.wide in
    instrs-append p.cells (flat_cells next bs o.1) ∙ rw (p.same, flat-same next bs o.1)

flat-wf : (slot : ℕ) (bs : List Block) → Origins slot bs → WfCode (flat bs)
flat-wf slot [] o = tt
flat-wf slot (b ∷ bs) o = wf-append b.code (flat bs) (block-piece slot b o.0).wf (flat-wf (slot + slots_wide b.wide) bs o.1)

flat-shut : (slot : ℕ) (bs : List Block) (o : Origins slot bs) → T (shut (flat_cells slot bs o))
flat-shut slot [] o = tt
flat-shut slot (b ∷ bs) o =
    let p = block-piece slot b o.0 in
    let next = slot + slots_wide b.wide in
    shut-append p.cells (flat_cells next bs o.1) p.shuts (flat-shut next bs o.1)

flat-passed : (slot : ℕ) (bs : List Block) (o : Origins slot bs) → Passed (flat_cells slot bs o ++ end)
flat-passed slot [] o = record { flow = tt; even = tt; free = tt; flat = tt }
flat-passed slot (b ∷ bs) o =
    let p = block-piece slot b o.0 in
    let next = slot + slots_wide b.wide in
    rw append_assoc (before p.cells (flat_cells next bs o.1 ++ end) p.passes (flat-passed next bs o.1))

-- A cut between two blocks, q bytes behind their first byte, and what a location says: 0, or such a cut.
pub record Start (slot : ℕ) (bs : List Block) (o : Origins slot bs) (q : ℕ) : Type 0 where
  pub above : List Cell
  pub below : List Cell
  pub cut : flat_cells slot bs o ≡ above ++ below
  pub far : extent above ≡ q
  pub passes : Passed (below ++ end)

pub data Found (slot : ℕ) (bs : List Block) (o : Origins slot bs) (p v : ℕ) : Type 0 where
  first : v ≡ 0 → Found slot bs o p v
  start : (q : ℕ) → v ≡ p + q → Start slot bs o q → Found slot bs o p v

module _ (slot : ℕ) (b : Block) (bs : List Block) (o : Origins slot (b ∷ bs)) where
  start-here : Start slot (b ∷ bs) o 0
  start-here =
      record { above = []; below = flat_cells slot (b ∷ bs) o; cut = refl; far = refl; passes = flat-passed slot (b ∷ bs) o }

  later : (q : ℕ) → Start (slot + slots_wide b.wide) bs o.1 q → Start slot (b ∷ bs) o (size b.code + q)
  later q s =
      let p = block-piece slot b o.0 in
      record {
        above = p.cells ++ s.above;
        below = s.below;
        cut = rw s.cut (sym (append_assoc p.cells s.above s.below));
        far = span-append cell_len p.cells s.above ∙ rw (s.far, ← size-instrs p.cells, p.same);
        passes = s.passes;
      }

  found-later : (p v : ℕ) → Found (slot + slots_wide b.wide) bs o.1 (p + size b.code) v → Found slot (b ∷ bs) o p v
  found-later p v (first e) = first e
  found-later p v (start q e s) = start (size b.code + q) (e ∙ add_assoc p (size b.code) q) (later q s)

pub found : (p slot : ℕ) (bs : List Block) (o : Origins slot bs) (t : ℕ) → Found slot bs o p (get_or (starts p bs ++ (0 ∷ [])) t 0)
found p slot [] o zero = first refl
found p slot [] o (suc t) = first refl
found p slot (b ∷ bs) o t = by b.wide t (λ u. found-later slot b bs o p _ (found (p + size b.code) (slot + slots_wide b.wide) bs o.1 u))
  where
    behind : List ℕ
    behind = starts (p + size b.code) bs

    by : (w : Bool) (t : ℕ) → ((u : ℕ) → Found slot (b ∷ bs) o p (get_or (behind ++ (0 ∷ [])) u 0))
        → Found slot (b ∷ bs) o p (get_or ((entries p w ++ behind) ++ (0 ∷ [])) t 0)
    by true zero ih = start 0 (omega arith) (start-here slot b bs o)
    by true (suc zero) ih = first refl
    by true (suc (suc t)) ih = ih t
    by false zero ih = start 0 (omega arith) (start-here slot b bs o)
    by false (suc t) ih = ih t

-- The whole page.
module _ (f : Flags) (bs : List Block) (o : Origins 0 bs) where
  abbrev pub page_cells : List Cell
  page_cells = prologue_cells f ++ (flat_cells 0 bs o ++ epilogue_cells)

  pub page-same : instrs page_cells ≡ whole f bs
  page-same =
      instrs-append (prologue_cells f) (flat_cells 0 bs o ++ epilogue_cells)
      ∙ rw (prologue-same f, instrs-append (flat_cells 0 bs o) epilogue_cells, flat-same 0 bs o, epilogue-same)

  pub page-wf : WfCode (whole f bs)
  page-wf = wf-append (prologue f) (flat bs ++ epilogue) (prologue-wf f) (wf-append (flat bs) epilogue (flat-wf 0 bs o) epilogue-wf)

  leaving : Passed epilogue_cells
  leaving = record { flow = epilogue-fine.0; even = epilogue-fine.1; free = epilogue-fine.2; flat = epilogue-fine.3 }

  pub page-passed : Passed page_cells
  page-passed =
      before (prologue_cells f) (flat_cells 0 bs o ++ epilogue_cells) (passed (prologue_cells f) (prologue-fine f))
      (before (flat_cells 0 bs o) epilogue_cells (flat-passed 0 bs o) leaving)

  pub page-extent : extent page_cells ≡ size (whole f bs)
  page-extent = sym (size-instrs page_cells) ∙ ap size page-same

  front-extent : extent (prologue_cells f) ≡ size (prologue f)
  front-extent = sym (size-instrs (prologue_cells f)) ∙ ap size (prologue-same f)

  -- Labels, for each of the two tests.
  abbrev locs : List ℕ
  locs = locations f bs

  abbrev Label : (Cell → Bool) → ℕ → Type 0
  Label Q t = Place page_cells (place_of locs (exit_of f bs) t) Q

  module _ (Q : Cell → Bool) (fitting : (l : List Cell) → Passed l → T (fits cell_len Q l)) where
    first-place : Place page_cells 0 Q
    first-place = at_head cell_len page_cells [] page_cells Q refl (fitting page_cells page-passed)

    -- where blocks begin, q bytes behind the prologue
    cut-place : (above below : List Cell) (q : ℕ) → flat_cells 0 bs o ≡ above ++ below → extent above ≡ q → Passed (below ++ end)
        → Place page_cells (size (prologue f) + q) Q
    cut-place above below q e far p =
        let cells = prologue_cells f ++ above in
        let at : extent cells ≡ size (prologue f) + q = span-append cell_len (prologue_cells f) above ∙ rw (front-extent, far) in
        let split : page_cells ≡ cells ++ (below ++ epilogue_cells) =
        ap (λ (l : List Cell). prologue_cells f ++ (l ++ epilogue_cells)) e ∙ simp append_assoc in
        rw at at (at_head cell_len page_cells cells (below ++ epilogue_cells) Q split (fitting (below ++ epilogue_cells) (before below epilogue_cells p leaving)))

    exit-place : Place page_cells (exit_of f bs) Q
    exit-place =
        cut-place (flat_cells 0 bs o) [] (size (flat bs)) (sym (nil-right (flat_cells 0 bs o))) (sym (size-instrs (flat_cells 0 bs o)) ∙ ap size (flat-same 0 bs o))
        (record { flow = tt; even = tt; free = tt; flat = tt })
      where
        nil-right : (l : List Cell) → l ++ [] ≡ l
        nil-right [] = refl
        nil-right (c ∷ l) = rw (nil-right l)

    pub label : (t : ℕ) → Label Q t
    label t = by (eqb t anchor)
      where
        located : {v : ℕ} → Found 0 bs o (size (prologue f)) v → Place page_cells v Q
        located (first e) = rw e first-place
        located (start q e s) = rw e (cut-place s.above s.below q s.cut s.far s.passes)

        by : (b : Bool) → Place page_cells (pick b (exit_of f bs) (get_or locs t 0)) Q
        by true = exit-place
        by false = located (found (size (prologue f)) 0 bs o t)

  pub flow-label : (t : ℕ) → Label (asks []) t
  flow-label = label (asks []) (λ l p. p.free)

  pub even-label : (t : ℕ) → Label (level 0) t
  even-label = label (level 0) (λ l p. p.flat)

  -- and so within the page
  pub label-most : (t : ℕ) → place_of locs (exit_of f bs) t ≤ size (whole f bs)
  label-most t = rw page-extent at (at_most cell_len page_cells (place_of locs (exit_of f bs) t) (asks []) (flow-label t))

  pub page-first : (Q : Cell → Bool) → T (fits cell_len Q page_cells) → Place page_cells 0 Q
  page-first Q t = at_head cell_len page_cells [] page_cells Q refl t

  -- The gate: the epilogue's first cell, and no other.
  clash : {C : Type 0} (b : Bool) → T (not b) → T b → C
  clash true p q = absurd p
  clash false p q = absurd q

  shut_at : (pre : List Cell) (c : Cell) (post : List Cell) → T (shut (pre ++ c ∷ post)) → T (not c.gate)
  shut_at [] c post t = and_l (not c.gate) (shut post) t
  shut_at (x ∷ pre) c post t = shut_at pre c post (and_r (not x.gate) (shut (pre ++ c ∷ post)) t)

  gate-extent : (A pre : List Cell) (g c : Cell) (B post : List Cell) → T (shut A) → T (shut B) → A ++ g ∷ B ≡ pre ++ c ∷ post
      → T c.gate → extent pre ≡ extent A
  gate-extent [] [] g c B post p q e t = refl
  gate-extent [] (x ∷ pre) g c B post p q e t = let h : B ≡ pre ++ c ∷ post = cc in clash c.gate (shut_at pre c post (rw h at q)) t
  gate-extent (a ∷ A) [] g c B post p q e t = let h : a ≡ c = cc in clash c.gate (rw h at (and_l (not a.gate) (shut A) p)) t
  gate-extent (a ∷ A) (x ∷ pre) g c B post p q e t =
      let h : a ≡ x = cc in
      let k : A ++ g ∷ B ≡ pre ++ c ∷ post = cc in
      let l = gate-extent A pre g c B post (and_r (not a.gate) (shut A) p) q k t in
      rw (h, l)

  pub gates : (p : ℕ) (Q : Cell → Bool) (v : Place page_cells p Q) → T v.cell.gate → p ≡ exit_of f bs
  unfolding prologue_cells epilogue_cells epilogue
  gates p Q v t =
      let A = prologue_cells f ++ flat_cells 0 bs o in
      let e : A ++ epilogue_cells ≡ page_cells = append_assoc (prologue_cells f) (flat_cells 0 bs o) epilogue_cells in
      let g : extent A ≡ exit_of f bs =
      span-append cell_len (prologue_cells f) (flat_cells 0 bs o) ∙ rw (front-extent, ← size-instrs (flat_cells 0 bs o), flat-same 0 bs o) in
      sym v.at
      ∙ gate-extent A v.pre _ v.cell _ v.post (shut-append (prologue_cells f) (flat_cells 0 bs o) (shut-laid (annotated (prologue f)) 0) (flat-shut 0 bs o)) tt (e ∙ v.split) t
      ∙ g

  pub exit-framed : Place page_cells (place_of locs (exit_of f bs) anchor) (exactly framed)
  unfolding epilogue_cells epilogue
  exit-framed =
      let A = prologue_cells f ++ flat_cells 0 bs o in
      let g : extent A ≡ exit_of f bs =
      span-append cell_len (prologue_cells f) (flat_cells 0 bs o) ∙ rw (front-extent, ← size-instrs (flat_cells 0 bs o), flat-same 0 bs o) in
      rw g at (at_head cell_len page_cells A epilogue_cells (exactly framed) (sym (append_assoc (prologue_cells f) (flat_cells 0 bs o) epilogue_cells)) tt)

  -- The prologue's jump, five bytes before the prologue's end.
  abbrev pub leap : Cell
  leap = cell [] framed false (jump jmp (to anchor))

  front-split : prologue_cells f ≡ front_cells f ++ (leap ∷ [])
  unfolding prologue_cells front_cells saves packet_start packet_end argument enter prologue
  front-split = by f.use_mbuff f.update_data_ptr
    where
      by : (a b : Bool) → let f : Flags = record { use_mbuff = a; update_data_ptr = b } in prologue_cells f ≡ front_cells f ++ (leap ∷ [])
      by true true = refl
      by true false = refl
      by false b = refl

  leap-place : extent (front_cells f) + 5 ≡ size (prologue f)
  leap-place = sym (span-append cell_len (front_cells f) (leap ∷ []) ∙ omega arith) ∙ ap extent (sym front-split) ∙ front-extent

  pub only : (p : ℕ) (Q : Cell → Bool) (v : Place page_cells p Q) → p ≡ size (prologue f) - 5
      → (v.cell.depth ≡ framed) × (v.cell.instr ≡ jump jmp (to anchor))
  only p Q v e =
      let more = flat_cells 0 bs o ++ epilogue_cells in
      let s : page_cells ≡ front_cells f ++ (leap ∷ more) =
      ap (λ (l : List Cell). l ++ more) front-split ∙ append_assoc (front_cells f) (leap ∷ []) more in
      let z : extent v.pre ≡ extent (front_cells f) = v.at ∙ (e ∙ omega (arith, leap-place)) in
      let h : v.cell ≡ leap = unique cell_len (λ c. len-some c.instr) v.pre (front_cells f) v.cell leap v.post more (sym v.split ∙ s) z in
      (ap (λ (c : Cell). c.depth) h, ap (λ (c : Cell). c.instr) h)
