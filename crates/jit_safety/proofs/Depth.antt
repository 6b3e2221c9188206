-- The second check: RSP. A note says how many bytes RSP is below where it stood when the frame began, the frame of the innermost open call
-- or of the run. Where notes pass the check, and the epilogue is entered only by the prologue's jump, each return finds RSP where its call
-- left it. The check stays out of control flow: to fall into the epilogue is legal there, and excluded only by this premise.
use mathlib.Core.Path.{◌≡◌, refl, ap, sym, ◌∙◌, subst}
use mathlib.Core.Logic.{◌≢◌}
use mathlib.Core.Bool.{Bool, true, false, not, ◌&&◌, ◌||◌}
use mathlib.Core.List.{List, [], ◌∷◌}
use Prim.Native.Nat.{ℕ, suc, ◌+◌, ◌-◌, ◌%◌, ◌^◌, ◌≤◌, ◌<◌}
use native.Mathlib.Omega.{arith}
use lib.Dec.{T, leb, ltb, eqb, eqb→eq, leb→le, ltb→lt}
use lib.ListN.{drop}
use Rattle.base.specs.Pick.{pick}
use Rattle.base.proofs.Tests.{true-T, and_l, and_r, or_elim, leb-true}
use Rattle.base.specs.declared.Width.{Width}
use Rattle.base.specs.declared.Width.TheVariants.{W32, W64}
use Rattle.x86.specs.Registers.{RSP}
use Rattle.x86.specs.Instr.{Alu, ADD, OR, AND, SUB, XOR, CMP, MOV, TEST, Plain, push, pop, alu, alu_imm, shift_imm, shift_cl, unary, mov_imm, rol16, bswap, load}
use Rattle.x86.specs.Instr.{store, store_imm, jmp, call, jcc, Instr, op, jump, call_reg, ret}
use Rattle.x86.specs.Encode.{len}
use Rattle.x86.specs.Decode.{got, decode}
use Rattle.x86.specs.Code.{Dest, near, to, map_i, field}
use Rattle.x86.specs.Lowered.{lowered, bytes, code_of}
use Rattle.x86_machine.specs.Machine.{Regs, rd, puts, result, alu_writes, extended, down, up, Input, State, Frame, Outcome, running, finished, faulted}
use Rattle.x86_machine.specs.Machine.{unbalanced, divided, astray, writes_of, status_of, faults_of, holds, Effect, next, raises, goes, effect, moved, helped}
use Rattle.x86_machine.specs.Machine.{returned, land, touches, step, after, run, top_of, Entry, EntersFrom}
use Rattle.code.proofs.Placed.{Want, want, fits, skip, met, passes, passes_at}
use Rattle.x86.proofs.ReadsLaws.{WfCode, fetch-at, fetch-len}
use Rattle.x86.specs.Lowered.{lower}
use Rattle.jit_safety.proofs.Facts.{memb, keys_of, keys-of, puts-other, not-false}
use Rattle.jit_safety.proofs.Cells.{Cell, cell, cell_len, instrs, extent, Place, size-instrs, split-instrs, StandsIn, Leads, leads}

-- How deep RSP is behind an instruction, and whether that is so: only PUSH, POP, and ADD and SUB of a constant at 64 bits may move it.
abbrev pub adjusted : Alu → (depth imm : ℕ) → ℕ
adjusted ADD d x = d - x
adjusted OR d x = d
adjusted AND d x = d
adjusted SUB d x = d + x
adjusted XOR d x = d
adjusted CMP d x = d
adjusted MOV d x = d
adjusted TEST d x = d

abbrev pub adjusts : Alu → Width → (depth imm : ℕ) → Bool
adjusts ADD W32 d x = false
adjusts ADD W64 d x = leb x d && ltb x (2 ^ 31)
adjusts OR w d x = false
adjusts AND w d x = false
adjusts SUB W32 d x = false
adjusts SUB W64 d x = ltb x (2 ^ 31)
adjusts XOR w d x = false
adjusts CMP w d x = false
adjusts MOV w d x = false
adjusts TEST w d x = false

abbrev pub sinks : Plain → ℕ → ℕ
sinks (push r) d = d + 8
sinks (pop r) d = d - 8
sinks (alu o w s r) d = d
sinks (alu_imm o w r x) d = pick (eqb r RSP) (adjusted o d x) d
sinks (shift_imm o w r i) d = d
sinks (shift_cl o w r) d = d
sinks (unary o w r) d = d
sinks (mov_imm w r i) d = d
sinks (rol16 r i) d = d
sinks (bswap w r) d = d
sinks (load z b r x) d = d
sinks (store z s b x) d = d
sinks (store_imm z b x i) d = d

abbrev pub sinks_by : {D : Type 0} → Instr D → ℕ → ℕ
sinks_by (op p) d = sinks p d
sinks_by (jump j x) d = d
sinks_by (call_reg r) d = d
sinks_by ret d = d

abbrev keeps_rsp : Plain → Bool
keeps_rsp p = not (memb RSP (keys_of p))

abbrev pub steady : Plain → ℕ → Bool
steady (push r) d = true
steady (pop r) d = leb 8 d && not (eqb RSP r)
steady (alu o w s r) d = keeps_rsp (alu o w s r)
steady (alu_imm o w r x) d = pick (eqb r RSP) (adjusts o w d x) (keeps_rsp (alu_imm o w r x))
steady (shift_imm o w r i) d = keeps_rsp (shift_imm o w r i)
steady (shift_cl o w r) d = keeps_rsp (shift_cl o w r)
steady (unary o w r) d = keeps_rsp (unary o w r)
steady (mov_imm w r i) d = keeps_rsp (mov_imm w r i)
steady (rol16 r i) d = keeps_rsp (rol16 r i)
steady (bswap w r) d = keeps_rsp (bswap w r)
steady (load z b r x) d = keeps_rsp (load z b r x)
steady (store z s b x) d = true
steady (store_imm z b x i) d = true

-- Five pushes and 512 bytes: how deep RSP is at the prologue's jump, and in the epilogue.
abbrev pub framed : ℕ
framed = 552

abbrev pub exactly : ℕ → Cell → Bool
exactly d c = eqb c.depth d

-- or the gate, which is outside the premise unless the prologue's jump leads to it
abbrev pub level : ℕ → Cell → Bool
level d c = eqb c.depth d || c.gate

-- A listed jump leaves a slot, and so has nothing pushed, unless it is the prologue's, to the anchor a. A return has nothing pushed.
abbrev pub even_at : (a depth : ℕ) → Instr Dest → Bool
even_at a d (op p) = steady p d
even_at a d (jump jmp (near k)) = true
even_at a d (jump jmp (to t)) = eqb d 0 || (eqb d framed && eqb t a)
even_at a d (jump call x) = true
even_at a d (jump (jcc c) (near k)) = true
even_at a d (jump (jcc c) (to t)) = eqb d 0
even_at a d (call_reg r) = true
even_at a d ret = eqb d 0

-- a call begins a frame, and comes back at the depth that it had
abbrev pub depths : ℕ → Instr Dest → List (Want cell_len)
depths d (op p) = want cell_len 0 (level (sinks p d)) ∷ []
depths d (jump jmp (near k)) = want cell_len k (level d) ∷ []
depths d (jump jmp (to t)) = []
depths d (jump call (near k)) = want cell_len 0 (level d) ∷ want cell_len k (level 0) ∷ []
depths d (jump call (to t)) = want cell_len 0 (level d) ∷ []
depths d (jump (jcc c) (near k)) = want cell_len 0 (level d) ∷ want cell_len k (level d) ∷ []
depths d (jump (jcc c) (to t)) = want cell_len 0 (level d) ∷ []
depths d (call_reg r) = want cell_len 0 (level d) ∷ []
depths d ret = []

abbrev pub even_cell : ℕ → Cell → Bool
even_cell a c = even_at a c.depth c.instr

abbrev pub depths_of : Cell → List (Want cell_len)
depths_of c = depths c.depth c.instr

abbrev pub balanced : ℕ → List Cell → Bool
balanced a = passes cell_len (even_cell a) depths_of

-- an open call comes back at a depth of the frame below it, which lies right above its return address
pub record Opened (cells : List Cell) (r : ℕ) (f : Frame) (k : List Frame) : Type 0 where
  pub deep : ℕ
  pub place : Place cells f.back (level deep)
  pub above : (f.sp + 8 + deep) % 2 ^ 64 ≡ top_of r k % 2 ^ 64

abbrev pub Opens : List Cell → ℕ → List Frame → Type 0
Opens cells r [] = Unit {0}
Opens cells r (f ∷ k) = Opened cells r f k × Opens cells r k

pub record Even (cells : List Cell) (r : ℕ) (s : State) : Type 0 where
  pub deep : ℕ
  pub place : Place cells s.pos (exactly deep)
  pub below : (s.regs RSP + deep) % 2 ^ 64 ≡ top_of r s.calls % 2 ^ 64
  pub opens : Opens cells r s.calls

abbrev pub EvenOut : List Cell → ℕ → Outcome → Type 0
EvenOut cells r (running s) = Even cells r s
EvenOut cells r (finished s) = s.regs RSP ≡ (r + 8) % 2 ^ 64
EvenOut cells r faulted = Unit {0}
EvenOut cells r unbalanced = Unit {0}
EvenOut cells r divided = Unit {0}
EvenOut cells r astray = Unit {0}

-- Arithmetic modulo 2 ^ 64.
push-below : (x d t : ℕ) → (x + d) % 2 ^ 64 ≡ t → (down x + (d + 8)) % 2 ^ 64 ≡ t
push-below x d t h = omega arith

pop-below : (x d t : ℕ) → 8 ≤ d → (x + d) % 2 ^ 64 ≡ t → (up x + (d - 8)) % 2 ^ 64 ≡ t
pop-below x d t l h = omega arith

call-above : (x d t : ℕ) → (x + d) % 2 ^ 64 ≡ t → (down x + 8 + d) % 2 ^ 64 ≡ t
call-above x d t h = omega arith

ret-below : (x p n t : ℕ) → x % 2 ^ 64 ≡ p % 2 ^ 64 → (p + 8 + n) % 2 ^ 64 ≡ t → (up x + n) % 2 ^ 64 ≡ t
ret-below x p n t h k = omega arith

sub-below : (x d y t : ℕ) → y < 2 ^ 31 → (x + d) % 2 ^ 64 ≡ t → ((x % 2 ^ 64 + 2 ^ 64 - y) % 2 ^ 64 + (d + y)) % 2 ^ 64 ≡ t
sub-below x d y t l h = omega arith

add-below : (x d y t : ℕ) → y ≤ d → (x + d) % 2 ^ 64 ≡ t → ((x % 2 ^ 64 + y) % 2 ^ 64 + (d - y)) % 2 ^ 64 ≡ t
add-below x d y t l h = omega arith

-- What a steady instruction leaves.
module _ (g : Regs) (d t : ℕ) (b : (g RSP + d) % 2 ^ 64 ≡ t) where
  kept-below : (p : Plain) (u : Input) → T (keeps_rsp p) → (puts (writes_of p g u) g RSP + d) % 2 ^ 64 ≡ t
  kept-below p u k = rw (puts-other (writes_of p g u) g RSP (rw (keys-of p g u) (not-false (memb RSP (keys_of p)) k))) b

  adjusted-below : (o : Alu) (w : Width) (y r : ℕ) → eqb r RSP ≡ true → T (adjusts o w d y)
      → (puts (alu_writes o r (result o w (rd w g r) (extended w y))) g RSP + adjusted o d y) % 2 ^ 64 ≡ t
  unfolding rd result
  adjusted-below ADD W32 y r e k = absurd k
  adjusted-below ADD W64 y r e k =
      let l = ltb→lt y (2 ^ 31) (and_r (leb y d) (ltb y (2 ^ 31)) k) in
      let m = leb→le y d (and_l (leb y d) (ltb y (2 ^ 31)) k) in
      rw (eqb→eq r RSP (true-T _ e), leb-true (suc y) (2 ^ 31) l) (add-below (g RSP) d y t m b)
  adjusted-below OR w y r e k = absurd k
  adjusted-below AND w y r e k = absurd k
  adjusted-below SUB W32 y r e k = absurd k
  adjusted-below SUB W64 y r e k =
      let l = ltb→lt y (2 ^ 31) k in
      rw (eqb→eq r RSP (true-T _ e), leb-true (suc y) (2 ^ 31) l) (sub-below (g RSP) d y t l b)
  adjusted-below XOR w y r e k = absurd k
  adjusted-below CMP w y r e k = absurd k
  adjusted-below MOV w y r e k = absurd k
  adjusted-below TEST w y r e k = absurd k

  below_of : (p : Plain) (u : Input) → T (steady p d) → (puts (writes_of p g u) g RSP + sinks p d) % 2 ^ 64 ≡ t
  below_of (push r) u k = push-below (g RSP) d t b
  below_of (pop r) u k =
      rw (not-false (eqb RSP r) (and_r (leb 8 d) (not (eqb RSP r)) k))
      (pop-below (g RSP) d t (leb→le 8 d (and_l (leb 8 d) (not (eqb RSP r)) k)) b)
  below_of (alu o w s r) u k = kept-below (alu o w s r) u k
  below_of (alu_imm o w r x) u k = go (eqb r RSP) refl
    where
      go : (z : Bool) → eqb r RSP ≡ z → (puts (writes_of (alu_imm o w r x) g u) g RSP + sinks (alu_imm o w r x) d) % 2 ^ 64 ≡ t
      go true e = rw e (adjusted-below o w x r e (rw e at k))
      go false e = rw e (kept-below (alu_imm o w r x) u (rw e at k))
  below_of (shift_imm o w r i) u k = kept-below (shift_imm o w r i) u k
  below_of (shift_cl o w r) u k = kept-below (shift_cl o w r) u k
  below_of (unary o w r) u k = kept-below (unary o w r) u k
  below_of (mov_imm w r i) u k = kept-below (mov_imm w r i) u k
  below_of (rol16 r i) u k = kept-below (rol16 r i) u k
  below_of (bswap w r) u k = kept-below (bswap w r) u k
  below_of (load z c r x) u k = kept-below (load z c r x) u k
  below_of (store z s c x) u k = b
  below_of (store_imm z c x i) u k = b

abbrev is_ret : {D : Type 0} → Instr D → Bool
is_ret (op p) = false
is_ret (jump j x) = false
is_ret (call_reg r) = false
is_ret ret = true

-- the prologue's jump is one of these
abbrev is_jump : Instr Dest → Bool
is_jump (op p) = false
is_jump (jump jmp (near k)) = false
is_jump (jump jmp (to k)) = true
is_jump (jump call x) = false
is_jump (jump (jcc c) x) = false
is_jump (call_reg r) = false
is_jump ret = false

-- x: the epilogue's place, j: the place of the prologue's jump
module _ (cells : List Cell) (loc : ℕ → ℕ) (a x j r : ℕ) (good : T (balanced a cells)) (wfs : WfCode (instrs cells)) (small : extent cells < 2 ^ 31)
    (labels : (t : ℕ) → Place cells (loc t) (level 0))
    (gates : (p : ℕ) (Q : Cell → Bool) (v : Place cells p Q) → T v.cell.gate → p ≡ x)
    (exit : Place cells (loc a) (exactly framed))
    (only : (p : ℕ) (Q : Cell → Bool) (v : Place cells p Q) → p ≡ j → (v.cell.depth ≡ framed) × (v.cell.instr ≡ jump jmp (to a))) where
  -- behind one step, from the place p: within the premise
  abbrev Evenly : ℕ → Outcome → Type 0
  Evenly p (running t) = (t.pos ≡ x → p ≡ j) → Even cells r t
  Evenly p (finished s) = s.regs RSP ≡ (r + 8) % 2 ^ 64
  Evenly p faulted = Unit {0}
  Evenly p unbalanced = Unit {0}
  Evenly p divided = Unit {0}
  Evenly p astray = Unit {0}

  evenly-pick : (p : ℕ) (b : Bool) (o : Outcome) → Evenly p o → Evenly p (pick b faulted o)
  evenly-pick p true o h = tt
  evenly-pick p false o h = h

  -- at a level that is right, or through the gate, which the premise excludes
  arrives : (p : ℕ) (t : State) (d : ℕ) → p ≢ j → Place cells t.pos (level d) → (t.regs RSP + d) % 2 ^ 64 ≡ top_of r t.calls % 2 ^ 64
      → Opens cells r t.calls → Evenly p (running t)
  arrives p t d n v b o enters =
      or_elim {C = Even cells r t} (eqb v.cell.depth d) v.cell.gate v.fit
      (λ e. record { deep = d; place = record { pre = v.pre; cell = v.cell; post = v.post; split = v.split; at = v.at; fit = e }; below = b; opens = o })
      (λ g. absurd (n (enters (gates t.pos (level d) v g))))

  returns-evenly : (p : ℕ) (s : State) (e : Effect ℕ) (b : ℕ) (k : List Frame) → p ≢ j → puts e.writes s.regs RSP ≡ up (s.regs RSP)
      → s.regs RSP % 2 ^ 64 ≡ top_of r k % 2 ^ 64 → Opens cells r k → Evenly p (returned s e b k)
  returns-evenly p s e b [] n q h o = q ∙ omega arith
  returns-evenly p s e b (f ∷ k) n q h o = go (eqb b f.back)
    where
      go : (z : Bool) → Evenly p (pick z (running (moved s e f.back k)) unbalanced)
      go true =
          arrives p (moved s e f.back k) o.0.deep n o.0.place
          (rw q (ret-below (s.regs RSP) f.sp o.0.deep (top_of r k % 2 ^ 64) h o.0.above)) o.1
      go false = tt

  -- one instruction in its place
  module _ (pre : List Cell) (c : Cell) (d : ℕ) (post : List Cell) (s : State) (u : Input)
      (b : (s.regs RSP + d) % 2 ^ 64 ≡ top_of r s.calls % 2 ^ 64) (o : Opens cells r s.calls) where
    abbrev this : Instr Dest → Cell
    this i = cell c.facts d c.gate i

    abbrev Stands : Instr Dest → Type 0
    Stands = StandsIn cells loc pre c.facts d c.gate post

    abbrev end : Instr Dest → ℕ
    end i = extent pre + len i

    abbrev here : (i : Instr Dest) → Stands i → Place cells (extent pre) (λ _. true)
    here i e = record { pre = pre; cell = this i; post = post; split = e; at = refl; fit = tt }

    -- an instruction that is no listed jump is not the prologue's, nor is one that has nothing pushed
    other : (i : Instr Dest) → Stands i → is_jump i ≡ false → extent pre ≢ j
    other i e n q =
        let z : i ≡ jump jmp (to a) = (only (extent pre) (λ _. true) (here i e) q).1 in
        let w : true ≡ false = sym (ap is_jump z) ∙ n in
        let y : ◌≡◌ {A = ℕ} 0 1 = cc in omega arith

    shallow : (i : Instr Dest) → Stands i → d ≡ 0 → extent pre ≢ j
    shallow i e n q = let z : d ≡ framed = (only (extent pre) (λ _. true) (here i e) q).0 in omega arith

    leading : Leads cells loc pre c.facts d c.gate post
    leading = leads cells loc pre c.facts d c.gate post small

    abbrev first : ℕ → Bool
    first m = fits cell_len (level m) (skip cell_len 0 post)

    abbrev second : ℕ → ℕ → Bool
    second k m = fits cell_len (level m) (skip cell_len k post)

    abbrev Lands : Instr Dest → Type 0
    Lands i =
        let y = effect (lower loc (extent pre) i) s.regs s.flags u in
        Evenly (extent pre) (land (end i) s u y y.control)

    lands : (i : Instr Dest) → Stands i → T (even_at a d i) → T (met cell_len (depths d i) post) → Lands i
    lands (op p) e t m = go (faults_of p s.regs)
      where
        does : Bool → Effect ℕ
        does z = record { writes = writes_of p s.regs u; flags = status_of p s.regs s.flags u; control = pick z raises next }

        go : (z : Bool) → Evenly (extent pre) (land (end (op p)) s u (does z) (pick z raises next))
        go true = tt
        go false =
            arrives (extent pre) _ (sinks p d) (other (op p) e refl) (leading.falls (op p) (level (sinks p d)) e (and_l (first (sinks p d)) true m))
            (below_of s.regs d (top_of r s.calls % 2 ^ 64) b p u t) o
    lands (jump jmp (near k)) e t m =
        arrives (extent pre) _ d (other (jump jmp (near k)) e refl) (leading.skips (jump jmp (near k)) k (level d) e (and_l (second k d) true m)) b o
    lands (jump jmp (to k)) e t m =
        or_elim {C = Lands (jump jmp (to k))} (eqb d 0) (eqb d framed && eqb k a) t
        (λ z.
        let z0 = eqb→eq d 0 z in
        arrives (extent pre) _ 0 (shallow (jump jmp (to k)) e z0) (leading.jumps (jump jmp (to k)) k (level 0) e (labels k)) (rw z0 at b) o)
        (λ z enters.
        let z0 = eqb→eq d framed (and_l (eqb d framed) (eqb k a) z) in
        let z1 = eqb→eq k a (and_r (eqb d framed) (eqb k a) z) in
        record { deep = framed; place = leading.jumps (jump jmp (to k)) k (exactly framed) e (rw z1 exit); below = rw z0 at b; opens = o })
    lands (jump call (near k)) e t m =
        arrives (extent pre) _ 0 (other (jump call (near k)) e refl)
        (leading.skips (jump call (near k)) k (level 0) e (and_l (second k 0) true (and_r (first d) (second k 0 && true) m)))
        (omega arith) (
          record {
            deep = d;
            place = leading.falls (jump call (near k)) (level d) e (and_l (first d) (second k 0 && true) m);
            above = call-above (s.regs RSP) d (top_of r s.calls % 2 ^ 64) b;
          },
          o,
        )
    lands (jump call (to k)) e t m =
        arrives (extent pre) _ 0 (other (jump call (to k)) e refl) (leading.jumps (jump call (to k)) k (level 0) e (labels k)) (omega arith) (
          record {
            deep = d;
            place = leading.falls (jump call (to k)) (level d) e (and_l (first d) true m);
            above = call-above (s.regs RSP) d (top_of r s.calls % 2 ^ 64) b;
          },
          o,
        )
    lands (jump (jcc f) (near k)) e t m = go (holds f s.flags)
      where
        n : extent pre ≢ j
        n = other (jump (jcc f) (near k)) e refl

        x' : ℕ
        x' = field loc (end (jump (jcc f) (near k))) (near k)

        go : (z : Bool) → Evenly (extent pre) (land (end (jump (jcc f) (near k))) s u (record { writes = []; flags = s.flags; control = pick z (goes x') next }) (pick z (goes x') next))
        go true = arrives (extent pre) _ d n (leading.skips (jump (jcc f) (near k)) k (level d) e (and_l (second k d) true (and_r (first d) (second k d && true) m))) b o
        go false = arrives (extent pre) _ d n (leading.falls (jump (jcc f) (near k)) (level d) e (and_l (first d) (second k d && true) m)) b o
    lands (jump (jcc f) (to k)) e t m = go (holds f s.flags)
      where
        n : extent pre ≢ j
        n = other (jump (jcc f) (to k)) e refl

        x' : ℕ
        x' = field loc (end (jump (jcc f) (to k))) (to k)

        go : (z : Bool) → Evenly (extent pre) (land (end (jump (jcc f) (to k))) s u (record { writes = []; flags = s.flags; control = pick z (goes x') next }) (pick z (goes x') next))
        go true = arrives (extent pre) _ 0 n (leading.jumps (jump (jcc f) (to k)) k (level 0) e (labels k)) (rw (eqb→eq d 0 t) at b) o
        go false = arrives (extent pre) _ d n (leading.falls (jump (jcc f) (to k)) (level d) e (and_l (first d) true m)) b o
    lands (call_reg q) e t m =
        arrives (extent pre) (helped s u (end (call_reg q))) d (other (call_reg q) e refl) (leading.falls (call_reg q) (level d) e (and_l (first d) true m)) b o
    lands ret e t m =
        returns-evenly (extent pre) s (effect {D = ℕ} ret s.regs s.flags u) u.back s.calls (other ret e refl) refl
        (let z = eqb→eq d 0 t in omega arith) o

  -- the note and the check at a place
  checked : (s : State) (v : Even cells r s)
      → T (even_cell a v.place.cell) × T (met cell_len (depths_of v.place.cell) v.place.post)
  checked s v = let p = v.place in passes_at cell_len (even_cell a) depths_of p.pre p.cell p.post (rw p.split at good)

  fetched : (s : State) (v : Even cells r s) → decode (drop s.pos (code_of loc (instrs cells)))
      ≡ got (lower loc s.pos v.place.cell.instr) (bytes (lowered loc (s.pos + len v.place.cell.instr) (instrs v.place.post)))
  fetched s v =
      let p = v.place in
      fetch-at loc (instrs cells) (instrs p.pre) p.cell.instr (instrs p.post) s.pos (split-instrs cells p.pre p.cell p.post p.split) (size-instrs p.pre ∙ p.at) wfs

  step-even : (s : State) (u : Input) → Even cells r s → Evenly s.pos (step (code_of loc (instrs cells)) s u)
  unfolding step
  step-even s u v =
      let p = v.place in
      let c = p.cell in
      let i = c.instr in
      let y = lower loc s.pos i in
      let e = effect y s.regs s.flags u in
      let deep : c.depth ≡ v.deep = eqb→eq c.depth v.deep p.fit in
      let b : (s.regs RSP + c.depth) % 2 ^ 64 ≡ top_of r s.calls % 2 ^ 64 = rw deep v.below in
      let ok = checked s v in
      let l = lands p.pre c c.depth p.post s u b v.opens i p.split ok.0 ok.1 in
      rw (fetched s v, fetch-len loc (instrs cells) (instrs p.pre) i (instrs p.post) s.pos (split-instrs cells p.pre c p.post p.split) (size-instrs p.pre ∙ p.at))
      (evenly-pick s.pos (touches y && not u.allowed) (land (s.pos + len i) s u e e.control)
      (subst (λ (m : ℕ). let e = effect (lower loc m i) s.regs s.flags u in Evenly m (land (m + len i) s u e e.control)) p.at l))

  pub run-even : (us : List Input) (s : State) → Even cells r s → EntersFrom (code_of loc (instrs cells)) x j us s
      → EvenOut cells r (run (code_of loc (instrs cells)) us s)
  unfolding run EntersFrom
  run-even [] s v h = v
  run-even (u ∷ us) s v h = go (step (code_of loc (instrs cells)) s u) (step-even s u v) h (λ t w k. run-even us t w k)
    where
      code : List ℕ
      code = code_of loc (instrs cells)

      go : (o : Outcome) → Evenly s.pos o → Entry x j s.pos o (λ t. EntersFrom code x j us t)
          → ((t : State) → Even cells r t → EntersFrom code x j us t → EvenOut cells r (run code us t))
          → EvenOut cells r (after o (λ t. run code us t))
      go (running t) w h k = k t (w h.0) h.1
      go (finished t) w h k = w
      go faulted w h k = tt
      go unbalanced w h k = tt
      go divided w h k = tt
      go astray w h k = tt

  -- Where a return stands, RSP is as the innermost open call left it, or as the run began.
  ret-depth : (f : Dest → ℕ) (d : ℕ) (i : Instr Dest) → T (is_ret (map_i f i)) → T (even_at a d i) → d ≡ 0
  ret-depth f d (op p) z t = absurd z
  ret-depth f d (jump k x) z t = absurd z
  ret-depth f d (call_reg q) z t = absurd z
  ret-depth f d ret z t = eqb→eq d 0 t

  pub even-ret : (s : State) (q : List ℕ) → Even cells r s → decode (drop s.pos (code_of loc (instrs cells))) ≡ got ret q
      → s.regs RSP % 2 ^ 64 ≡ top_of r s.calls % 2 ^ 64
  even-ret s q v e =
      let c = v.place.cell in
      let g = fetched s v in
      let h : lower loc s.pos c.instr ≡ ret = cc in
      let z : T (is_ret (lower loc s.pos c.instr)) = rw h tt in
      let d0 : c.depth ≡ 0 = ret-depth (field loc (s.pos + len c.instr)) c.depth c.instr z (checked s v).0 in
      let d1 : c.depth ≡ v.deep = eqb→eq c.depth v.deep v.place.fit in
      omega (arith, v.below)
