-- Code that is known to pass the checks, and how pieces of it make one.
use mathlib.Core.Path.{◌≡◌, refl, ◌∙◌}
use mathlib.Core.Bool.{Bool, true, false, not, ◌&&◌}
use mathlib.Core.List.{List, [], ◌∷◌, ◌++◌, append_assoc}
use Prim.Native.Nat.{ℕ, ◌+◌, ◌-◌, ◌≤◌}
use native.Mathlib.Omega.{arith}
use lib.Dec.{T, leb, eqb, eqb→eq, leb→le}
use Rattle.base.proofs.Tests.{and_l, and_r, or_elim}
use Rattle.x86.specs.Instr.{Plain, JB, JAE, JE, JNE, JBE, JA, JL, JGE, JLE, JG, Jump, jmp, call, jcc, Instr, op, jump, call_reg, ret}
use Rattle.x86.specs.Encode.{len}
use Rattle.x86.specs.Code.{Dest, near, to}
use Rattle.jit.specs.Limits.{anchor}
use Rattle.jit.specs.MulDivMod.{Code}
use Rattle.code.proofs.Placed.{fits, joined, Grants, both}
use Rattle.x86.proofs.ReadsLaws.{WfCode, wf-append}
use Rattle.jit_safety.proofs.Facts.{Fact, leaves, branch, covers-none}
use Rattle.jit_safety.proofs.Cells.{Cell, cell_len, instrs, instrs-append}
use Rattle.jit_safety.proofs.Flow.{asks, flows, flows_of, safe_cell, flowing}
use Rattle.jit_safety.proofs.Depth.{level, depths, depths_of, even_cell, balanced, sinks}
use Rattle.jit_safety.proofs.Notes.{Note, codes, plain, laid, annotated, codes-annotated}
use Rattle.jit_safety.proofs.Checked.{stop, fine, fine_notes, fine_code}

-- A jump that is not listed is a division's skip: JNE over one instruction and a listed JMP, to the instruction behind these two.
abbrev behind_jmp : (k : ℕ) → Code → Bool
behind_jmp k [] = false
behind_jmp k (op p ∷ r) = false
behind_jmp k (jump jmp (near x) ∷ r) = false
behind_jmp k (jump jmp (to t) ∷ []) = false
behind_jmp k (jump jmp (to t) ∷ i ∷ r) = eqb k 5
behind_jmp k (jump call d ∷ r) = false
behind_jmp k (jump (jcc c) d ∷ r) = false
behind_jmp k (call_reg x ∷ r) = false
behind_jmp k (ret ∷ r) = false

abbrev behind_both : (k : ℕ) → Code → Bool
behind_both k [] = false
behind_both k (op p ∷ r) = leb (len {D = Dest} (op p)) k && behind_jmp (k - len {D = Dest} (op p)) r
behind_both k (jump j d ∷ r) = false
behind_both k (call_reg x ∷ r) = false
behind_both k (ret ∷ r) = false

abbrev is_jne : Jump → Bool
is_jne jmp = false
is_jne call = false
is_jne (jcc JB) = false
is_jne (jcc JAE) = false
is_jne (jcc JE) = false
is_jne (jcc JNE) = true
is_jne (jcc JBE) = false
is_jne (jcc JA) = false
is_jne (jcc JL) = false
is_jne (jcc JGE) = false
is_jne (jcc JLE) = false
is_jne (jcc JG) = false

-- a test of every jump that is not listed: its kind, how far it goes, and the instructions behind it
abbrev near_at : (Jump → ℕ → Code → Bool) → Instr Dest → Code → Bool
near_at P (op p) r = true
near_at P (jump j (near k)) r = P j k r
near_at P (jump j (to t)) r = true
near_at P (call_reg x) r = true
near_at P ret r = true

abbrev pub nears_in : (Jump → ℕ → Code → Bool) → Code → Bool
nears_in P [] = true
nears_in P (i ∷ r) = near_at P i r && nears_in P r

pub near-found : (P : Jump → ℕ → Code → Bool) (c pre : Code) (j : Jump) (k : ℕ) (post : Code) → T (nears_in P c)
    → c ≡ pre ++ jump j (near k) ∷ post → T (P j k post)
near-found P c pre j k post t e = go pre (rw e at t)
  where
    go : (pre : Code) → T (nears_in P (pre ++ jump j (near k) ∷ post)) → T (P j k post)
    go [] t = and_l (P j k post) (nears_in P post) t
    go (i ∷ pre) t = go pre (and_r (near_at P i (pre ++ jump j (near k) ∷ post)) (nears_in P (pre ++ jump j (near k) ∷ post)) t)

-- every jump is listed
abbrev pub all_listed : Code → Bool
all_listed = nears_in (λ j k r. false)

abbrev is_skip : Jump → ℕ → Code → Bool
is_skip j k r = is_jne j && behind_both k r

abbrev pub skips_in : Code → Bool
skips_in = nears_in is_skip

-- the shape of a skip of k bytes, the instructions behind it being r
pub record Skip (j : Jump) (k : ℕ) (r : Code) : Type 0 where
  pub clear : Plain
  pub target : ℕ
  pub behind : Instr Dest
  pub more : Code
  pub unequal : j ≡ jcc JNE
  pub over : r ≡ op clear ∷ jump jmp (to target) ∷ behind ∷ more
  pub far : k ≡ len {D = Dest} (op clear) + 5

jne-is : (j : Jump) → T (is_jne j) → j ≡ jcc JNE
jne-is jmp t = absurd t
jne-is call t = absurd t
jne-is (jcc JB) t = absurd t
jne-is (jcc JAE) t = absurd t
jne-is (jcc JE) t = absurd t
jne-is (jcc JNE) t = refl
jne-is (jcc JBE) t = absurd t
jne-is (jcc JA) t = absurd t
jne-is (jcc JL) t = absurd t
jne-is (jcc JGE) t = absurd t
jne-is (jcc JLE) t = absurd t
jne-is (jcc JG) t = absurd t

skip-jmp : (j : Jump) (p : Plain) (k : ℕ) (r : Code) → j ≡ jcc JNE → len {D = Dest} (op p) ≤ k → T (behind_jmp (k - len {D = Dest} (op p)) r) → Skip j k (op p ∷ r)
skip-jmp j p k [] e h t = absurd t
skip-jmp j p k (op q ∷ r) e h t = absurd t
skip-jmp j p k (jump jmp (near x) ∷ r) e h t = absurd t
skip-jmp j p k (jump jmp (to x) ∷ []) e h t = absurd t
skip-jmp j p k (jump jmp (to x) ∷ i ∷ r) e h t =
    record { clear = p; target = x; behind = i; more = r; unequal = e; over = refl; far = let q = eqb→eq (k - len {D = Dest} (op p)) 5 t in omega arith }
skip-jmp j p k (jump call d ∷ r) e h t = absurd t
skip-jmp j p k (jump (jcc c) d ∷ r) e h t = absurd t
skip-jmp j p k (call_reg x ∷ r) e h t = absurd t
skip-jmp j p k (ret ∷ r) e h t = absurd t

skip_both : (j : Jump) (k : ℕ) (r : Code) → j ≡ jcc JNE → T (behind_both k r) → Skip j k r
skip_both j k [] e t = absurd t
skip_both j k (op p ∷ r) e t =
    let l = len {D = Dest} (op p) in
    skip-jmp j p k r e (leb→le l k (and_l (leb l k) (behind_jmp (k - l) r) t)) (and_r (leb l k) (behind_jmp (k - l) r) t)
skip_both j k (jump q d ∷ r) e t = absurd t
skip_both j k (call_reg x ∷ r) e t = absurd t
skip_both j k (ret ∷ r) e t = absurd t

pub skip-found : (c pre : Code) (j : Jump) (k : ℕ) (post : Code) → T (skips_in c) → c ≡ pre ++ jump j (near k) ∷ post → Skip j k post
skip-found c pre j k post t e =
    let h = near-found is_skip c pre j k post t e in
    skip_both j k post (jne-is j (and_l (is_jne j) (behind_both k post) h)) (and_r (is_jne j) (behind_both k post) h)

behind_jmp-more : (k : ℕ) (a b : Code) → T (behind_jmp k a) → T (behind_jmp k (a ++ b))
behind_jmp-more k [] b t = absurd t
behind_jmp-more k (op p ∷ r) b t = absurd t
behind_jmp-more k (jump jmp (near x) ∷ r) b t = absurd t
behind_jmp-more k (jump jmp (to x) ∷ []) b t = absurd t
behind_jmp-more k (jump jmp (to x) ∷ i ∷ r) b t = t
behind_jmp-more k (jump call d ∷ r) b t = absurd t
behind_jmp-more k (jump (jcc c) d ∷ r) b t = absurd t
behind_jmp-more k (call_reg x ∷ r) b t = absurd t
behind_jmp-more k (ret ∷ r) b t = absurd t

behind_both-more : (k : ℕ) (a b : Code) → T (behind_both k a) → T (behind_both k (a ++ b))
behind_both-more k [] b t = absurd t
behind_both-more k (op p ∷ r) b t =
    let l = len {D = Dest} (op p) in
    both (leb l k) (behind_jmp (k - l) r) (leb l k) (behind_jmp (k - l) (r ++ b)) (λ x. x) (behind_jmp-more (k - l) r b) t
behind_both-more k (jump q d ∷ r) b t = absurd t
behind_both-more k (call_reg x ∷ r) b t = absurd t
behind_both-more k (ret ∷ r) b t = absurd t

skip_at-more : (i : Instr Dest) (a b : Code) → T (near_at is_skip i a) → T (near_at is_skip i (a ++ b))
skip_at-more (op p) a b t = tt
skip_at-more (jump j (near k)) a b t = both (is_jne j) (behind_both k a) (is_jne j) (behind_both k (a ++ b)) (λ x. x) (behind_both-more k a b) t
skip_at-more (jump j (to x)) a b t = tt
skip_at-more (call_reg x) a b t = tt
skip_at-more ret a b t = tt

skips-append : (a b : Code) → T (skips_in a) → T (skips_in b) → T (skips_in (a ++ b))
skips-append [] b p q = q
skips-append (i ∷ a) b p q =
    both (near_at is_skip i a) (skips_in a) (near_at is_skip i (a ++ b)) (skips_in (a ++ b)) (skip_at-more i a b) (λ x. skips-append a b x q) p

-- only the epilogue's first cell is a gate
abbrev pub shut : List Cell → Bool
shut [] = true
shut (c ∷ r) = not c.gate && shut r

pub shut-append : (a b : List Cell) → T (shut a) → T (shut b) → T (shut (a ++ b))
shut-append [] b p q = q
shut-append (c ∷ a) b p q = both (not c.gate) (shut a) (not c.gate) (shut (a ++ b)) (λ x. x) (λ x. shut-append a b x q) p

pub shut-laid : (l : List Note) (d : ℕ) → T (shut (laid false d l))
shut-laid [] d = tt
shut-laid (n ∷ l) d = shut-laid l _

pub instrs-laid : (g : Bool) (d : ℕ) (l : List Note) → instrs (laid g d l) ≡ codes l
instrs-laid g d [] = refl
instrs-laid g d (n ∷ l) = rw (instrs-laid false _ l)

codes-plain : (c : Code) → codes (plain c) ≡ c
codes-plain [] = refl
codes-plain (i ∷ c) = rw (codes-plain c)

-- What `stop` grants, any rest grants that wants nothing known and nothing pushed.
abbrev end : List Cell
end = stop ∷ []

module _ (rest : List Cell) where
  free-asks : T (fits cell_len (asks []) rest) → (G : List Fact) → T (asks G stop) → T (fits cell_len (asks G) rest)
  free-asks h G t = go rest h
    where
      go : (l : List Cell) → T (fits cell_len (asks []) l) → T (fits cell_len (asks G) l)
      go [] h = absurd h
      go (c ∷ l) h = covers-none c.facts G h

  flow-grants : T (fits cell_len (asks []) rest) → (F : List Fact) (i : Instr Dest) → Grants cell_len stop rest (flows F i)
  flow-grants h F (op p) = (free-asks h (leaves p F), tt)
  flow-grants h F (jump jmp (near k)) = (free-asks h F, tt)
  flow-grants h F (jump jmp (to t)) = tt
  flow-grants h F (jump call (near k)) = (free-asks h [], (free-asks h [], tt))
  flow-grants h F (jump call (to t)) = (free-asks h [], tt)
  flow-grants h F (jump (jcc c) (near k)) = (free-asks h (branch c false F), (free-asks h (branch c true F), tt))
  flow-grants h F (jump (jcc c) (to t)) = (free-asks h (branch c false F), tt)
  flow-grants h F (call_reg r) = (free-asks h [], tt)
  flow-grants h F ret = tt

  level-zero : T (fits cell_len (level 0) rest) → (d : ℕ) → T (level d stop) → T (fits cell_len (level d) rest)
  level-zero h d t = or_elim (eqb 0 d) false t (λ z. rw (← (eqb→eq 0 d z)) h) (λ z. absurd z)

  depth-grants : T (fits cell_len (level 0) rest) → (d : ℕ) (i : Instr Dest) → Grants cell_len stop rest (depths d i)
  depth-grants h d (op p) = (level-zero h (sinks p d), tt)
  depth-grants h d (jump jmp (near k)) = (level-zero h d, tt)
  depth-grants h d (jump jmp (to t)) = tt
  depth-grants h d (jump call (near k)) = (level-zero h d, (level-zero h 0, tt))
  depth-grants h d (jump call (to t)) = (level-zero h d, tt)
  depth-grants h d (jump (jcc c) (near k)) = (level-zero h d, (level-zero h d, tt))
  depth-grants h d (jump (jcc c) (to t)) = (level-zero h d, tt)
  depth-grants h d (call_reg r) = (level-zero h d, tt)
  depth-grants h d ret = tt

-- both checks of a row of cells, and what its first one wants
pub record Passed (cells : List Cell) : Type 0 where
  pub flow : T (flowing cells)
  pub even : T (balanced anchor cells)
  pub free : T (fits cell_len (asks []) cells)
  pub flat : T (fits cell_len (level 0) cells)

head-swap : (Q : Cell → Bool) (b rest : List Cell) → T (fits cell_len Q (b ++ end)) → T (fits cell_len Q rest)
    → T (fits cell_len Q (b ++ rest))
head-swap Q [] rest p q = q
head-swap Q (c ∷ b) rest p q = p

-- a block that passes alone, before a rest that passes
pub before : (b rest : List Cell) → Passed (b ++ end) → Passed rest → Passed (b ++ rest)
before b rest p q =
    record {
      flow = joined cell_len stop rest safe_cell flows_of (λ c. flow-grants rest q.free c.facts c.instr) b p.flow q.flow;
      even = joined cell_len stop rest (even_cell anchor) depths_of (λ c. depth-grants rest q.flat c.depth c.instr) b p.even q.even;
      free = head-swap (asks []) b rest p.free q.free;
      flat = head-swap (level 0) b rest p.flat q.flat;
    }

pub passed : (b : List Cell) → T (fine b) → Passed (b ++ end)
passed b t =
    let f = flowing (b ++ end) in
    let e = balanced anchor (b ++ end) in
    let a = fits cell_len (asks []) (b ++ end) in
    let l = fits cell_len (level 0) (b ++ end) in
    let t1 = and_r f (e && (a && l)) t in
    let t2 = and_r e (a && l) t1 in
    record { flow = and_l f (e && (a && l)) t; even = and_l e (a && l) t1; free = and_l a l t2; flat = and_r a l t2 }

-- Code with notes that pass.
pub record Piece (c : Code) : Type 0 where
  pub cells : List Cell
  pub same : instrs cells ≡ c
  pub passes : Passed (cells ++ end)
  pub shuts : T (shut cells)
  pub wf : WfCode c
  pub skips : T (skips_in c)

pub append : (a b : Code) → Piece a → Piece b → Piece (a ++ b)
append a b p q =
    record {
      cells = p.cells ++ q.cells;
      same = instrs-append p.cells q.cells ∙ rw (p.same, q.same);
      passes = rw append_assoc (before p.cells (q.cells ++ end) p.passes q.passes);
      shuts = shut-append p.cells q.cells p.shuts q.shuts;
      wf = wf-append a b p.wf q.wf;
      skips = skips-append a b p.skips q.skips;
    }

pub none : Piece []
none = record { cells = []; same = refl; passes = record { flow = tt; even = tt; free = tt; flat = tt }; shuts = tt; wf = tt; skips = tt }

-- from notes, from code that needs none, and from code by the notes that it asks for
pub noted : (c : Code) (l : List Note) → codes l ≡ c → T (fine_notes l) → WfCode c → T (skips_in c) → Piece c
noted c l e t w s =
    record { cells = laid false 0 l; same = instrs-laid false 0 l ∙ e; passes = passed (laid false 0 l) t; shuts = shut-laid l 0; wf = w; skips = s }

pub unnoted : (c : Code) → T (fine_notes (plain c)) → WfCode c → T (skips_in c) → Piece c
unnoted c t w s = noted c (plain c) (codes-plain c) t w s

pub found : (c : Code) → T (fine_code c) → WfCode c → T (skips_in c) → Piece c
found c t w s = noted c (annotated c) (codes-annotated c) t w s
