-- The code of crate jit, with the notes that it asks for, passes both checks: by computation, over all registers of the program where they
-- matter. A slot is checked with `stop` behind it, which stands for what may follow: it wants nothing known and nothing pushed.
use mathlib.Core.Path.{◌≡◌, refl, ap}
use mathlib.Core.Bool.{Bool, true, false, ◌&&◌, ◌||◌}
use mathlib.Core.List.{List, [], ◌∷◌, ◌++◌}
use Prim.Native.Nat.{ℕ, zero, suc, ◌^◌, ◌<◌}
use lib.Dec.{T, ltb, eqb, eqb→eq, ltb→lt}
use lib.ListN.{get_or, drop}
use Rattle.base.specs.Pick.{pick}
use Rattle.base.proofs.Tests.{true-T, and_l, and_r, or_elim}
use Rattle.base.specs.declared.Width.{Width}
use Rattle.base.specs.declared.Width.TheVariants.{W32, W64}
use Rattle.ebpf.specs.declared.kind.MulOp.{MulOp}
use Rattle.ebpf.specs.declared.kind.MulOp.TheVariants.{Mul, Div, Mod}
use Rattle.x86.specs.Registers.{RAX, RCX, RDX, RBX, RBP, RSI, RDI, R8, R9, R13, R14, R15}
use Rattle.x86.specs.Instr.{Instr, Plain, op, alu_imm, mov_imm, MOV, jump, jmp, call, jcc, call_reg, ret}
use Rattle.x86.specs.Encode.{rex}
use Rattle.x86.specs.Code.{Dest, near, to}
use Rattle.jit.specs.Limits.{anchor}
use Rattle.jit.specs.Constants.{extends, loaded}
use Rattle.jit.specs.MulDivMod.{Code, computed, mul_div_mod_reg}
use Rattle.jit.specs.Slots.{reg_of, local_call}
use Rattle.jit.specs.Frame.{saves, packet_start, packet_end, argument, enter, prologue, epilogue}
use Rattle.jit.specs.Modes.{rust}
use Rattle.jit.specs.declared.Flags.{Flags}
use Rattle.jit.specs.declared.Mode.{Mode}
use Rattle.jit_safety.proofs.Cells.{Cell, cell, cell_len}
use Rattle.code.proofs.Placed.{fits}
use Rattle.jit_safety.proofs.Flow.{asks, flowing}
use Rattle.jit_safety.proofs.Depth.{level, balanced}
use Rattle.jit_safety.proofs.Notes.{Note, laid, annotated, prologue_cells, epilogue_cells}

abbrev pub stop : Cell
stop = cell [] 0 false ret

-- both checks, alone, and the first cell wants nothing known and nothing pushed
abbrev pub fine : List Cell → Bool
fine b =
    flowing (b ++ (stop ∷ []))
    && (balanced anchor (b ++ (stop ∷ []))
    && (fits cell_len (asks []) (b ++ (stop ∷ []))
    && fits cell_len (level 0) (b ++ (stop ∷ []))))

abbrev pub fine_notes : List Note → Bool
fine_notes l = fine (laid false 0 l)

-- code, with the notes that it asks for
abbrev pub fine_code : Code → Bool
fine_code c = fine_notes (annotated c)

-- Every register of the program: a test that passes at all eleven passes at each. (Any other number is read as RAX.)
abbrev pub every : (ℕ → Bool) → List ℕ → Bool
every P [] = P 0
every P (r ∷ rs) = P r && every P rs

abbrev pub registers : List ℕ
registers = RAX ∷ RDI ∷ RSI ∷ RDX ∷ R9 ∷ R8 ∷ RBX ∷ R13 ∷ R14 ∷ R15 ∷ RBP ∷ []

abbrev pub every_register : (ℕ → Bool) → Bool
every_register P = every P registers

every-at : (P : ℕ → Bool) (rs : List ℕ) → T (every P rs) → (n : ℕ) → T (P (get_or rs n 0))
every-at P [] t n = t
every-at P (r ∷ rs) t zero = and_l (P r) (every P rs) t
every-at P (r ∷ rs) t (suc n) = every-at P rs (and_r (P r) (every P rs) t) n

pub register : (P : ℕ → Bool) → T (every_register P) → (n : ℕ) → T (P (reg_of n))
unfolding reg_of
register P t n = every-at P registers t n

-- By a register, behind the slot's number, which DIV and MOD load first: the same in every mode, since no other constant is loaded.
abbrev pub by_reg : MulOp → (slot : ℕ) → Width → (src dst : ℕ) → Code
by_reg Mul slot w s d = mul_div_mod_reg rust Mul slot w s d
by_reg Div slot w s d = drop 1 (mul_div_mod_reg rust Div slot w s d)
by_reg Mod slot w s d = drop 1 (mul_div_mod_reg rust Mod slot w s d)

-- 11 × 11 registers, three operations, two widths
reg-table : (o : MulOp) (w : Width) (slot : ℕ) → T (every_register (λ s. every_register (λ d. fine_code (by_reg o slot w s d))))
unfolding rex
reg-table Mul W32 slot = tt
reg-table Mul W64 slot = tt
reg-table Div W32 slot = tt
reg-table Div W64 slot = tt
reg-table Mod W32 slot = tt
reg-table Mod W64 slot = tt

pub reg-fine : (o : MulOp) (w : Width) (slot s d : ℕ) → T (fine_code (by_reg o slot w (reg_of s) (reg_of d)))
reg-fine o w slot s d =
    register (λ d. fine_code (by_reg o slot w (reg_of s) d))
    (register (λ s. every_register (λ d. fine_code (by_reg o slot w s d))) (reg-table o w slot) s) d

-- An immediate is loaded as C7, or compact as B8+r with four bytes: what holds of both holds of the one that the mode takes.
pub as-loaded : (P : Plain → Type 0) (m : Mode) (w : Width) (r x : ℕ) → P (alu_imm MOV w r x) → (x < 2 ^ 31 → P (mov_imm W32 r x))
    → P (loaded m (alu_imm MOV w r x))
as-loaded P m w r x whole low = by m.compact (extends MOV w && ltb x (2 ^ 31)) refl
  where
    by : (c t : Bool) → (extends MOV w && ltb x (2 ^ 31)) ≡ t → P (pick c (pick t (mov_imm W32 r x) (alu_imm MOV w r x)) (alu_imm MOV w r x))
    by true true e = low (ltb→lt x (2 ^ 31) (and_r (extends MOV w) (ltb x (2 ^ 31)) (true-T _ e)))
    by true false e = whole
    by false t e = whole

-- an immediate that is not 0 stays a variable; `operand` loads it
abbrev pub by_imm : MulOp → Width → (operand : Plain) → (dst : ℕ) → Code
by_imm o w p d = computed o w (op p ∷ []) d

abbrev FineBy : MulOp → Width → Plain → Type 0
FineBy o w p = T (every_register (λ d. fine_code (by_imm o w p d)))

imm-table : (o : MulOp) (w : Width) (x : ℕ) → eqb x 0 ≡ false → FineBy o w (alu_imm MOV W64 RCX x)
imm-table Mul W32 x e = tt
imm-table Mul W64 x e = tt
imm-table Div W32 x e = rw e tt
imm-table Div W64 x e = rw e tt
imm-table Mod W32 x e = rw e tt
imm-table Mod W64 x e = rw e tt

low-table : (o : MulOp) (w : Width) (x : ℕ) → eqb x 0 ≡ false → FineBy o w (mov_imm W32 RCX x)
low-table Mul W32 x e = tt
low-table Mul W64 x e = tt
low-table Div W32 x e = rw e tt
low-table Div W64 x e = rw e tt
low-table Mod W32 x e = rw e tt
low-table Mod W64 x e = rw e tt

pub imm-fine : (m : Mode) (o : MulOp) (w : Width) (d x : ℕ) → eqb x 0 ≡ false → T (fine_code (by_imm o w (loaded m (alu_imm MOV W64 RCX x)) (reg_of d)))
imm-fine m o w d x e =
    register (λ d. fine_code (by_imm o w (loaded m (alu_imm MOV W64 RCX x)) d))
    (as-loaded (FineBy o w) m W64 RCX x (imm-table o w x e) (λ h. low-table o w x e)) d

pub local-fine : (t : ℕ) → T (fine_code (local_call t))
local-fine t = tt

-- the three prologues
pub prologue-fine : (f : Flags) → T (fine (prologue_cells f))
unfolding prologue_cells saves packet_start packet_end argument enter prologue
prologue-fine f = by f.use_mbuff f.update_data_ptr
  where
    by : (a b : Bool) → T (fine (prologue_cells (record { use_mbuff = a; update_data_ptr = b })))
    by true true = tt
    by true false = tt
    by false b = tt

-- Each ends in a call over a listed jump of five bytes.
abbrev is_leap : List (Instr Dest) → Bool
is_leap [] = false
is_leap (op p ∷ r) = false
is_leap (jump jmp (near k) ∷ r) = false
is_leap (jump jmp (to t) ∷ []) = true
is_leap (jump jmp (to t) ∷ i ∷ r) = false
is_leap (jump call d ∷ r) = false
is_leap (jump (jcc c) d ∷ r) = false
is_leap (call_reg x ∷ r) = false
is_leap (ret ∷ r) = false

abbrev is_over : Instr Dest → List (Instr Dest) → Bool
is_over (op p) r = false
is_over (jump jmp d) r = false
is_over (jump call (near k)) r = eqb k 5 && is_leap r
is_over (jump call (to t)) r = false
is_over (jump (jcc c) d) r = false
is_over (call_reg x) r = false
is_over ret r = false

abbrev pub calling : List (Instr Dest) → Bool
calling [] = false
calling (i ∷ r) = is_over i r || calling r

prologue-calling : (f : Flags) → T (calling (prologue f))
unfolding saves packet_start packet_end argument enter prologue
prologue-calling f = by f.use_mbuff f.update_data_ptr
  where
    by : (a b : Bool) → T (calling (prologue (record { use_mbuff = a; update_data_ptr = b })))
    by true true = tt
    by true false = tt
    by false b = tt

pub record Calls (c : List (Instr Dest)) : Type 0 where
  pub pre : List (Instr Dest)
  pub aim : ℕ
  pub split : c ≡ pre ++ (jump call (near 5) ∷ jump jmp (to aim) ∷ [])

calls-leap : (k : ℕ) (r : List (Instr Dest)) → k ≡ 5 → T (is_leap r) → Calls (jump call (near k) ∷ r)
calls-leap k [] e t = absurd t
calls-leap k (op p ∷ r) e t = absurd t
calls-leap k (jump jmp (near x) ∷ r) e t = absurd t
calls-leap k (jump jmp (to x) ∷ []) e t = record { pre = []; aim = x; split = rw e }
calls-leap k (jump jmp (to x) ∷ i ∷ r) e t = absurd t
calls-leap k (jump call d ∷ r) e t = absurd t
calls-leap k (jump (jcc c) d ∷ r) e t = absurd t
calls-leap k (call_reg x ∷ r) e t = absurd t
calls-leap k (ret ∷ r) e t = absurd t

calls-over : (i : Instr Dest) (r : List (Instr Dest)) → T (is_over i r) → Calls (i ∷ r)
calls-over (op p) r t = absurd t
calls-over (jump jmp d) r t = absurd t
calls-over (jump call (near k)) r t = calls-leap k r (eqb→eq k 5 (and_l (eqb k 5) (is_leap r) t)) (and_r (eqb k 5) (is_leap r) t)
calls-over (jump call (to x)) r t = absurd t
calls-over (jump (jcc c) d) r t = absurd t
calls-over (call_reg x) r t = absurd t
calls-over ret r t = absurd t

calls-in : (c : List (Instr Dest)) → T (calling c) → Calls c
calls-in [] t = absurd t
calls-in (i ∷ r) t = or_elim (is_over i r) (calling r) t (calls-over i r) (λ u. later (calls-in r u))
  where
    later : Calls r → Calls (i ∷ r)
    later v = record { pre = i ∷ v.pre; aim = v.aim; split = ap (λ (l : List (Instr Dest)). i ∷ l) v.split }

pub prologue-calls : (f : Flags) → Calls (prologue f)
prologue-calls f = calls-in (prologue f) (prologue-calling f)

-- the epilogue, behind which nothing follows
pub epilogue-fine : T (flowing epilogue_cells) × T (balanced anchor epilogue_cells) × T (fits cell_len (asks []) epilogue_cells) × T (fits cell_len (level 0) epilogue_cells)
unfolding epilogue_cells epilogue
epilogue-fine = (tt, tt, tt, tt)
