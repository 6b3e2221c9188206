-- Reading code end to end and at a place: crate code's laws, of this processor. The bytes of a list of well-formed instructions are read as
-- that list, whatever its fields become.
use mathlib.Core.Path.{◌≡◌}
use mathlib.Core.List.{List, [], ◌∷◌, ◌++◌}
use Prim.Native.Nat.{ℕ, ◌+◌, ◌-◌, ◌≤◌, ◌<◌, ◌^◌}
use native.Mathlib.Omega.{arith}
use lib.ListN.{length, drop, length-append}
use Rattle.base.specs.declared.Size.{Size}
use Rattle.base.specs.declared.Size.TheVariants.{S8, S16, S32, S64}
use Rattle.code.proofs.ReadsLaws as code
use Rattle.base.specs.declared.Width.TheVariants.{W32, W64}
use Rattle.x86.specs.Instr.{Plain, push, pop, alu, alu_imm, shift_imm, shift_cl, unary, mov_imm, rol16, bswap, load, store, store_imm, Instr, op, jump, call_reg, ret}
use Rattle.x86.proofs.WellFormed.{Wf}
use Rattle.x86.specs.Encode.{isa, rex, wide, wide_size, memory, prefix66, store_rex, load_opcode, encode_plain, len}
use Rattle.x86.specs.Decode.{got, all, decode, read_all}
use Rattle.x86.specs.Code.{Dest, near, to, map_i, field, size}
use Rattle.x86.specs.Lowered.{lower, lowered, bytes, code_of}
use Rattle.x86.specs.Fill.{blank}
use Rattle.x86.proofs.CodeLaws.{lawful}
use Rattle.x86.proofs.RoundTrip.{trip}

-- No instruction is empty.
load-some : (z : Size) (t : List ℕ) → 1 ≤ length (load_opcode z ++ t)
load-some S8 t = omega arith
load-some S16 t = omega arith
load-some S32 t = omega arith
load-some S64 t = omega arith

plain-some : (p : Plain) → 1 ≤ length (encode_plain p)
plain-some (push r) = rw (length-append (rex 0 0 r)) (omega arith)
plain-some (pop r) = rw (length-append (rex 0 0 r)) (omega arith)
plain-some (alu o w s d) = rw (length-append (rex (wide w) s d)) (omega arith)
plain-some (alu_imm o w d i) = rw (length-append (rex (wide w) 0 d)) (omega arith)
plain-some (shift_imm o w d i) = rw (length-append (rex (wide w) 0 d)) (omega arith)
plain-some (shift_cl o w d) = rw (length-append (rex (wide w) 0 d)) (omega arith)
plain-some (unary o w r) = rw (length-append (rex (wide w) 0 r)) (omega arith)
plain-some (mov_imm W32 d i) = rw (length-append (rex 0 0 _)) (omega arith)
plain-some (mov_imm W64 d i) = rw (length-append (rex 1 0 _)) (omega arith)
plain-some (rol16 d i) = omega arith
plain-some (bswap w d) = rw (length-append (rex (wide w) 0 d)) (omega arith)
plain-some (load z b d x) = rw (length-append (rex (wide_size z) d b)) (omega (arith, load-some z (memory d b x)))
plain-some (store z s b x) = rw (length-append (prefix66 z), length-append (store_rex z s b)) (omega arith)
plain-some (store_imm z b x i) = rw (length-append (prefix66 z), length-append (rex (wide_size z) 0 b)) (omega arith)

pub len-some : {D : Type 0} (i : Instr D) → 1 ≤ len i
len-some (op p) = plain-some p
len-some (jump j x) = omega arith
len-some (call_reg r) = omega arith
len-some ret = omega arith

-- what crate code asks of a reader
abbrev pub reader : code.Reader isa
reader = record { decode = decode; Wf = Wf; lawful = lawful; trip = trip; some = len-some }

-- Well-formed lists of instructions with destinations, whatever the fields become: a skip has to fit in four bytes; a listed target's field
-- always does.
abbrev pub WfDest : Instr Dest → Type 0
WfDest i = Wf (map_i blank i)

abbrev pub WfCode : List (Instr Dest) → Type 0
WfCode [] = Unit {0}
WfCode (i ∷ is) = WfDest i × WfCode is

pub wf-append : (a b : List (Instr Dest)) → WfCode a → WfCode b → WfCode (a ++ b)
wf-append [] b p q = q
wf-append (i ∷ a) b p q = (p.0, wf-append a b p.1 q)

wf-field : (loc : ℕ → ℕ) (e : ℕ) (d : Dest) → blank d < 2 ^ 32 → field loc e d < 2 ^ 32
wf-field loc e (near k) h = h
wf-field loc e (to t) h = omega arith

pub wf-lower : (loc : ℕ → ℕ) (e : ℕ) (i : Instr Dest) → WfDest i → Wf (map_i (field loc e) i)
wf-lower loc e (op p) w = w
wf-lower loc e (jump j d) w = wf-field loc e d w
wf-lower loc e (call_reg r) w = w
wf-lower loc e ret w = tt

wfs-lowered : (loc : ℕ → ℕ) (p : ℕ) (is : List (Instr Dest)) → WfCode is → code.Wfs reader (lowered loc p is)
wfs-lowered loc p [] w = tt
wfs-lowered loc p (i ∷ is) w = (wf-lower loc (p + len i) i w.0, wfs-lowered loc (p + len i) is w.1)

pub wf-at : (pre : List (Instr Dest)) (i : Instr Dest) (post : List (Instr Dest)) → WfCode (pre ++ i ∷ post) → WfDest i
wf-at [] i post w = w.0
wf-at (a ∷ pre) i post w = wf-at pre i post w.1

-- the first of what is read is read at the first byte
pub first_read : (bytes : List ℕ) (i : Instr ℕ) (is : List (Instr ℕ)) → read_all bytes ≡ all (i ∷ is) → (r : List ℕ) × (decode bytes ≡ got i r)
first_read = code.first_read decode

pub read-all : (loc : ℕ → ℕ) (is : List (Instr Dest)) → WfCode is → read_all (code_of loc is) ≡ all (lowered loc 0 is)
read-all loc is w = code.read-all reader loc is (wfs-lowered loc 0 is w)

-- an instruction at its place; and as many bytes are read there as it has
module _ (loc : ℕ → ℕ) (is pre : List (Instr Dest)) (i : Instr Dest) (post : List (Instr Dest)) (p : ℕ) (e : is ≡ pre ++ i ∷ post)
    (z : size pre ≡ p) where
  pub fetch-at : WfCode is → decode (drop p (code_of loc is)) ≡ got (lower loc p i) (bytes (lowered loc (p + len i) post))
  fetch-at w = code.fetch-at reader loc is pre i post p e z (wfs-lowered loc 0 is w)

  pub fetch-len : length (drop p (code_of loc is)) - length (bytes (lowered loc (p + len i) post)) ≡ len i
  fetch-len = code.fetch-len reader loc is pre i post p e z
