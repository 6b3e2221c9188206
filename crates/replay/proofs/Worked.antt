-- Worked runs: one table under one theorem about the definitions, which antt computes. Each is the whole run of a program over a packet, under the
-- real limit or under a low one.
use mathlib.Core.Path.{◌≡◌, refl}
use mathlib.Core.List.{List, [], ◌∷◌, ◌++◌, map}
use Prim.Native.Nat.{ℕ}
use Rattle.ebpf.specs.Insn.{insn_at}
use Rattle.ebpf.specs.Opcode.{kind_of}
use Rattle.replay.specs.declared.Ended.{Ended}
use Rattle.replay.specs.declared.Ended.TheVariants.{Exit, StepLimit, Access, NoSlot}
use Rattle.replay.specs.Memory.{place_of}
use Rattle.replay.specs.Run.{step_limit, is_second, kind_at, turn_at, Run, run_from, start_of}

-- a program, a packet and a limit; how the run ends, the slots that it runs, and what it leaves of the packet
pub record Line : Type 0 where
  pub program : List ℕ
  pub before : List ℕ
  pub limit : ℕ
  pub how : Ended
  pub ran : List ℕ
  pub after : List ℕ

abbrev given : Line → Run
given l = run_from l.limit l.program 0 (start_of l.before)

abbrev expected : Line → Run
expected l = record { how = l.how; ran = l.ran; packet = l.after }

-- a run that leaves the packet as it was, and one that does not; a run over a packet of no byte under a low limit
abbrev reads : (program packet : List ℕ) → Ended → (ran : List ℕ) → Line
reads p b e r = record { program = p; before = b; limit = step_limit; how = e; ran = r; after = b }

abbrev writes : (program before : List ℕ) → Ended → (ran after : List ℕ) → Line
writes p b e r a = record { program = p; before = b; limit = step_limit; how = e; ran = r; after = a }

abbrev limited : (limit : ℕ) → (program : List ℕ) → Ended → (ran : List ℕ) → Line
limited n p e r = record { program = p; before = []; limit = n; how = e; ran = r; after = [] }

-- a slot: opcode; registers, src · 16 + dst; offset and immediate, lowest byte first
abbrev pub slot : (o r a b c d e f : ℕ) → List ℕ
slot o r a b c d e f = o ∷ r ∷ a ∷ b ∷ c ∷ d ∷ e ∷ f ∷ []

abbrev pub exit : List ℕ
exit = slot 0x95 0x00 0 0 0 0 0 0

-- r0 becomes a byte that is loaded, by the register and the offset, and is what the run ends with
abbrev pub load_byte : (register low high : ℕ) → List ℕ
load_byte r l h = slot 0x71 r l h 0 0 0 0 ++ exit

abbrev three : List ℕ
three = 7 ∷ 8 ∷ 9 ∷ []

pub ends : List Line
ends =
    -- no slot; EXIT, where r0 is 0; MOV r0, 1 and EXIT; MOV alone, behind which is no slot
    reads [] three NoSlot [] ∷
    reads exit three (Exit 0) (0 ∷ []) ∷
    reads (slot 0xb7 0x00 0 0 1 0 0 0 ++ exit) three (Exit 1) (0 ∷ 1 ∷ []) ∷
    reads (slot 0xb7 0x00 0 0 1 0 0 0) three NoSlot (0 ∷ []) ∷
    -- r1 is where the packet is, r2 its captured length, r3 is 0, r10 is the stack's end
    reads (slot 0xbf 0x10 0 0 0 0 0 0 ++ exit) three (Exit 0x1000_0000) (0 ∷ 1 ∷ []) ∷
    reads (slot 0xbf 0x20 0 0 0 0 0 0 ++ exit) three (Exit 3) (0 ∷ 1 ∷ []) ∷
    reads (slot 0xbf 0x30 0 0 0 0 0 0 ++ exit) three (Exit 0) (0 ∷ 1 ∷ []) ∷
    reads (slot 0xbf 0xa0 0 0 0 0 0 0 ++ exit) three (Exit 0x2000_0200) (0 ∷ 1 ∷ []) ∷
    -- a jump to n; one ahead of slot 0
    reads (slot 0x05 0x00 0 0 0 0 0 0) three NoSlot (0 ∷ []) ∷
    reads (slot 0x05 0x00 0xfd 0xff 0 0 0 0 ++ exit) three NoSlot (0 ∷ []) ∷ []

pub accesses : List Line
accesses =
    -- the packet's first byte, its last, the one behind, the one ahead; two bytes of which one is behind
    reads (load_byte 0x10 0 0) three (Exit 7) (0 ∷ 1 ∷ []) ∷
    reads (load_byte 0x10 2 0) three (Exit 9) (0 ∷ 1 ∷ []) ∷
    reads (load_byte 0x10 3 0) three Access (0 ∷ []) ∷
    reads (load_byte 0x10 0xff 0xff) three Access (0 ∷ []) ∷
    reads (slot 0x69 0x10 1 0 0 0 0 0 ++ exit) three (Exit 0x0908) (0 ∷ 1 ∷ []) ∷
    reads (slot 0x69 0x10 2 0 0 0 0 0 ++ exit) three Access (0 ∷ []) ∷
    -- a packet of no byte
    reads (load_byte 0x10 0 0) [] Access (0 ∷ []) ∷
    -- the stack from r10 - 512 to r10 - 1, which is 0
    reads (load_byte 0xa0 0 0) three Access (0 ∷ []) ∷
    reads (load_byte 0xa0 0xff 0xff) three (Exit 0) (0 ∷ 1 ∷ []) ∷
    reads (load_byte 0xa0 0x00 0xfe) three (Exit 0) (0 ∷ 1 ∷ []) ∷
    reads (load_byte 0xa0 0xff 0xfd) three Access (0 ∷ []) ∷
    -- at 0
    reads (load_byte 0x00 0 0) three Access (0 ∷ []) ∷
    -- a store of -2 to r10 - 8, eight bytes, and a load of its last four; one of four bytes across r10
    reads (slot 0x7a 0x0a 0xf8 0xff 0xfe 0xff 0xff 0xff ++ (slot 0x61 0xa0 0xfc 0xff 0 0 0 0 ++ exit)) three (Exit 0xffff_ffff) (0 ∷ 1 ∷ 2 ∷ []) ∷
    reads (slot 0x62 0x0a 0xfe 0xff 0 0 0 0 ++ exit) three Access (0 ∷ []) ∷
    -- a store to the packet's second byte, of imm and of r2, cut to a byte, seen by a load; an access that stops behind a store
    writes (slot 0x72 0x01 1 0 0x05 0x01 0 0 ++ load_byte 0x10 1 0) three (Exit 5) (0 ∷ 1 ∷ 2 ∷ []) (7 ∷ 5 ∷ 9 ∷ []) ∷
    writes (slot 0x73 0x21 1 0 0 0 0 0 ++ load_byte 0x10 1 0) three (Exit 3) (0 ∷ 1 ∷ 2 ∷ []) (7 ∷ 3 ∷ 9 ∷ []) ∷
    writes (slot 0x6a 0x01 0 0 0 0 0 0 ++ load_byte 0x10 3 0) three Access (0 ∷ 1 ∷ []) (0 ∷ 0 ∷ 9 ∷ []) ∷ []

-- a wide load of 5 + 2 ^ 32 * 6 to r0, whatever the second slot's opcode is
abbrev wide : (opcode : ℕ) → List ℕ
wide o = slot 0x18 0x00 0 0 5 0 0 0 ++ slot o 0x00 0 0 6 0 0 0

pub halves : List Line
halves =
    -- one slot run; a second half that looks like a wide load; a jump into the second half, forward and back
    reads (wide 0 ++ exit) three (Exit 0x6_0000_0005) (0 ∷ 2 ∷ []) ∷
    reads (wide 0x18 ++ exit) three (Exit 0x6_0000_0005) (0 ∷ 2 ∷ []) ∷
    reads (slot 0x05 0x00 1 0 0 0 0 0 ++ (wide 0x95 ++ exit)) three NoSlot (0 ∷ []) ∷
    reads (wide 0x95 ++ slot 0x05 0x00 0xfe 0xff 0 0 0 0) three NoSlot (0 ∷ 2 ∷ []) ∷
    -- a wide load that is cut, and a swap of no width: there is nothing to run
    reads (slot 0x18 0x00 0 0 5 0 0 0) three NoSlot [] ∷
    reads (slot 0xd4 0x00 0 0 8 0 0 0 ++ exit) three NoSlot [] ∷ []

pub limits : List Line
limits =
    -- no slot is left; MOV, EXIT with two slots left, and with one; JA -1
    limited 0 exit StepLimit [] ∷
    limited 2 (slot 0xb7 0x00 0 0 1 0 0 0 ++ exit) (Exit 1) (0 ∷ 1 ∷ []) ∷
    limited 1 (slot 0xb7 0x00 0 0 1 0 0 0 ++ exit) StepLimit (0 ∷ []) ∷
    limited 5 (slot 0x05 0x00 0xff 0xff 0 0 0 0) StepLimit (0 ∷ 0 ∷ 0 ∷ 0 ∷ 0 ∷ []) ∷
    -- the limit comes first: where there is no slot, and before an access that would stop the run
    limited 1 (slot 0xb7 0x00 0 0 1 0 0 0) StepLimit (0 ∷ []) ∷
    limited 1 (slot 0xb7 0x00 0 0 1 0 0 0 ++ load_byte 0x10 0 0) StepLimit (0 ∷ []) ∷
    limited 2 (slot 0xb7 0x00 0 0 1 0 0 0 ++ load_byte 0x10 0 0) Access (0 ∷ 1 ∷ []) ∷ []

pub table : List Line
table = ends ++ (accesses ++ (halves ++ limits))

pub worked : map given table ≡ map expected table
unfolding ends accesses halves limits table kind_of insn_at place_of is_second kind_at turn_at run_from
worked = refl
