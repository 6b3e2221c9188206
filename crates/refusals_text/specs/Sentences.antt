-- A refusal in words: where, why, and its number. Where the program itself shows the fact, the sentence has it. At the end stands what
-- `sentence` promises.
use Rattle.std.specs.Prelude.{◌≡◌, ℕ, ◌+◌, ◌/◌, ◌%◌, ◌^◌, ◌≤◌, Bool, true, false, List, [], ◌∷◌, ◌++◌, length, take, ◌==◌, nat_le, nat_lt}
use Rattle.base.specs.Pick.{pick}
use Rattle.base.specs.Cases.{Arm, ◌⇒◌, cases}
use Rattle.ebpf.specs.declared.insn.Insn.{Insn}
use Rattle.ebpf_fields.specs.Fields.{fields_at}
use Rattle.jit.specs.Limits.{shortest_page, longest_page, longest_program, most_helpers}
use Rattle.pcap.specs.Capture.{longest_packet}
use Rattle.text.specs.Text.{Says, ascii}
use Rattle.text.specs.Numerals.{extended}
use Rattle.text.specs.Forms.{formed}

-- 6: the program ends inside the slot, or inside the second slot of its wide load
unfoldable pub torn : List ℕ → ℕ → List ℕ
torn prog slot =
    pick (nat_le (length prog / 8) slot)
    (formed (ascii "only # of its 8 bytes are there") (length prog % 8 ∷ []))
    (ascii "a wide load, whose second slot is not all there")

-- 7: dst is looked at first
unfoldable pub bad_register : Insn → List ℕ
bad_register i =
    pick (nat_lt 10 i.dst)
    (formed (ascii "register r# in the dst field, the last is r10") (i.dst ∷ []))
    (formed (ascii "register r# in the src field, the last is r10") (i.src ∷ []))

-- 13: slot n is the epilogue
unfoldable pub no_room : List ℕ → ℕ → List ℕ
no_room prog slot =
    pick (slot == length prog / 8) (ascii "the epilogue runs past the end of the page") (ascii "its code runs past the end of the page")

-- 14: a jump goes by off, a local call (opcode 0x85) by imm; a target before slot 0 has a minus
unfoldable pub target_from : ℕ → ℕ → ℕ
target_from slot distance = ((slot + 1) % 2 ^ 64 + extended distance) % 2 ^ 64

unfoldable pub bad_target : List ℕ → ℕ → Insn → List ℕ
bad_target prog slot i =
    pick (i.opc == 0x85)
    (formed (ascii "a local call to slot ~, the program ends at #") (target_from slot i.imm ∷ length prog / 8 ∷ []))
    (formed (ascii "a jump to slot ~, the program ends at #") (target_from slot i.off ∷ length prog / 8 ∷ []))

-- The table of docs/REFUSALS.md: 1 to 5, 6 to 14, 15 and 16 of the page's map, and 17 to 19 of a replay.
abbrev pub size_reasons : List ℕ → List (Arm (List ℕ))
size_reasons prog =
    5 ⇒ formed (ascii "the helper lists differ in length, are longer than #, or hold an id twice") (most_helpers ∷ [])
    ∷ 4 ⇒ formed (ascii "a table is too short: this program needs # entries in each") ((length prog / 8 + 1) ∷ [])
    ∷ 3 ⇒ formed (ascii "the program is too long: it has # bytes, the most is #") (length prog ∷ longest_program ∷ [])
    ∷ 2 ⇒ formed (ascii "the page is too long: the most is # bytes") (longest_page ∷ [])
    ∷ 1 ⇒ formed (ascii "the page is too short: the least is # bytes") (shortest_page ∷ [])
    ∷ []

-- a number that is not in that table
abbrev pub no_reason : List ℕ
no_reason = ascii "refused for a reason that has no name"

unfoldable pub size_reason : List ℕ → ℕ → List ℕ
size_reason prog number = cases (size_reasons prog) no_reason number

abbrev pub opcode_reasons : Insn → List (Arm (List ℕ))
opcode_reasons i =
    12 ⇒ formed (ascii "a call with # in the src field, where only 0 (a helper) and 1 (a local call) are known") (i.src ∷ [])
    ∷ 11 ⇒ formed (ascii "a call of helper #, which is not listed") (i.imm ∷ [])
    ∷ 10 ⇒ formed (ascii "a byte swap of ~ bits, where only 16, 32 and 64 are known") (extended i.imm ∷ [])
    ∷ 9 ⇒ formed (ascii "opcode 0x@ is known and not translated") (i.opc ∷ [])
    ∷ 8 ⇒ formed (ascii "unknown opcode 0x@") (i.opc ∷ [])
    ∷ []

unfoldable pub opcode_reason : ℕ → Insn → List ℕ
opcode_reason number i = cases (opcode_reasons i) no_reason number

abbrev pub slot_reasons : List ℕ → ℕ → Insn → List (Arm (List ℕ))
slot_reasons prog slot i = 14 ⇒ bad_target prog slot i ∷ 13 ⇒ no_room prog slot ∷ 7 ⇒ bad_register i ∷ 6 ⇒ torn prog slot ∷ []

unfoldable pub slot_reason : List ℕ → ℕ → ℕ → Insn → List ℕ
slot_reason prog number slot i = cases (slot_reasons prog slot i) (opcode_reason number i) number

abbrev pub map_reasons : List (Arm (List ℕ))
map_reasons =
    16 ⇒ ascii "the text buffer is too short for the page's map: 30 bytes for each slot and 60 more are enough"
    ∷ 15 ⇒ ascii "the page's base address is too high: with the code's length it is above 0xffffffffffffffff"
    ∷ []

unfoldable pub map_reason : ℕ → List ℕ
map_reason number = cases map_reasons no_reason number

abbrev pub replay_reasons : Insn → List (Arm (List ℕ))
replay_reasons i =
    19 ⇒ formed (ascii "opcode 0x@ is not replayed: calls, and packet loads of the modes ABS and IND, are not run") (i.opc ∷ [])
    ∷ 18 ⇒ formed (ascii "a packet's record in the capture is cut short, or says more than # bytes") (longest_packet ∷ [])
    ∷ 17 ⇒ ascii "the capture does not begin with the header of a libpcap file"
    ∷ []

unfoldable pub replay_reason : ℕ → Insn → List ℕ
replay_reason number i = cases (replay_reasons i) no_reason number

-- 6 to 14 are of a slot, and 19
unfoldable pub is_of_slot : ℕ → Bool
is_of_slot number = pick (nat_lt number 6) false (pick (nat_lt 14 number) (number == 19) true)

unfoldable pub place_of : ℕ → ℕ → List ℕ
place_of number slot = pick (is_of_slot number) (formed (ascii "slot #: ") (slot ∷ [])) []

unfoldable pub reason_of : List ℕ → ℕ → ℕ → List ℕ
reason_of prog number slot =
    pick (nat_lt number 6) (size_reason prog number)
    (pick (nat_lt 16 number) (replay_reason number (fields_at prog slot))
    (pick (nat_lt 14 number) (map_reason number) (slot_reason prog number slot (fields_at prog slot))))

unfoldable pub numbered_as : ℕ → List ℕ
numbered_as number = formed (ascii " (refusal #)") (number ∷ [])

abbrev pub sentence_of : List ℕ → ℕ → ℕ → List ℕ
sentence_of prog number slot = place_of number slot ++ (reason_of prog number slot ++ numbered_as number)

-- bytes of which no sentence needs more
abbrev pub sentence_enough : ℕ
sentence_enough = 200

-- THE CONTRACT of `sentence`: the text ys at the start of the buffer, cut where that ends, and r, the place behind it; in a buffer of
-- `sentence_enough` bytes or more it stands whole.
pub record Sentence (l l' : List ℕ) (r : ℕ) (ys : List ℕ) : Type 0 where
  pub says : Says l l' 0 r ys
  pub short : r ≤ sentence_enough
  pub whole : sentence_enough ≤ length l → take r l' ≡ ys
