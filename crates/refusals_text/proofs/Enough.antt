-- How long a sentence can become, whatever the program, the number and the slot.
use Rattle.std.proofs.Common.{◌≡◌, ℕ, ◌+◌, ◌/◌, ◌%◌, ◌<◌, ◌≤◌, Bool, true, false, eqb, ltb, leb, List, [], ◌∷◌, ◌++◌, length, refl, ap, arith, length-append, length-take}
use Rattle.base.specs.Pick.{pick}
use Rattle.ebpf.specs.Insn.{read_at}
use Rattle.ebpf.specs.declared.insn.Insn.{Insn}
use Rattle.ebpf_fields.specs.Fields.{fields_at}
use Rattle.jit.specs.Limits.{shortest_page, longest_page, longest_program, most_helpers}
use Rattle.pcap.specs.Capture.{longest_packet}
use Rattle.text.specs.Text.{Says, ascii}
use Rattle.text.proofs.SaysLaws.{stands}
use Rattle.text.specs.Forms.{formed}
use Rattle.text.specs.Numerals.{decimal, extended}
use Rattle.text.proofs.NumeralLaws.{decimal-most, signed-most}
use Rattle.refusals_text.specs.Sentences.{torn, bad_register, no_room, target_from, bad_target, size_reason, opcode_reason, slot_reason, map_reason}
use Rattle.refusals_text.specs.Sentences.{replay_reason, is_of_slot, place_of, reason_of, numbered_as, sentence_of, sentence_enough, Sentence}

-- The longest reason is that of refusal 12, here as if src could have 20 digits.
abbrev reason_most : ℕ
reason_most = 105

abbrev Short : List ℕ → Type 0
Short xs = length xs ≤ reason_most

either : (t : Bool) (xs ys : List ℕ) → Short xs → Short ys → Short (pick t xs ys)
either true xs ys h g = h
either false xs ys h g = g

size-most : (prog : List ℕ) (number : ℕ) → Short (size_reason prog number)
unfolding size_reason
size-most prog number =
    either (eqb number 5) _ _ (simp length-append (omega (arith, decimal-most most_helpers)))
    (either (eqb number 4) _ _ (simp length-append (omega (arith, decimal-most (length prog / 8 + 1))))
    (either (eqb number 3) _ _ (simp length-append (omega (arith, decimal-most (length prog), decimal-most longest_program)))
    (either (eqb number 2) _ _ (simp length-append (omega (arith, decimal-most longest_page)))
    (either (eqb number 1) _ _ (simp length-append (omega (arith, decimal-most shortest_page))) (omega arith)))))

opcode-most : (number : ℕ) (i : Insn) → Short (opcode_reason number i)
unfolding opcode_reason
opcode-most number i =
    either (eqb number 12) _ _ (simp length-append (omega (arith, decimal-most i.src)))
    (either (eqb number 11) _ _ (simp length-append (omega (arith, decimal-most i.imm)))
    (either (eqb number 10) _ _ (simp length-append (omega (arith, signed-most (extended i.imm))))
    (either (eqb number 9) _ _ (omega arith)
    (either (eqb number 8) _ _ (omega arith) (omega arith)))))

torn-most : (prog : List ℕ) (slot : ℕ) → Short (torn prog slot)
unfolding torn
torn-most prog slot = either (leb (length prog / 8) slot) _ _ (simp length-append (omega (arith, decimal-most (length prog % 8)))) (omega arith)

register-most : (i : Insn) → Short (bad_register i)
unfolding bad_register
register-most i =
    either (ltb 10 i.dst) _ _ (simp length-append (omega (arith, decimal-most i.dst))) (simp length-append (omega (arith, decimal-most i.src)))

room_most : (prog : List ℕ) (slot : ℕ) → Short (no_room prog slot)
unfolding no_room
room_most prog slot = either (eqb slot (length prog / 8)) _ _ (omega arith) (omega arith)

target-most : (prog : List ℕ) (slot : ℕ) (i : Insn) → Short (bad_target prog slot i)
unfolding bad_target
target-most prog slot i =
    let end = decimal-most (length prog / 8) in
    either (eqb i.opc 0x85) _ _
    (simp length-append (omega (arith, signed-most (target_from slot i.imm), end)))
    (simp length-append (omega (arith, signed-most (target_from slot i.off), end)))

slot-most : (prog : List ℕ) (number slot : ℕ) (i : Insn) → Short (slot_reason prog number slot i)
unfolding slot_reason
slot-most prog number slot i =
    either (eqb number 14) _ _ (target-most prog slot i)
    (either (eqb number 13) _ _ (room_most prog slot)
    (either (eqb number 7) _ _ (register-most i)
    (either (eqb number 6) _ _ (torn-most prog slot) (opcode-most number i))))

map-most : (number : ℕ) → Short (map_reason number)
unfolding map_reason
map-most number = either (eqb number 16) _ _ (omega arith) (either (eqb number 15) _ _ (omega arith) (omega arith))

replay-most : (number : ℕ) (i : Insn) → Short (replay_reason number i)
unfolding replay_reason
replay-most number i =
    either (eqb number 19) _ _ (omega arith)
    (either (eqb number 18) _ _ (simp length-append (omega (arith, decimal-most longest_packet)))
    (either (eqb number 17) _ _ (omega arith) (omega arith)))

reason-most : (prog : List ℕ) (number slot : ℕ) → Short (reason_of prog number slot)
unfolding reason_of
reason-most prog number slot =
    either (ltb number 6) _ _ (size-most prog number)
    (either (ltb 16 number) _ _ (replay-most number (fields_at prog slot))
    (either (ltb 14 number) _ _ (map-most number) (slot-most prog number slot (fields_at prog slot))))

place-most : (number slot : ℕ) → length (place_of number slot) ≤ 27
unfolding place_of
place-most number slot = by (is_of_slot number)
  where
    by : (t : Bool) → length (pick t (formed (ascii "slot #: ") (slot ∷ [])) []) ≤ 27
    by true = simp length-append (omega (arith, decimal-most slot))
    by false = omega arith

numbered-most : (number : ℕ) → length (numbered_as number) ≤ 31
unfolding numbered_as
numbered-most number = simp length-append (omega (arith, decimal-most number))

-- THE BOUND: every sentence finds room in that many bytes.
pub enough : (prog : List ℕ) (number slot : ℕ) → length (sentence_of prog number slot) ≤ sentence_enough
enough prog number slot =
    let place = place_of number slot in
    let reason = reason_of prog number slot in
    let behind = length-append reason (numbered_as number) in
    omega (arith, place-most number slot, reason-most prog number slot, numbered-most number, length-append place (reason ++ numbered_as number), behind)

-- 126 of them are needed: refusal 12 at the last slot that can be named.
pub needed : length (sentence_of [] 12 0xffffffffffffffff) ≡ 126
unfolding is_of_slot place_of reason_of slot_reason opcode_reason numbered_as fields_at read_at decimal
needed = refl

-- with it, a text that is said is a sentence
pub sentenced : {l l' : List ℕ} {r : ℕ} {ys : List ℕ} → length ys ≤ sentence_enough → Says l l' 0 r ys → Sentence l l' r ys
sentenced h s = record { says = s; short = omega (arith, s.next); whole = λ room. stands s (omega arith) }

-- What it rules out besides other texts: an answer of more bytes; a sentence that is cut in a buffer of so many.
pub longer : {l l' : List ℕ} {ys : List ℕ} → Sentence l l' 201 ys → ⊥
longer s = omega (arith, s.short)

pub cut : {l l' : List ℕ} {r : ℕ} {ys : List ℕ} → Sentence l l' r ys → sentence_enough ≤ length l → r < length ys → ⊥
cut {l' = l'} {r = r} s h g = omega (arith, ap length (s.whole h), length-take r l')
