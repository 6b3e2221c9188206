-- Wrong answers that the contracts of this crate shut out, each on a small case.
use mathlib.Core.Path.{◌≡◌, ◌∙◌, ap}
use mathlib.Core.Bool.{Bool, true, false}
use mathlib.Core.List.{List, [], ◌∷◌, ◌++◌}
use Prim.Native.Nat.{ℕ, ◌+◌, ◌≤◌, ◌<◌}
use native.Mathlib.Omega.{arith}
use lib.Dec.{leb}
use borrow.Author.Tests.{le-leb}
use lib.ListN.{length, get_or, drop, get_or-append}
use lib.Seq.{sets, length-sets, sets-eq}
use Rattle.ebpf.specs.Insn.{le4}
use Rattle.text.specs.Text.{ascii}
use Rattle.text.specs.Numerals.{decimal}
use Rattle.jit.specs.declared.Refusal.{Refusal}
use Rattle.jit.specs.declared.Refusal.TheVariants.{Torn}
use Rattle.std.specs.Prelude.{IfOk, IsOk}
use Rattle.cases_bytes.specs.Stored.{Stored}
use Rattle.cases_bytes.specs.Answers.{framed, refused_bytes, accepted_bytes, room_for, refused_line, refusal_line}
use Rattle.cases_bytes.specs.Cases.{lengths_end, ids_in, addresses_at, addresses_in, program_at, program_in, wrong_with, parts_of, case_of, id_at, address_at, filled}

-- a byte of what was put, where it fitted
byte_at : {l l' ys : List ℕ} {r : ℕ} (fits : Bool) → fits ≡ true → Stored fits l l' r ys → (k : ℕ) → k < length ys → get_or l' k 0 ≡ get_or ys k 0
byte_at {l} {l'} {ys} {r} fits e s k h =
    let b : l' ≡ sets l 0 ys = rw e at s.bytes in
    let n : r ≡ length ys = rw e at s.size in
    let m : length l' ≡ length l = ap length b ∙ length-sets l 0 ys in
    let g : 0 + length ys ≤ length l = omega (arith, s.room, n, m) in
    rw (b, sets-eq ys l 0 g) (get_or-append ys (drop (0 + length ys) l) 0 k h)

-- put_refused: a slot with its highest byte first; a length that counts its own four bytes; no byte where there is room
abbrev pub refused : Refusal
refused = Torn (record { number = 258 })

module _ (l l' : List ℕ) (r : ℕ) (room : 9 ≤ length l) (s : Stored (leb 9 (length l)) l l' r (refused_bytes refused)) where
  pub slot-backwards : get_or l' 5 0 ≡ 0 → ⊥
  unfolding refused_bytes framed
  slot-backwards e = let b = byte_at (leb 9 (length l)) (le-leb 9 (length l) room) s 5 (omega arith) in omega (arith, e, b)

  pub own-length-counted : get_or l' 0 0 ≡ 9 → ⊥
  unfolding refused_bytes framed
  own-length-counted e = let b = byte_at (leb 9 (length l)) (le-leb 9 (length l) room) s 0 (omega arith) in omega (arith, e, b)

  pub no-refusal-put : r ≡ 0 → ⊥
  unfolding refused_bytes framed
  no-refusal-put e = let n : r ≡ 9 = rw (le-leb 9 (length l) room) at s.size in omega (arith, e, n)

-- put_accepted, of one byte of code, two locations and one jump: J where n + 1 stands; the code left out; kinds and makers exchanged, and left out
module _ (l l' : List ℕ) (r : ℕ) (fits : room_for (length l) 1 2 1 1 1 1 ≡ true)
    (s : Stored (room_for (length l) 1 2 1 1 1 1) l l' r (accepted_bytes (195 ∷ []) (34 ∷ 35 ∷ []) (30 ∷ []) (1 ∷ []) (2 ∷ []) (7 ∷ []))) where
  pub counts-swapped : get_or l' 9 0 ≡ 2 → ⊥
  unfolding accepted_bytes framed
  counts-swapped e = let b = byte_at _ fits s 9 (omega arith) in omega (arith, e, b)

  pub no_code : get_or l' 17 0 ≡ get_or l' 18 0 → ⊥
  unfolding accepted_bytes framed
  no_code e = let b = byte_at _ fits s 17 (omega arith) in let c = byte_at _ fits s 18 (omega arith) in omega (arith, e, b, c)

  pub kinds-and-makers-exchanged : get_or l' 34 0 ≡ 7 → ⊥
  unfolding accepted_bytes framed
  kinds-and-makers-exchanged e = let b = byte_at _ fits s 34 (omega arith) in omega (arith, e, b)

  pub no-makers : r ≡ 38 → ⊥
  unfolding accepted_bytes framed
  no-makers e = let n : r ≡ 42 = rw fits at s.size in omega (arith, e, n)

-- put_refusal_line: the slot ahead of the number; no newline
pub slot-first : refusal_line (Torn (record { number = 3 })) ≡ ascii "refused 3 6" ++ (10 ∷ []) → ⊥
unfolding refused_line decimal
slot-first e = let z : ◌≡◌ {A = ℕ} 54 51 = ap (λ (t : List ℕ). get_or t 8 0) e in omega (arith, z)

pub no-newline : refusal_line (Torn (record { number = 3 })) ≡ ascii "refused 6 3" → ⊥
unfolding refused_line decimal
no-newline e = let z : ◌≡◌ {A = ℕ} 12 11 = ap (length {A = ℕ}) e in omega (arith, z)

-- take_apart, of a case with the flag use_mbuff, one helper and a program of one byte: a flag not seen; a program from where its length is; an id
-- with its highest byte first; a byte too many taken for a case
abbrev pub small : List ℕ
small =
    1
    ∷ 0 ∷ 16 ∷ 0 ∷ 0
    ∷ 9 ∷ 0 ∷ 0 ∷ 0
    ∷ 9 ∷ 0 ∷ 0 ∷ 0
    ∷ 9 ∷ 0 ∷ 0 ∷ 0
    ∷ 1 ∷ 0 ∷ 0 ∷ 0
    ∷ 6 ∷ 1 ∷ 0 ∷ 0
    ∷ 1 ∷ 0 ∷ 0 ∷ 0
    ∷ 0 ∷ 0 ∷ 0 ∷ 0 ∷ 1 ∷ 0 ∷ 0 ∷ 0
    ∷ 1 ∷ 0 ∷ 0 ∷ 0
    ∷ 149
    ∷ []

pub flag-unseen : IfOk (case_of small 512 512) (λ c. c.flags.use_mbuff ≡ false) → ⊥
unfolding case_of parts_of wrong_with lengths_end ids_in addresses_at addresses_in program_at program_in
flag-unseen e = let z : ◌≡◌ {A = ℕ} 0 1 = cc in omega arith

pub program-early : IfOk (case_of small 512 512) (λ c. c.program ≡ 37) → ⊥
unfolding case_of parts_of wrong_with lengths_end ids_in addresses_at addresses_in program_at program_in
program-early e = omega (arith, e)

pub id-backwards : filled (id_at small 21) 1 (0 ∷ []) ≡ (100728832 ∷ []) → ⊥
unfolding filled
id-backwards e = omega (arith, ap (λ (t : List ℕ). get_or t 0 0) e)

pub byte-too-many : IsOk (case_of (small ++ (0 ∷ [])) 512 512) → ⊥
unfolding case_of parts_of wrong_with lengths_end ids_in addresses_at addresses_in program_at program_in
byte-too-many e = let z : ◌≡◌ {A = ℕ} 0 1 = cc in omega (arith)

-- .. of one that has bit 7 too and says its two further tables: both read as if they were not said; the same flag taken for another
abbrev pub named : List ℕ
named =
    129
    ∷ 0 ∷ 16 ∷ 0 ∷ 0
    ∷ 9 ∷ 0 ∷ 0 ∷ 0
    ∷ 9 ∷ 0 ∷ 0 ∷ 0
    ∷ 9 ∷ 0 ∷ 0 ∷ 0
    ∷ 5 ∷ 0 ∷ 0 ∷ 0
    ∷ 6 ∷ 0 ∷ 0 ∷ 0
    ∷ 0 ∷ 0 ∷ 0 ∷ 0
    ∷ 0 ∷ 0 ∷ 0 ∷ 0
    ∷ 1 ∷ 0 ∷ 0 ∷ 0
    ∷ 149
    ∷ []

pub kinds-unread : IfOk (case_of named 512 512) (λ c. c.kinds ≡ 1) → ⊥
unfolding case_of parts_of wrong_with lengths_end ids_in addresses_at addresses_in program_at program_in
kinds-unread e = omega (arith, e)

pub makers-read-as-kinds : IfOk (case_of named 512 512) (λ c. c.makers ≡ 5) → ⊥
unfolding case_of parts_of wrong_with lengths_end ids_in addresses_at addresses_in program_at program_in
makers-read-as-kinds e = omega (arith, e)

pub bit-7-taken-for-bit-1 : IfOk (case_of named 512 512) (λ c. c.flags.update_data_ptr ≡ true) → ⊥
unfolding case_of parts_of wrong_with lengths_end ids_in addresses_at addresses_in program_at program_in
bit-7-taken-for-bit-1 e = let z : ◌≡◌ {A = ℕ} 0 1 = cc in omega arith

-- .. of one without it: a further table of no entries
pub unsaid-empty : IfOk (case_of small 512 512) (λ c. c.kinds ≡ 0) → ⊥
unfolding case_of parts_of wrong_with lengths_end ids_in addresses_at addresses_in program_at program_in
unsaid-empty e = omega (arith, e)

-- .. of one that has bit 2 alone: it is taken for bit 1; it is not seen
abbrev pub standard : List ℕ
standard = 4 ∷ drop 1 small

pub bit-2-taken-for-bit-1 : IfOk (case_of standard 512 512) (λ c. c.flags.update_data_ptr ≡ true) → ⊥
unfolding case_of parts_of wrong_with lengths_end ids_in addresses_at addresses_in program_at program_in
bit-2-taken-for-bit-1 e = let z : ◌≡◌ {A = ℕ} 0 1 = cc in omega arith

pub bit-2-unseen : IfOk (case_of standard 512 512) (λ c. c.mode.standard ≡ false) → ⊥
unfolding case_of parts_of wrong_with lengths_end ids_in addresses_at addresses_in program_at program_in
bit-2-unseen e = let z : ◌≡◌ {A = ℕ} 0 1 = cc in omega arith

-- .. of one that has bit 3 alone: it is taken for bit 2; it is not seen
abbrev pub compact : List ℕ
compact = 8 ∷ drop 1 small

pub bit-3-taken-for-bit-2 : IfOk (case_of compact 512 512) (λ c. c.mode.standard ≡ true) → ⊥
unfolding case_of parts_of wrong_with lengths_end ids_in addresses_at addresses_in program_at program_in
bit-3-taken-for-bit-2 e = let z : ◌≡◌ {A = ℕ} 0 1 = cc in omega arith

pub bit-3-unseen : IfOk (case_of compact 512 512) (λ c. c.mode.compact ≡ false) → ⊥
unfolding case_of parts_of wrong_with lengths_end ids_in addresses_at addresses_in program_at program_in
bit-3-unseen e = let z : ◌≡◌ {A = ℕ} 0 1 = cc in omega arith

-- .. and of one that has bit 4, which no case has: taken for a case
pub bit-4-let-pass : IsOk (case_of (16 ∷ drop 1 small) 512 512) → ⊥
unfolding case_of parts_of wrong_with lengths_end ids_in addresses_at addresses_in program_at program_in
bit-4-let-pass e = let z : ◌≡◌ {A = ℕ} 0 1 = cc in omega (arith)

-- number_at and count_at: the highest byte first; one byte alone. address_at: its halves exchanged; the low half alone
pub number-backwards : le4 (1 ∷ 2 ∷ 3 ∷ 4 ∷ []) 0 ≡ 16909060 → ⊥
number-backwards e = omega (arith, e)

pub number_cut : le4 (1 ∷ 2 ∷ 3 ∷ 4 ∷ []) 0 ≡ 1 → ⊥
number_cut e = omega (arith, e)

pub halves-exchanged : address_at (1 ∷ 0 ∷ 0 ∷ 0 ∷ 2 ∷ 0 ∷ 0 ∷ 0 ∷ []) 0 0 ≡ 4294967298 → ⊥
halves-exchanged e = omega (arith, e)

pub low-half-alone : address_at (1 ∷ 0 ∷ 0 ∷ 0 ∷ 2 ∷ 0 ∷ 0 ∷ 0 ∷ []) 0 0 ≡ 1 → ⊥
low-half-alone e = omega (arith, e)
