-- A slot's eight bytes and its fields: RFC 9669, section 3.1, little-endian.
use Rattle.std.specs.Prelude.{ℕ, ◌+◌, ◌*◌, ◌/◌, ◌%◌, List, length, nat_lt, slice_index, Option, Some, None}
use Rattle.base.specs.Pick.{pick}
use Rattle.ebpf.specs.declared.insn.Insn.{Insn}

-- two and four bytes from a place on, lowest first
abbrev pub le2 : List ℕ → ℕ → ℕ
le2 s at = slice_index s at + 256 * slice_index s (at + 1)

abbrev pub le4 : List ℕ → ℕ → ℕ
le4 s at = slice_index s at + 256 * slice_index s (at + 1) + 65536 * slice_index s (at + 2) + 16777216 * slice_index s (at + 3)

-- a 16-bit two's complement number as a 32-bit one
abbrev pub extend : ℕ → ℕ
extend x = pick (nat_lt x 32768) x (x + 4294901760)

-- opcode; destination register in the low half of byte 1, source register in the high half; offset; immediate
unfoldable pub insn_at : List ℕ → ℕ → Insn
insn_at prog slot =
    record {
      opc = slice_index prog (8 * slot);
      dst = slice_index prog (8 * slot + 1) % 16;
      src = slice_index prog (8 * slot + 1) / 16;
      off = extend (le2 prog (8 * slot + 2));
      imm = le4 prog (8 * slot + 4);
    }

-- the slot, where its eight bytes are all there
unfoldable pub read_at : List ℕ → ℕ → Option Insn
read_at prog slot = pick (nat_lt (length prog) (8 * slot + 8)) None (Some (insn_at prog slot))
