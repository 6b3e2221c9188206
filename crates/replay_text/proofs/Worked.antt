-- A report, worked out to its bytes: a filter with a wide load, over a capture of 1,300 packets.
use mathlib.Core.Path.{◌≡◌, refl}
use mathlib.Core.List.{List, [], ◌∷◌, ◌++◌}
use Prim.Native.Nat.{ℕ}
use Prim.Native.String.{String}
use Rattle.ebpf.specs.Insn.{insn_at, read_at}
use Rattle.ebpf.specs.Opcode.{kind_of}
use Rattle.ebpf_fields.specs.Fields.{fields_at}
use Rattle.ebpf_statements.specs.Statements.{wide_text, load_text}
use Rattle.ebpf_text.specs.Assembler.{high_of, slot_text}
use Rattle.replay.specs.declared.Totals.{Totals}
use Rattle.replay.specs.Run.{is_second}
use Rattle.text.specs.Text.{ascii}
use Rattle.text.specs.Numerals.{decimal, hex}
use Rattle.replay_text.specs.ReportText.{totals_text, right_text, row_text, row_unless, table_text, report_text}

-- r0 = 0x200000001 ll; r0 = *(u8 *)(r1 + 9); exit
abbrev filter : List ℕ
filter =
    0x18 ∷ 0 ∷ 0 ∷ 0 ∷ 1 ∷ 0 ∷ 0 ∷ 0 ∷ 0 ∷ 0 ∷ 0 ∷ 0 ∷ 2 ∷ 0 ∷ 0 ∷ 0
    ∷ 0x71 ∷ 0x10 ∷ 9 ∷ 0 ∷ 0 ∷ 0 ∷ 0 ∷ 0
    ∷ 0x95 ∷ 0 ∷ 0 ∷ 0 ∷ 0 ∷ 0 ∷ 0 ∷ 0 ∷ []

abbrev totals : Totals
totals = record { packets = 1300; kept = 900; dropped = 80; step_limit = 0; access = 320; no_slot = 0 }

abbrev line : String → List ℕ → List ℕ
line s behind = ascii s ++ (0x0a ∷ behind)

pub worked : report_text filter totals (1300 ∷ 0 ∷ 1300 ∷ 980 ∷ 0 ∷ [])
    ≡ line "packets 1300"
    (line "kept 900"
    (line "dropped 80"
    (line "stopped by the step limit 0"
    (line "stopped by an access 320"
    (line "stopped at no slot 0"
    (line ""
    (line "0  1300  r0 = 0x200000001 ll" (line "2  1300  r0 = *(u8 *)(r1 + 9)" (line "3   980  exit" [])))))))))
unfolding totals_text right_text row_text row_unless table_text is_second slot_text fields_at read_at insn_at kind_of high_of wide_text load_text decimal hex
worked = refl
