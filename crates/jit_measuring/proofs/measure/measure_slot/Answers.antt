use Rattle.jit_measuring.proofs.LooksLaws.{finds-stopped, finds-of, finds-jump, finds-plain, measured-plain}
use Rattle.jit_measuring.proofs.Seen.{seen, step-dst, step-src, step-unknown, step-unimplemented, unknown-is}
use Rattle.ebpf.specs.Kinds.{UNIMPLEMENTED, LD-DW-IMM, LE, BE, JA, JUMP, CALL, width_of, condition_of}
use Rattle.jit_walk.proofs.Entries.{kind-some}
use Rattle.jit.specs.Slots.{target_of}
use Rattle.ebpf.specs.declared.kind.Kind.TheVariants.{LdDwImm, Le, Be, Ja, Jump, Call}
use Rattle.ebpf.specs.Opcode.{source_of}
use Rattle.ebpf.specs.Insn.{insn_at}
use native.Mathlib.Omega.{arith}
use lib.ListN.{get_or}
use Prim.Native.Nat.{◌*◌, ◌<◌}
use mathlib.Core.Path.{refl, sym, ◌∙◌}
use Rattle.jit_measuring.proofs.measure.measure_slot.Goals.{then-registers-gt10-via-then-registers-gt10, then-registers-gt10-via-else-registers-gt10+then-registers-gt10-2}
use Rattle.jit_measuring.proofs.measure.measure_slot.Goals as goal

pub returns-then-registers-gt10 : goal.returns-then-registers-gt10
unfolding insn_at
returns-then-registers-gt10 c =
    elim c.then-registers-gt10.branch [
      | then-registers-gt10-via-then-registers-gt10 w ↦ (finds-stopped _ _ (step-dst _ _ c.requires.inside w.if-registers-gt10.true), tt)
      | then-registers-gt10-via-else-registers-gt10+then-registers-gt10-2 w ↦ (
        finds-stopped _ _ (step-src _ _ c.requires.inside w.if-registers-gt10.false w.if-registers-gt10-2.true),
        tt,
      )
    ]

pub measure_wide-requires : goal.measure_wide-requires
unfolding insn_at
measure_wide-requires c =
    let pre = c.requires in
    rw c.insn_at.ensures (omega (arith, c.if-registers-gt10.false), omega (arith, pre))

pub measure_swap-requires : goal.measure_swap-requires
unfolding insn_at
measure_swap-requires c = rw c.insn_at-in-5.ensures (omega (arith, c.if-registers-gt10.false))

pub measure_jump-requires : goal.measure_jump-requires
unfolding insn_at
measure_jump-requires c =
    let pre = c.requires in
    rw c.insn_at-in-7.ensures (omega (arith, c.if-registers-gt10.false), (omega (arith, c.if-registers-gt10-2.false), omega (arith, pre)))

pub measure_le-requires : goal.measure_le-requires
unfolding insn_at
measure_le-requires c = rw c.insn_at-in-4.ensures (omega (arith, c.if-registers-gt10.false))

pub slot_length-requires : goal.slot_length-requires
unfolding insn_at
slot_length-requires c =
    let at = 8 * c.args.slot.number in (
      record {
        there = omega (arith, c.requires.inside);
        opc_is = refl;
        numbered =
            record {
              table = c.number_of-number.ensures;
              opc = omega (arith, c.type_inv.prog at);
              dst = omega (arith, c.if-registers-gt10.false);
              src = omega (arith, c.if-registers-gt10-2.false);
            };
      },
      measured-plain c.in_default.in_default-own.rest,
    )

pub returns-in-0 : goal.returns-in-0
unfolding insn_at
returns-in-0 c =
    let s = seen c.args.prog.now c.requires.inside c.if-registers-gt10.false c.if-registers-gt10-2.false in
    let entry = sym c.in-0.is ∙ c.number_of-number.ensures in
    let at = 8 * c.args.slot.number in
    let byte : get_or c.args.prog.now at 0 < 256 = omega (arith, c.type_inv.prog at) in
    (finds-stopped _ _ (step-unknown _ s (unknown-is _ byte entry)), tt)

pub returns-in-1 : goal.returns-in-1
unfolding insn_at
returns-in-1 c =
    let s = seen c.args.prog.now c.requires.inside c.if-registers-gt10.false c.if-registers-gt10-2.false in
    let entry = sym c.in-1.is ∙ c.number_of-number.ensures in
    (finds-stopped _ _ (step-unimplemented _ s (kind-some _ UNIMPLEMENTED (λ z. omega (arith, z)) entry)), tt)

pub returns-in-2 : goal.returns-in-2
unfolding insn_at
returns-in-2 c =
    let s = seen c.args.prog.now c.requires.inside c.if-registers-gt10.false c.if-registers-gt10-2.false in
    let entry = sym c.in-2.is ∙ c.number_of-number.ensures in
    let found = rw c.insn_at.ensures at (c.measure_wide.ensures c.args.n) in
    (finds-of _ s LdDwImm _ (kind-some _ LD-DW-IMM (λ z. omega (arith, z)) entry) found.0, found.1)

pub returns-in-5 : goal.returns-in-5
unfolding insn_at
returns-in-5 c =
    let s = seen c.args.prog.now c.requires.inside c.if-registers-gt10.false c.if-registers-gt10-2.false in
    let entry = sym c.in-5.is ∙ c.number_of-number.ensures in
    let found = rw c.insn_at-in-5.ensures at (c.measure_swap.ensures c.args.n c.args.mode) in
    (finds-of _ s Be _ (kind-some _ BE (λ z. omega (arith, z)) entry) found.0, found.1)

pub returns-in-6 : goal.returns-in-6
unfolding insn_at
returns-in-6 c =
    let s = seen c.args.prog.now c.requires.inside c.if-registers-gt10.false c.if-registers-gt10-2.false in
    let entry = sym c.in-6.is ∙ c.number_of-number.ensures in
    let slot = c.args.slot.number in
    let i = insn_at c.args.prog.now slot in
    let kind = kind-some _ JA (λ z. omega (arith, z)) entry in
    rw (c.jumps.ensures, c.target_of-target.ensures, c.offset_at.ensures)
    (finds-of _ s Ja _ kind (finds-jump c.args.mode Ja c.args.n slot i 0 (target_of slot i.off) refl refl refl), omega arith)

pub returns-in-7 : goal.returns-in-7
unfolding insn_at
returns-in-7 c =
    let s = seen c.args.prog.now c.requires.inside c.if-registers-gt10.false c.if-registers-gt10-2.false in
    let entry = sym c.in-7.is ∙ c.number_of-number.ensures in
    let i = insn_at c.args.prog.now c.args.slot.number in
    let jump = Jump (condition_of i.opc) (width_of i.opc) (source_of i.opc) in
    let found = rw c.insn_at-in-7.ensures at (c.measure_jump.ensures c.args.mode) in
    (finds-of _ s jump _ (kind-some _ JUMP (λ z. omega (arith, z)) entry) found.0, found.1)

pub returns-in-8 : goal.returns-in-8
unfolding insn_at
returns-in-8 c =
    let s = seen c.args.prog.now c.requires.inside c.if-registers-gt10.false c.if-registers-gt10-2.false in
    let entry = sym c.in-8.is ∙ c.number_of-number.ensures in
    let found = rw c.insn_at-in-8.ensures at c.measure_call.ensures in
    (finds-of _ s Call _ (kind-some _ CALL (λ z. omega (arith, z)) entry) found.0, found.1)

pub returns-in-4 : goal.returns-in-4
unfolding insn_at
returns-in-4 c =
    let s = seen c.args.prog.now c.requires.inside c.if-registers-gt10.false c.if-registers-gt10-2.false in
    let entry = sym c.in-4.is ∙ c.number_of-number.ensures in
    let found = rw c.insn_at-in-4.ensures at (c.measure_le.ensures c.args.n) in
    (finds-of _ s Le _ (kind-some _ LE (λ z. omega (arith, z)) entry) found.0, found.1)

pub returns-in_default : goal.returns-in_default
unfolding insn_at
returns-in_default c =
    let s = seen c.args.prog.now c.requires.inside c.if-registers-gt10.false c.if-registers-gt10-2.false in
    let entry = c.number_of-number.ensures in
    let rest = c.in_default.in_default-own.rest in
    rw c.plain.ensures (
      finds-plain _ s _ _ entry rest.0.0.0.0.0.0.0.1 rest.0.0.0.0.0.0.1 (measured-plain rest) c.slot_length.ensures.0,
      c.slot_length.ensures.1,
    )
