use Rattle.jit.specs.Lent.{filter_in}
use Prim.Native.Nat.{◌*◌, ◌<◌}
use lib.ListN.{get_or}
use Rattle.jit_measuring.proofs.Glances.{saw-plain, saw-divide, saw-wide, saw-swap, saw-le, saw-ja, saw-jump, saw-call}
use Rattle.jit_measuring.proofs.Seen.{seen, step-dst, step-src, step-unknown, step-unimplemented, unknown-is}
use Rattle.ebpf.specs.Kinds.{UNIMPLEMENTED}
use Rattle.jit_walk.proofs.Entries.{kind-some}
use Rattle.ebpf.specs.Insn.{insn_at}
use native.Mathlib.Omega.{arith}
use mathlib.Core.Path.{refl, sym, ◌∙◌}
use Rattle.jit_measuring.proofs.fits.look_at.Goals.{then-registers-gt10-via-then-registers-gt10, then-registers-gt10-via-else-registers-gt10+then-registers-gt10-2}
use Rattle.jit_measuring.proofs.fits.look_at.Goals as goal

pub returns-then-registers-gt10 : goal.returns-then-registers-gt10
unfolding insn_at
returns-then-registers-gt10 c =
    elim c.then-registers-gt10.branch [
      | then-registers-gt10-via-then-registers-gt10 w ↦ sym (step-dst _ _ c.requires.inside w.if-registers-gt10.true)
      | then-registers-gt10-via-else-registers-gt10+then-registers-gt10-2 w ↦
          sym (step-src _ _ c.requires.inside w.if-registers-gt10.false w.if-registers-gt10-2.true)
    ]

pub returns-in-0 : goal.returns-in-0
unfolding insn_at
returns-in-0 c =
    let s = seen c.args.prog.now c.requires.inside c.if-registers-gt10.false c.if-registers-gt10-2.false in
    let entry = sym c.in-0.is ∙ c.number_of.ensures in
    let at = 8 * c.args.slot.number in
    let byte : get_or c.args.prog.now at 0 < 256 = omega (arith, c.type_inv.prog at) in
    sym (step-unknown _ s (unknown-is _ byte entry))

pub returns-in-1 : goal.returns-in-1
unfolding insn_at
returns-in-1 c =
    let s = seen c.args.prog.now c.requires.inside c.if-registers-gt10.false c.if-registers-gt10-2.false in
    let entry = sym c.in-1.is ∙ c.number_of.ensures in
    sym (step-unimplemented _ s (kind-some _ UNIMPLEMENTED (λ z. omega (arith, z)) entry))

pub returns-in-2 : goal.returns-in-2
unfolding insn_at
returns-in-2 c =
    let s = seen c.args.prog.now c.requires.inside c.if-registers-gt10.false c.if-registers-gt10-2.false in
    let entry = sym c.in-2.is ∙ c.number_of.ensures in
    rw c.found_if.ensures (saw-wide _ s _ refl entry)

pub returns-in-3 : goal.returns-in-3
unfolding insn_at
returns-in-3 c =
    let s = seen c.args.prog.now c.requires.inside c.if-registers-gt10.false c.if-registers-gt10-2.false in
    let entry = sym c.in-3.is ∙ c.number_of.ensures in
    saw-divide _ s entry

pub returns-in-5 : goal.returns-in-5
unfolding insn_at
returns-in-5 c =
    let s = seen c.args.prog.now c.requires.inside c.if-registers-gt10.false c.if-registers-gt10-2.false in
    let entry = sym c.in-5.is ∙ c.number_of.ensures in
    rw c.found_if-in-5.ensures
    (saw-swap _ s _ (c.swap_bits-known.ensures ∙ rw c.read_i32.ensures) entry)

pub returns-in-6 : goal.returns-in-6
unfolding insn_at
returns-in-6 c =
    let s = seen c.args.prog.now c.requires.inside c.if-registers-gt10.false c.if-registers-gt10-2.false in
    let entry = sym c.in-6.is ∙ c.number_of.ensures in
    rw (c.jump_if.ensures, c.offset_at.ensures) (saw-ja _ s _ refl entry)

pub returns-in-7 : goal.returns-in-7
unfolding insn_at
returns-in-7 c =
    let s = seen c.args.prog.now c.requires.inside c.if-registers-gt10.false c.if-registers-gt10-2.false in
    let entry = sym c.in-7.is ∙ c.number_of.ensures in
    rw (c.jump_if-in-7.ensures, c.offset_at-in-7.ensures) (saw-jump _ s _ refl entry)

pub returns-in-8 : goal.returns-in-8
unfolding insn_at
returns-in-8 c =
    let s = seen c.args.prog.now c.requires.inside c.if-registers-gt10.false c.if-registers-gt10-2.false in
    let entry = sym c.in-8.is ∙ c.number_of.ensures in
    rw (c.look_at_call.ensures, c.read_i32-imm.ensures) (saw-call _ s entry)

pub returns-in-4 : goal.returns-in-4
unfolding insn_at
returns-in-4 c =
    let s = seen c.args.prog.now c.requires.inside c.if-registers-gt10.false c.if-registers-gt10-2.false in
    let entry = sym c.in-4.is ∙ c.number_of.ensures in
    let filter = filter_in c.args.prog c.args.mode c.args.ids c.args.addresses in
    rw (c.found_if-in-4.ensures, c.le_bits-known.ensures, c.read_i32-in-4.ensures) (saw-le filter s _ refl entry)

pub returns-in_default : goal.returns-in_default
unfolding insn_at
returns-in_default c =
    let s = seen c.args.prog.now c.requires.inside c.if-registers-gt10.false c.if-registers-gt10-2.false in
    let entry = c.number_of.ensures in
    let not = c.in_default.in_default-own.rest in
    saw-plain _ s _ entry not.0.0.0.0.0.0.0.0.1 not.0.0.0.0.0.0.0.1 not.0.0.0.0.0.1
    (record {
      wide = not.0.0.0.0.0.0.1;
      swaps = not.0.0.0.0.1;
      cuts = not.1;
      ja = not.0.0.0.1;
      jumps = not.0.0.1;
      calls = not.0.1;
    })
