use Rattle.std.proofs.Common.{sym, ◌∙◌}
use Rattle.jit.proofs.Constants.{load-short, load-long, loaded-low, loaded-high}
use Rattle.jit_recording.proofs.constant.emit_load_imm.Goals as goal

pub returns-then-wrapping_add_u64-lt4294967296 : goal.returns-then-wrapping_add_u64-lt4294967296
returns-then-wrapping_add_u64-lt4294967296 c =
    let args = c.args in
    let short = load-short args.dst args.value (rw (← c.wrapping_add_u64.ensures.value) c.if-wrapping_add_u64-lt4294967296.true) in
    rw (← short) c.emit_load_signed.ensures

pub returns-then-is_low : goal.returns-then-is_low
returns-then-is_low c =
    let args = c.args in
    let long = load-long args.dst args.value (rw (← c.wrapping_add_u64.ensures.value) c.if-wrapping_add_u64-lt4294967296.false) in
    let test = sym c.is_low.ensures ∙ c.if-is_low.true in
    rw (← long, ← loaded-low args.mode args.dst args.value test) c.emit_mov_imm32.ensures

pub returns : goal.returns
returns c =
    let args = c.args in
    let long = load-long args.dst args.value (rw (← c.wrapping_add_u64.ensures.value) c.if-wrapping_add_u64-lt4294967296.false) in
    let test = sym c.is_low.ensures ∙ c.if-is_low.false in
    rw (← long, ← loaded-high args.mode args.dst args.value test) c.emit_movabs.ensures
