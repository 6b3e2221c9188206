use Rattle.std.proofs.Common.{sym, ◌∙◌, arith}
use Rattle.jit_lengths.proofs.LengthsLaws.{load-imm-low, load-imm-short, load-imm-long}
use Rattle.jit_lengths.proofs.instruction.load_imm_length.Goals as goal

pub returns-then-wrapping_add_u64-lt4294967296 : goal.returns-then-wrapping_add_u64-lt4294967296
returns-then-wrapping_add_u64-lt4294967296 c =
    let args = c.args in
    let range = load-imm-short args.mode args.dst args.value (rw (← c.wrapping_add_u64.ensures.value) c.if-wrapping_add_u64-lt4294967296.true) in
    (range c.load_signed_length.ensures.0, omega (arith, c.load_signed_length.ensures.1))

pub returns-then-is_low : goal.returns-then-is_low
returns-then-is_low c =
    let args = c.args in
    let range = load-imm-low args.mode args.dst args.value (rw (← c.wrapping_add_u64.ensures.value) c.if-wrapping_add_u64-lt4294967296.false) in
    let low = sym c.is_low.ensures ∙ c.if-is_low.true in
    (range low (c.low_length.ensures.0 args.value), omega (arith, c.low_length.ensures.1))

pub returns : goal.returns
returns c =
    let args = c.args in
    let range = load-imm-long args.mode args.dst args.value (rw (← c.wrapping_add_u64.ensures.value) c.if-wrapping_add_u64-lt4294967296.false) in
    (range (sym c.is_low.ensures ∙ c.if-is_low.false), omega arith)
