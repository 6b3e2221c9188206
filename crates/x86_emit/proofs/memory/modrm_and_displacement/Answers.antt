use Rattle.std.proofs.Common.{sym, ◌∙◌, rules}
use Rattle.x86_emit.proofs.InstructionWords.{address-bare, address-short, address-long}
use Rattle.x86_emit.proofs.memory.modrm_and_displacement.Goals as goal

pub returns-then-bare : goal.returns-then-bare
returns-then-bare c = address-bare _ _ _ _ c.modrm.ensures.0 c.modrm.ensures.1 (sym c.bare.ensures ∙ c.if-bare.true)

pub returns-then-short : goal.returns-then-short
returns-then-short c =
    let bare = c.bare in
    address-short _ _ _ _ c.modrm-then-short.ensures.0 c.modrm-then-short.ensures.1 (sym bare.ensures ∙ c.if-bare.false)
    (sym c.short.ensures ∙ c.if-short.true)

pub returns : goal.returns
returns c =
    let bare = c.bare in
    address-long _ _ _ _ c.modrm-2.ensures.0 c.modrm-2.ensures.1 (search rules) (sym bare.ensures ∙ c.if-bare.false)
    (sym c.short.ensures ∙ c.if-short.false)
