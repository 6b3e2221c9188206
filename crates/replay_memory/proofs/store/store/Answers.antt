use Rattle.std.proofs.Common.{◌∙◌, arith, rules}
use Rattle.base.specs.declared.Size.TheVariants.{S32, S64}
use Rattle.replay_memory.proofs.StoreLaws.{copied, four-bytes, eight-bytes}
use Rattle.replay_memory.proofs.store.store.Goals as goal

pub returns-in-S32 : goal.returns-in-S32
returns-in-S32 c =
    let a = c.args in
    let same = c.copy_from_slice-in-S32.ensures.after ∙ (c.to_le_bytes-in-S32.ensures ∙ four-bytes _ a.value (search rules)) in
    rw c.in-S32.is (copied S32 a.area.now _ a.at a.value (rw c.in-S32.is at c.requires) same)

pub returns-in-S64 : goal.returns-in-S64
returns-in-S64 c =
    let a = c.args in
    let same = c.copy_from_slice-in-S64.ensures.after ∙ (c.to_le_bytes-in-S64.ensures ∙ eight-bytes a.value) in
    rw c.in-S64.is (copied S64 a.area.now _ a.at a.value (rw c.in-S64.is at c.requires) same)
