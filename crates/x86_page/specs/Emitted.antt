-- What a memory is once a word is stored at its place.
use Rattle.std.specs.Prelude.{ℕ, ◌+◌}
use Rattle.std.proofs.lemmas.List.Edits.{sets}
use denote.Ref.{at_last}
use Rattle.base.specs.Bytes.{le64}
use Rattle.x86_page.specs.declared.JitMemory.{JitMemory}

-- the same borrow (`at_last x l` is the reference x, its pointer and its ghost name with it, at the list l), and the place `size` bytes further
abbrev pub emitted : JitMemory → ℕ → ℕ → JitMemory
emitted m word size = record { contents = at_last m.contents (sets m.contents.now m.offset.offset (le64 word)); offset = record { offset = m.offset.offset + size } }
