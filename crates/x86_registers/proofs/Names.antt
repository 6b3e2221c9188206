-- All the names of specs/Registers.antt, written out: the sixteen registers at each size.
use mathlib.Core.Path.{◌≡◌, refl}
use mathlib.Core.List.{List, [], ◌∷◌}
use Prim.Native.Nat.{ℕ}
use Prim.Native.String.{String}
use Rattle.base.specs.Table.{values}
use Rattle.base.specs.declared.Size.TheVariants.{S8, S16, S32, S64}
use Rattle.text.specs.Text.{ascii}
use Rattle.text.specs.Numerals.{decimal}
use Rattle.x86_registers.specs.Registers.{byte_text, register_text, stem_text}

abbrev texts : List String → List (List ℕ)
texts [] = []
texts (s ∷ ss) = ascii s ∷ texts ss

names64 : values (register_text S64) 0 16
    ≡ texts ("rax" ∷ "rcx" ∷ "rdx" ∷ "rbx" ∷ "rsp" ∷ "rbp" ∷ "rsi" ∷ "rdi" ∷ "r8" ∷ "r9" ∷ "r10" ∷ "r11" ∷ "r12" ∷ "r13" ∷ "r14" ∷ "r15" ∷ [])
unfolding register_text stem_text decimal
names64 = refl

names32 : values (register_text S32) 0 16
    ≡ texts ("eax" ∷ "ecx" ∷ "edx" ∷ "ebx" ∷ "esp" ∷ "ebp" ∷ "esi" ∷ "edi" ∷ "r8d" ∷ "r9d" ∷ "r10d" ∷ "r11d" ∷ "r12d" ∷ "r13d" ∷ "r14d" ∷ "r15d" ∷ [])
unfolding register_text stem_text decimal
names32 = refl

names16 : values (register_text S16) 0 16
    ≡ texts ("ax" ∷ "cx" ∷ "dx" ∷ "bx" ∷ "sp" ∷ "bp" ∷ "si" ∷ "di" ∷ "r8w" ∷ "r9w" ∷ "r10w" ∷ "r11w" ∷ "r12w" ∷ "r13w" ∷ "r14w" ∷ "r15w" ∷ [])
unfolding register_text stem_text decimal
names16 = refl

names8 : values (register_text S8) 0 16
    ≡ texts ("al" ∷ "cl" ∷ "dl" ∷ "bl" ∷ "spl" ∷ "bpl" ∷ "sil" ∷ "dil" ∷ "r8b" ∷ "r9b" ∷ "r10b" ∷ "r11b" ∷ "r12b" ∷ "r13b" ∷ "r14b" ∷ "r15b" ∷ [])
unfolding register_text byte_text decimal
names8 = refl
