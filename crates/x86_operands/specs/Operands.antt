-- What an instruction works on, as text: a constant, a place to go to, memory, and the pairs of them that instructions have.
use Rattle.std.specs.Prelude.{List, [], ◌∷◌, ◌++◌, ℕ, ◌+◌, ◌-◌, ◌%◌, ◌^◌, ltb, eqb}
use Rattle.base.specs.Pick.{pick}
use Rattle.base.specs.declared.Size.{Size}
use Rattle.base.specs.declared.Size.TheVariants.{S8, S16, S32, S64}
use Rattle.text.specs.Text.{ascii}
use Rattle.text.specs.Numerals.{extended}
use Rattle.text.specs.Forms.{formed}
use Rattle.x86_registers.specs.Registers.{register_text}

-- A constant of 32 bits as an operation of a size takes it: at 64 bits it is extended by its sign. It is written in hexadecimal.
abbrev pub constant_of : Size → ℕ → ℕ
constant_of S8 i = i
constant_of S16 i = i
constant_of S32 i = i
constant_of S64 i = extended i

-- where a jump goes: the field counts from the end of the instruction, modulo 2 ^ 32
unfoldable pub destination_of : ℕ → ℕ → ℕ
destination_of end field = (end + field) % 2 ^ 32

-- memory: its size, the base, the displacement with its sign. RBP and R13 have no form without one.
abbrev pub size_text : Size → List ℕ
size_text S8 = ascii "BYTE PTR ["
size_text S16 = ascii "WORD PTR ["
size_text S32 = ascii "DWORD PTR ["
size_text S64 = ascii "QWORD PTR ["

unfoldable pub no_displacement_text : ℕ → List ℕ
no_displacement_text b = pick (eqb (b % 8) 5) (ascii "+0x0") []

unfoldable pub displacement_text : ℕ → ℕ → List ℕ
displacement_text b v =
    pick (eqb v 0) (no_displacement_text b)
    (pick (ltb v (2 ^ 31)) (formed (ascii "+0x$") (v ∷ [])) (formed (ascii "-0x$") ((2 ^ 32 - v) ∷ [])))

unfoldable pub memory_text : Size → ℕ → ℕ → List ℕ
memory_text z b v = size_text z ++ (register_text S64 b ++ (displacement_text b v ++ ascii "]"))

-- the operands
unfoldable pub pair_text : Size → ℕ → ℕ → List ℕ
pair_text z d s = register_text z d ++ (ascii "," ++ register_text z s)

unfoldable pub with_constant_text : Size → ℕ → ℕ → List ℕ
with_constant_text z d v = register_text z d ++ formed (ascii ",0x$") (v ∷ [])

-- loads of one and two bytes fill 32 bits of the register
abbrev pub loaded_of : Size → Size
loaded_of S8 = S32
loaded_of S16 = S32
loaded_of S32 = S32
loaded_of S64 = S64

unfoldable pub load_text : Size → ℕ → ℕ → ℕ → List ℕ
load_text z b d v = register_text (loaded_of z) d ++ (ascii "," ++ memory_text z b v)

unfoldable pub store_text : Size → ℕ → ℕ → ℕ → List ℕ
store_text z s b v = memory_text z b v ++ (ascii "," ++ register_text z s)

unfoldable pub store_constant_text : Size → ℕ → ℕ → ℕ → List ℕ
store_constant_text z b v i = memory_text z b v ++ formed (ascii ",0x$") (constant_of z i ∷ [])
