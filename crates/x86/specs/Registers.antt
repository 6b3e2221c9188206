-- The machine numbers of the registers (Intel 64 manual, volume 2, table 3-1), under the Rust's names.
use Rattle.std.specs.Prelude.{ℕ}

abbrev pub RAX : ℕ
RAX = 0

abbrev pub RCX : ℕ
RCX = 1

abbrev pub RDX : ℕ
RDX = 2

abbrev pub RBX : ℕ
RBX = 3

abbrev pub RSP : ℕ
RSP = 4

abbrev pub RBP : ℕ
RBP = 5

abbrev pub RSI : ℕ
RSI = 6

abbrev pub RDI : ℕ
RDI = 7

abbrev pub R8 : ℕ
R8 = 8

abbrev pub R9 : ℕ
R9 = 9

abbrev pub R10 : ℕ
R10 = 10

abbrev pub R11 : ℕ
R11 = 11

abbrev pub R13 : ℕ
R13 = 13

abbrev pub R14 : ℕ
R14 = 14

abbrev pub R15 : ℕ
R15 = 15
