-- What a program sees of its machine: the registers and the windows of memory.
-- RISC-V unprivileged manual, RV32I version 2.1, section 2.1 "Programmers' Model for Base Integer ISA"; that memory is
-- seen through windows is this project's own.
use Rattle.std.specs.Prelude.{ℕ, zero, suc, ◌+◌, ◌-◌, ◌*◌, ◌/◌, ◌%◌, Bool, ◌&&◌, ◌==◌, nat_le, List, [], ◌∷◌, ◌++◌, length, take, drop, slice_index, slice_set, if◌then◌else◌}

-- the registers x0 to x31, in order, and the program counter
pub record Registers : Type 0 where
  pub values : List ℕ
  pub pc : ℕ

-- a window: the address where it begins, and its bytes
pub record Memory : Type 0 where
  pub base : ℕ
  pub bytes : List ℕ

-- the address where the own window of a task begins, and that where the shared window begins
abbrev pub own_base : ℕ
own_base = 0x10000000

abbrev pub shared_base : ℕ
shared_base = 0x20000000

-- ---- registers

-- what register r holds: x0 reads as zero (2.1)
abbrev pub register : Registers → ℕ → ℕ
register registers r = if r == 0 then 0 else slice_index registers.values r

-- the registers after register r was written: a write to x0 has no effect (2.1)
abbrev pub with_register : Registers → ℕ → ℕ → Registers
with_register registers r value =
    if r == 0 then registers else record registers { values = slice_set registers.values r value }

-- the registers with another program counter
abbrev pub with_pc : Registers → ℕ → Registers
with_pc registers pc = record registers { pc = pc }

-- ---- bytes of a window: little-endian, the byte at the lowest address counts least. Section 2.6 leaves the order of
-- bytes to the environment: this is this project's own choice

-- the number that bytes stand for
abbrev pub number_of_bytes : List ℕ → ℕ
number_of_bytes [] = 0
number_of_bytes (byte ∷ rest) = byte + 256 * number_of_bytes rest

-- the n lowest bytes of a number
abbrev pub bytes_of : ℕ → ℕ → List ℕ
bytes_of zero number = []
bytes_of (suc n) number = number % 256 ∷ bytes_of n (number / 256)

-- the number that stands in n bytes from a place on
abbrev pub number_in_bytes : List ℕ → ℕ → ℕ → ℕ
number_in_bytes bytes n place = number_of_bytes (take n (drop place bytes))

-- the bytes with a number put into n of them from a place on
abbrev pub with_number : List ℕ → ℕ → ℕ → ℕ → List ℕ
with_number bytes n place number = take place bytes ++ bytes_of n number ++ drop (place + n) bytes

-- ---- data addresses (2.6 "Load and Store Instructions"); the windows are this project's own

-- the n bytes from an address on are wholly inside the window
abbrev pub has_bytes : Memory → ℕ → ℕ → Bool
has_bytes memory n address =
    nat_le memory.base address && nat_le (address + n) (memory.base + length memory.bytes)

-- the number in the n bytes from an address on
abbrev pub window_number : Memory → ℕ → ℕ → ℕ
window_number memory n address = number_in_bytes memory.bytes n (address - memory.base)

-- the window after a number was stored in the n bytes from an address on
abbrev pub after_store : Memory → ℕ → ℕ → ℕ → Memory
after_store memory n address number =
    record memory { bytes = with_number memory.bytes n (address - memory.base) number }
