-- How much an access touches.
use Rattle.std.specs.Prelude.{ℕ}
use Rattle.em_hart.specs.declared.widths.Width.{Width}
use Rattle.em_hart.specs.declared.widths.Width.TheVariants.{Byte, Half, Word}

-- the number of bytes that an access touches (2.6 "Load and Store Instructions")
abbrev pub bytes_in : Width → ℕ
bytes_in Byte = 1
bytes_in Half = 2
bytes_in Word = 4
