-- What is known of the registers along a walk: this project's own.
use Rattle.std.specs.Prelude.{ℕ, ◌==◌, List, replicate, slice_index_or, slice_set, Option, Some, None, if◌then◌else◌}

-- for each of x0 to x31 its value, where that is known
abbrev pub Known : Type 0
Known = List (Option ℕ)

-- what is known of register r; x0 is known to be 0
abbrev pub known_of : Known → ℕ → Option ℕ
known_of known r = if r == 0 then Some 0 else slice_index_or known r None

-- no register is known but x0
abbrev pub nothing_known : Known
nothing_known = replicate 32 None

-- the same after register r was written, with a value that is known or isn't; x0 stays known to be 0
abbrev pub with_known : Known → ℕ → Option ℕ → Known
with_known known r value = if r == 0 then known else slice_set known r value
