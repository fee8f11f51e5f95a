-- The numbers with which the program ends: this project's own.
use Rattle.std.specs.Prelude.{ℕ}
use Rattle.em_run.specs.declared.status.Status.{Status}
use Rattle.em_run.specs.declared.status.Status.TheVariants.{Done, Usage, ReadFault, WriteFault, TooLong, Malformed, Lapped, Misfit, NoMemory}

-- the number of a status
abbrev pub exit_number : Status → ℕ
exit_number Done = 0
exit_number Usage = 1
exit_number ReadFault = 2
exit_number WriteFault = 3
exit_number TooLong = 4
exit_number Malformed = 5
exit_number Lapped = 7
exit_number Misfit = 8
exit_number NoMemory = 9
