use Rattle.std.proofs.Common.{◌≡◌, drop, ◌++◌}
use Rattle.em_base.specs.Tables.{names_of}
use Rattle.em_base.specs.Text.{texts_of}
use Rattle.em_table.proofs.across.names_in.Given as goal

abbrev pub invariant-loop-row : goal.invariant-loop-row
invariant-loop-row l = names_of l.rows ≡ texts_of l.names.items ++ names_of (drop l.row-index l.rows)
