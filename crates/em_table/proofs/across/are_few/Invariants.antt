use Rattle.std.proofs.Common.{◌≡◌, ◌-◌, ◌^◌, take, min, sum_by}
use Rattle.em_base.specs.Tables.{releases_of}
use Rattle.em_table.proofs.across.are_few.Given as goal

abbrev pub invariant-loop-row : goal.invariant-loop-row
invariant-loop-row l = l.total ≡ min (sum_by (releases_of l.horizon) (take l.row-index l.rows)) (2 ^ 32 - 1)
