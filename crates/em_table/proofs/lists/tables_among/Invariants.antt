use Rattle.std.proofs.Common.{◌≡◌, map, drop, ◌++◌}
use Rattle.std.specs.List.{list_all, filter_map}
use Rattle.toml.specs.Data.{as_table}
use Rattle.toml.specs.View.{view}
use Rattle.em_table.specs.Reading.{groups_of}
use Rattle.em_table.specs.Values.{is_table}
use Rattle.em_table.proofs.lists.tables_among.Given as goal

abbrev pub invariant-loop-value : goal.invariant-loop-value
invariant-loop-value l = record {
  all : list_all is_table (map view l.values) ≡ list_all is_table (map view (drop l.value-index l.values));
  same : filter_map as_table (map view l.values)
      ≡ groups_of l.found.items ++ filter_map as_table (map view (drop l.value-index l.values));
}
