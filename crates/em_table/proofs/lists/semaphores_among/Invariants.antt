use Rattle.std.proofs.Common.{◌≡◌, map, drop, ◌++◌}
use Rattle.std.specs.List.{list_all, filter_map}
use Rattle.toml.specs.View.{view}
use Rattle.em_table.specs.Reading.{numbers_of}
use Rattle.em_table.specs.Values.{is_below, number_in}
use Rattle.em_table.proofs.lists.semaphores_among.Given as goal

abbrev pub invariant-loop-value : goal.invariant-loop-value
invariant-loop-value l = record {
  all : list_all (is_below l.semaphores) (map view l.values) ≡ list_all (is_below l.semaphores) (map view (drop l.value-index l.values));
  same : filter_map number_in (map view l.values)
      ≡ numbers_of l.found ++ filter_map number_in (map view (drop l.value-index l.values));
}
