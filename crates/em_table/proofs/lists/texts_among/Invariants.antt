use Rattle.std.proofs.Common.{◌≡◌, map, drop, ◌++◌}
use Rattle.std.specs.List.{list_all, filter_map}
use Rattle.toml.specs.Data.{as_str}
use Rattle.toml.specs.View.{view}
use Rattle.em_base.specs.Text.{texts_of}
use Rattle.em_table.specs.Values.{is_text}
use Rattle.em_table.proofs.lists.texts_among.Given as goal

abbrev pub invariant-loop-value : goal.invariant-loop-value
invariant-loop-value l = record {
  all : list_all is_text (map view l.values) ≡ list_all is_text (map view (drop l.value-index l.values));
  same : filter_map as_str (map view l.values)
      ≡ texts_of l.found.items ++ filter_map as_str (map view (drop l.value-index l.values));
}
