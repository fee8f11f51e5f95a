use Rattle.std.proofs.Common.{◌∙◌, ap, sym, Some, map}
use Rattle.std.specs.Option.{option_map}
use Rattle.toml.specs.View.{view}
use Rattle.em_table.specs.Values.{list_of}
use Rattle.em_table.proofs.NextValue.{list_of-items_of}
use Rattle.em_table.proofs.lists.items_of.Goals as goal

pub returns-in-Some : goal.returns-in-Some
returns-in-Some c =
    ap (λ vs. Some (map view vs)) c.as_slice.ensures.value
    ∙ ap Some (sym (list_of-items_of (map view c.in-Some.array.now.items)))
    ∙ ap (option_map list_of) c.in-Some.ensures
