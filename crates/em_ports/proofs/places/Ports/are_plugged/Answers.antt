use Rattle.std.proofs.Common.{rules, ◌∙◌, is_some, sym, tests}
use Rattle.std.proofs.lemmas.Iterator.{YieldsList-from_slice}
use Rattle.std.proofs.lemmas.Iterator.Search.{all_from_yields_List}
use Rattle.em_ports.proofs.Plugged.{list_all-option_map}
use Rattle.em_ports.proofs.places.Ports.are_plugged.Goals as goal

pub returns-clause-all : goal.returns-clause-all
returns-clause-all g c =
    let slots = c.args.self.now.slots.items in
    all_from_yields_List is_some _ _ c.all.result c.all.ensures.ran (YieldsList-from_slice slots cc) (λ x b q k. search (rules, tests))
    ∙ sym (list_all-option_map _ slots)
