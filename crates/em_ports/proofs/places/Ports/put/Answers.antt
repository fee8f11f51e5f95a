use Rattle.std.proofs.Common.{arith}
use Rattle.std.proofs.lemmas.List.{map-set, get_or-map, get_or-set_same}
use Rattle.std.proofs.lemmas.Grind.{common_steps}
use Rattle.em_ports.proofs.places.Ports.put.Goals as goal

pub returns-clause-places : goal.returns-clause-places
returns-clause-places g c = grind (arith, common_steps, map-set, get_or-map)

pub returns-clause-value : goal.returns-clause-value
returns-clause-value g c = grind (arith, common_steps, map-set, get_or-map, get_or-set_same)
