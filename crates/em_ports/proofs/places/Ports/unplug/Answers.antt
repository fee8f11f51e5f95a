use Rattle.std.proofs.Common.{arith}
use Rattle.std.proofs.lemmas.List.{map-set, get_or-map}
use Rattle.std.proofs.lemmas.Grind.{common_steps}
use Rattle.em_ports.proofs.places.Ports.unplug.Goals as goal

pub returns-clause-places : goal.returns-clause-places
returns-clause-places g c = grind (arith, common_steps, map-set, get_or-map)
