use Rattle.std.proofs.Common.{is_some, subst, IsTrue}
use Rattle.std.specs.List.{list_all}
use Rattle.em_ports.proofs.Plugged.{list_all-some}
use Rattle.em_ports.proofs.places.Ports.new.Goals as goal

pub returns-clause-plugged : goal.returns-clause-plugged
returns-clause-plugged g c = subst (λ places. IsTrue (list_all is_some places)) c.in_ok-slots.ensures.places (list_all-some _ c.args.ports.items)
