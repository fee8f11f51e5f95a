use Rattle.std.proofs.Common.{sym, ap, ◌∙◌}
use Rattle.em_gate.specs.Calls.{known_by, refusal}
use Rattle.em_gate.proofs.Refused.{coded, no_call}
use Rattle.em_gate.proofs.refusals.refusal.Goals as goal

pub returns-in-WaitJob-clause-code : goal.returns-in-WaitJob-clause-code
returns-in-WaitJob-clause-code c = coded _ _ _ _ _ (c.held_refusal.ensures.waitjob c.args.table.now c.args.t.0)

pub returns-in-Acquire-clause-code : goal.returns-in-Acquire-clause-code
returns-in-Acquire-clause-code c = coded _ _ _ _ _ c.acquire_refusal.ensures

pub returns-in-Release-clause-code : goal.returns-in-Release-clause-code
returns-in-Release-clause-code c = coded _ _ _ _ _ (c.release_refusal.ensures c.args.t.0)

pub returns-in-Out-clause-code : goal.returns-in-Out-clause-code
returns-in-Out-clause-code c = coded _ _ _ _ _ (c.out_refusal.ensures c.args.table.now c.args.t.0 0)

pub returns-in-Write-clause-code : goal.returns-in-Write-clause-code
returns-in-Write-clause-code c = coded _ _ _ _ _ (c.write_refusal.ensures (known_by c.args.facts.now))

pub returns-in-Read-clause-code : goal.returns-in-Read-clause-code
returns-in-Read-clause-code c = coded _ _ _ _ _ (c.read_refusal.ensures (known_by c.args.facts.now))

pub returns-in-Signal-clause-code : goal.returns-in-Signal-clause-code
returns-in-Signal-clause-code c = coded _ _ _ _ _ (c.signal_refusal.ensures c.args.t.0 0)

pub returns-in-Unknown-clause-first : goal.returns-in-Unknown-clause-first
returns-in-Unknown-clause-first c =
    sym (ap (λ call. refusal call c.args.table.now c.args.t.0 (known_by c.args.facts.now)) c.in-Unknown.is ∙ no_call _ c.args.table.now c.args.t.0 (known_by c.args.facts.now))
