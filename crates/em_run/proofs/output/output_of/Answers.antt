use Rattle.em_run.proofs.Sources.{part_of_bench, part_of_run}
use Rattle.em_run.proofs.output.output_of.Goals as goal

pub returns-in-Run-clause-left : goal.returns-in-Run-clause-left
returns-in-Run-clause-left g c = part_of_run c.args.command c.args.app c.unhinted.result _ _ c.in-Run.is c.unhinted.ensures c.run_output.ensures.part

pub returns-in-Bench-clause-left : goal.returns-in-Bench-clause-left
returns-in-Bench-clause-left g c =
    part_of_bench c.args.command c.args.app c.unhinted-in-Bench.result _ _ c.in-Bench.n c.in-Bench.is c.unhinted-in-Bench.ensures c.bench_output.ensures.part
