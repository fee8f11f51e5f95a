use Rattle.em_bundle.specs.Walk.{part_lines}
use Rattle.em_bundle.proofs.Loaded.{text-fails}
use Rattle.em_bundle.proofs.loading.load_text.Goals as goal

pub returns-in-Ok-clause-refused : goal.returns-in-Ok-clause-refused
returns-in-Ok-clause-refused c =
    text-fails c.args.replay c.args.text.now (part_lines c.in-Ok.parts) c.load_parts.result c.utf8.text c.in-Ok.ensures.cut c.in-Ok.ensures.parts c.load_parts.ensures.refused
