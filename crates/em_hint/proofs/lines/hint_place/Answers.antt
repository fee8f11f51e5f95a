use Rattle.std.proofs.Common.{ap, ◌∙◌, drop}
use Rattle.em_base.specs.Text.{unindented}
use Rattle.em_hint.specs.Lines.{label_size}
use Rattle.em_hint.proofs.HintPlaces.{place_boundary}
use Rattle.em_hint.proofs.lines.hint_place.Goals as goal

pub returns-clause-boundary : goal.returns-clause-boundary
returns-clause-boundary c =
    place_boundary c.args.line.now c.skip_blanks-statement.result.now c.requires (c.skip_blanks-statement.ensures ∙ ap unindented (c.unlabelled.ensures ∙ ap (λ t. drop (label_size t) t) c.as_bytes.ensures.value))
