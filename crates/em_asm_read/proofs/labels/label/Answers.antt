use Rattle.std.proofs.Common.{sym, ◌∙◌}
use Rattle.em_asm_read.proofs.Ascii.{utf8-label}
use Rattle.em_asm_read.proofs.labels.label.Goals as goal

pub unreachable-requires : goal.unreachable-requires
unreachable-requires c = c.in-Err.ensures.cases.0 (utf8-label c.args.text.now (sym c.is_label.ensures ∙ c.if-not-is_label.false))
