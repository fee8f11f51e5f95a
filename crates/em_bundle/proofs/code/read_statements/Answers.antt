use Rattle.std.proofs.Common.{arith, subst, sym}
use Rattle.std.specs.List.{All}
use Rattle.std.specs.Str.Lines.{lines}
use Rattle.em_asm_read.specs.Fitting.{LineFits}
use Rattle.em_bundle.proofs.StatementsRead.{fits-next, misread-fail, read-begins, read-next}
use Rattle.em_bundle.proofs.code.read_statements.Goals as goal

pub lines-init : goal.lines-init
lines-init c = record {
  read = read-begins c.args.first (lines c.args.text.now) (record { lines = c.new.result; numbers = c.new-2.result }) c.new.ensures c.new-2.ensures;
  fits = subst (All LineFits) (sym c.new.ensures) (λ k d h. absurd (omega arith));
  utf8 = c.utf8.text;
}

pub lines-preserved : goal.lines-preserved
lines-preserved c =
    let more = c.in_ok-add_line-in-Ok.ensures in
    record {
      read = read-next c.args.first (lines c.args.text.now) (lines c.lines.rest.now) (lines c.in-Some.after.now) c.lines.number c.lines.found c.add_line.new.to
          c.in-Some.line.now c.in-Ok.line c.lines.invariant.read c.in-Some.ensures.first.first c.in-Ok.ensures.read more.lines more.numbers;
      fits = fits-next c.lines.found.lines c.add_line.new.to.lines c.in-Ok.line c.lines.invariant.fits c.in-Ok.ensures.fits more.lines;
      utf8 = c.in-Some.ensures.utf8;
    }

pub returns-in-Err-clause-refused : goal.returns-in-Err-clause-refused
returns-in-Err-clause-refused c =
    misread-fail c.args.first (lines c.args.text.now) (lines c.lines.rest.now) (lines c.in-Some.after.now) c.lines.number c.lines.found c.in-Some.line.now c.in-Err.fail
    c.at.result c.one_meaning.ensures.either c.lines.invariant.read c.in-Some.ensures.first.first c.in-Err.ensures.refused c.at.ensures
