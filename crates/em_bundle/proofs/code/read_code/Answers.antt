use Rattle.std.proofs.Common.{ap, arith, length, subst, sym}
use Rattle.std.proofs.lemmas.Result.{IfErr-weaker, IfOk-weaker}
use Rattle.std.specs.List.{All}
use Rattle.std.specs.Prelude.{slice_index}
use Rattle.std.specs.Str.Lines.{lines}
use Rattle.em_asm_read.specs.Fitting.{LineFits}
use Rattle.em_asm.specs.Image.{IsAssemblyFail, IsImageOf}
use Rattle.em_bundle.specs.Code.{IsCodeOf}
use Rattle.em_bundle.specs.Walk.{IsCodeFail}
use Rattle.em_bundle.proofs.StatementsRead.{as-many, code-found, code-refused}
use Rattle.em_bundle.proofs.code.read_code.Goals as goal

pub assemble_numbered-requires : goal.assemble_numbered-requires
assemble_numbered-requires c = record {
  numbered = omega (arith, ap length c.as_slice-2.ensures, ap length c.as_slice.ensures, as-many c.args.first (lines c.args.text.now) c.in_ok-found.found c.in_ok-found.ensures.read);
  fits = subst (All LineFits) (sym c.as_slice-2.ensures) c.in_ok-found.ensures.fits;
}

pub returns-clause-image : goal.returns-clause-image
returns-clause-image c =
    IfOk-weaker c.assemble_numbered.result (IsImageOf (λ place. slice_index c.as_slice.result.now place) c.as_slice-2.result.now) (IsCodeOf c.args.first (lines c.args.text.now))
    (λ image h. code-found c.args.first (lines c.args.text.now) c.in_ok-found.found c.as_slice-2.result.now c.as_slice.result.now image c.in_ok-found.ensures.read
    c.as_slice-2.ensures c.as_slice.ensures h)
    c.assemble_numbered.ensures.image

pub returns-clause-refused : goal.returns-clause-refused
returns-clause-refused c =
    IfErr-weaker c.assemble_numbered.result (IsAssemblyFail (λ place. slice_index c.as_slice.result.now place) c.as_slice-2.result.now) (IsCodeFail c.args.first (lines c.args.text.now))
    (λ fail h. code-refused c.args.first (lines c.args.text.now) c.in_ok-found.found c.as_slice-2.result.now c.as_slice.result.now fail c.in_ok-found.ensures.read
    c.as_slice-2.ensures c.as_slice.ensures h)
    c.assemble_numbered.ensures.refused
