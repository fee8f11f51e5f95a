-- Each `waitjob` of the image of an application stands in a line of its own of its code text.
use Rattle.std.proofs.Common.{◌∙◌, ℕ, ◌+◌, Bool, List, map, sym, ap, subst}
use Rattle.std.specs.Str.Lines.{lines, strip_carriage_return}
use Rattle.em_base.specs.declared.apps.App.{App}
use Rattle.em_base.specs.declared.images.Image.{Image}
use Rattle.em_hint.specs.Lines.{HaveWaitLines}
use Rattle.em_bundle.proofs.CodeLines.{lines-text, unfed-part}
use Rattle.em_bundle.proofs.WaitNumbers.{have-stripped, have-waits, waits-numbered}
use Rattle.em_bundle.specs.Application.{IsApplicationFor}
use Rattle.em_bundle.specs.Code.{IsCodeOf, statements_of}
use Rattle.em_bundle.specs.Parts.{code_header, part_of}

-- each `waitjob` of the image of texts stands in a line of its own of theirs
code_wait_lines : (first : ℕ) (texts : List (List ℕ)) (image : Image) → IsCodeOf first texts image → HaveWaitLines first texts image.waits
code_wait_lines first texts image c =
    let waits = c.assembled.waits ∙ waits-numbered (statements_of first c.items) in
    subst (HaveWaitLines first texts) (sym waits) (have-waits first 0 texts c.items c.read)

-- each `waitjob` of the image of an application stands in a line of its own of its code text, and has its first word there
pub wait_lines : (replay : Bool) (bytes : List ℕ) (app : App) → IsApplicationFor replay bytes app
    → HaveWaitLines (app.code_line + 1) (lines app.code_text) app.image.waits
wait_lines replay bytes app a =
    let texts = part_of code_header (lines bytes) in
    let stripped = have-stripped _ texts app.image.waits (code_wait_lines _ texts app.image a.stands.code) in
    let same = ap lines a.stands.code_text ∙ lines-text texts (unfed-part code_header bytes) in
    subst (λ ls. HaveWaitLines (app.code_line + 1) ls app.image.waits) (sym same)
    (subst (λ n. HaveWaitLines (n + 1) (map strip_carriage_return texts) app.image.waits) (sym a.stands.code_line) stripped)
