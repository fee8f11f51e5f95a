use Rattle.std.proofs.Common.{◌≡◌, ℕ, ◌*◌, ap, ◌∙◌, arith}
use Rattle.em_hart.specs.Hart.{Memory, number_in_bytes, with_number}
use Rattle.em_hart.proofs.OtherNumbersStay.{number_in_bytes-with_number_other}
use Rattle.em_hart.proofs.windows.Window.set_word.Goals as goal

pub returns-clause-others : goal.returns-clause-others
returns-clause-others c j n =
    let bytes = c.args.self.now.bytes in
    let i = c.args.i in
    let e : i * 4 ≡ 4 * i = omega arith in
    ap (λ (x : Memory). number_in_bytes x.bytes 4 (4 * j)) c.put.ensures.whole
    ∙ ap (λ (p : ℕ). number_in_bytes (with_number bytes 4 p c.args.w) 4 (4 * j)) e
    ∙ number_in_bytes-with_number_other bytes i j c.args.w n (omega (arith, c.requires))
