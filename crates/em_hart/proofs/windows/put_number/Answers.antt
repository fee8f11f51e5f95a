use Rattle.std.proofs.Common.{◌≡◌, length, arith, ap, ◌+◌, ◌<◌}
use Rattle.em_hart.specs.Widths.{bytes_in}
use Rattle.em_hart.proofs.BytesInARow.{put_four, four_bytes}
use Rattle.em_hart.proofs.windows.put_number.Goals as goal

pub returns-in-Word-clause-whole : goal.returns-in-Word-clause-whole
returns-in-Word-clause-whole c =
    let four : bytes_in c.args.width ≡ 4 = ap bytes_in c.in-Word.is in
    let h : c.args.place + 3 < length c.args.bytes.now = omega (arith, c.requires) in
    grind (arith, put_four, four_bytes)
